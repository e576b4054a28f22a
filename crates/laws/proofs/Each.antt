-- Lists all of whose elements have a property.
-- Assumes nothing.
use Prim.Native.Nat.{ℕ, zero, suc}
use mathlib.Core.List.{List, [], ◌∷◌, ◌++◌}
use lib.ListN.{take, drop, get_or, set, replicate}
use Rattle.laws.specs.Each.{Each}

-- what is shown of one element, and then of those behind it
infixr 4 ◌▹◌
pub ◌▹◌ : {A B : Type 0} → A → B → A × B
a ▹ b = (a, b)

module _ {A : Type 0} (P : A → Type 0) where
  pub each_at : (xs : List A) (z : A) → Each P xs → P z → (i : ℕ) → P (get_or xs i z)
  each_at [] z o p i = p
  each_at (x ∷ xs) z o p zero = o.0
  each_at (x ∷ xs) z o p (suc i) = each_at xs z o.1 p i

  pub each_set : (xs : List A) (i : ℕ) (x : A) → Each P xs → P x → Each P (set xs i x)
  each_set [] i x o p = tt
  each_set (y ∷ xs) zero x o p = (p, o.1)
  each_set (y ∷ xs) (suc i) x o p = (o.0, each_set xs i x o.1 p)

  pub each_take : (n : ℕ) (xs : List A) → Each P xs → Each P (take n xs)
  each_take zero xs o = tt
  each_take (suc n) [] o = tt
  each_take (suc n) (x ∷ xs) o = (o.0, each_take n xs o.1)

  pub each_drop : (n : ℕ) (xs : List A) → Each P xs → Each P (drop n xs)
  each_drop zero xs o = o
  each_drop (suc n) [] o = tt
  each_drop (suc n) (x ∷ xs) o = each_drop n xs o.1

  pub each_append : (xs ys : List A) → Each P xs → Each P ys → Each P (xs ++ ys)
  each_append [] ys o p = p
  each_append (x ∷ xs) ys o p = (o.0, each_append xs ys o.1 p)

  pub each_same : (n : ℕ) (z : A) → P z → Each P (replicate n z)
  each_same zero z p = tt
  each_same (suc n) z p = (p, each_same n z p)

-- what has one property has another that follows from it
pub each_map : {A : Type 0} (P Q : A → Type 0) → ((x : A) → P x → Q x) → (xs : List A) → Each P xs → Each Q xs
each_map P Q f [] o = tt
each_map P Q f (x ∷ xs) o = (f x o.0, each_map P Q f xs o.1)

-- what has two properties
pub each_both : {A : Type 0} (P Q : A → Type 0) (xs : List A) → Each P xs → Each Q xs → Each (λ x. P x × Q x) xs
each_both P Q [] o p = tt
each_both P Q (x ∷ xs) o p = ((o.0, p.0), each_both P Q xs o.1 p.1)
