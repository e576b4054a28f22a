-- The place of the first element of a list that passes a test, sought from place to place.
-- Assumes nothing.
use Prim.Native.Nat.{ℕ, ◌+◌, ◌≤◌, ◌<◌}
use mathlib.Core.List.{List, [], ◌∷◌}
use mathlib.Core.Bool.{Bool, true, false, cond}
use mathlib.Core.Path.{◌≡◌, refl, sym}
use native.Mathlib.Omega.{arith}
use native.Mathlib.Nat.{zero-add}
use native.Mathlib.Numerals.{add-one}
use lib.ListN.{length, drop, get_or, drop_of_length-le}
use lib.Seq.{drop-cons}

-- it gives the place of the first that passes, and the length of the list if none does
pub record Seeks {A : Type 0} (test : A → Bool) (place : List A → ℕ) : Type 0 where
  pub none : place [] ≡ 0
  pub one : (x : A) (xs : List A) → place (x ∷ xs) ≡ cond (test x) 0 (1 + place xs)

-- the elements before place i do not pass
pub record Sought {A : Type 0} (place : List A → ℕ) (xs : List A) (i : ℕ) : Type 0 where
  pub left : place xs ≡ i + place (drop i xs)
  pub within : i ≤ length xs

pub sought-first : {A : Type 0} (place : List A → ℕ) (xs : List A) → Sought place xs 0
sought-first place xs = record { left = sym (zero-add _); within = omega arith }

module _ {A : Type 0} {test : A → Bool} {place : List A → ℕ} (k : Seeks test place) (xs : List A) where
  pub sought-next : (i : ℕ) (z : A) → i < length xs → test (get_or xs i z) ≡ false → Sought place xs i → Sought place xs (i + 1)
  sought-next i z h ne s =
      let e : place (drop i xs) ≡ 1 + place (drop (i + 1) xs) = rw (drop-cons xs i z h, k.one, ne, add-one) refl in
      record { left = omega (arith, s.left, e); within = omega arith }

  pub sought-found : (i : ℕ) (z : A) → i < length xs → test (get_or xs i z) ≡ true → Sought place xs i → i ≡ place xs
  sought-found i z h eq s =
      let e : place (drop i xs) ≡ 0 = rw (drop-cons xs i z h, k.one, eq) refl in
      omega (arith, s.left, e)

  pub sought-last : (i : ℕ) → length xs ≤ i → Sought place xs i → i ≡ place xs
  sought-last i h s =
      let e : place (drop i xs) ≡ 0 = rw (drop_of_length-le xs h) k.none in
      omega (arith, s.left, e)
