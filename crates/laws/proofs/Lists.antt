-- Elements of a list by their place, and parts of a list.
-- Assumes nothing.
use Prim.Native.Nat.{ℕ, zero, suc, ◌+◌, ◌-◌, ◌<◌}
use mathlib.Core.List.{List, [], ◌∷◌, ◌++◌, map}
use mathlib.Core.Path.{◌≡◌, refl, sym, ap, ◌∙◌}
use native.Mathlib.Omega.{arith}
use native.Mathlib.Nat.{zero-add, add-zero, suc-add, sub-zero, zero-sub, suc-sub-suc}
use lib.ListN.{length, length-take, length-drop, get_or, take, drop, set, replicate}
use lib.Seq.{take_all, take-nil, get_or-take, sets}

module _ {A : Type 0} where
  pub none-long : (xs : List A) → length xs ≡ 0 → xs ≡ []
  none-long [] h = refl
  none-long (x ∷ xs) h = absurd (omega arith)

  -- an element that is there, whatever stands for those that are not
  pub any_default : (xs : List A) (i : ℕ) (y z : A) → i < length xs → get_or xs i y ≡ get_or xs i z
  any_default [] i y z h = absurd (omega arith)
  any_default (x ∷ xs) zero y z h = refl
  any_default (x ∷ xs) (suc i) y z h = any_default xs i y z (omega arith)

  -- an element among the first n
  pub at-taken : (xs : List A) (n i : ℕ) (y z : A) → i < length (take n xs) → get_or (take n xs) i y ≡ get_or xs i z
  at-taken xs n i y z h = any_default (take n xs) i y z h ∙ get_or-take n xs i z (omega (arith, length-take n xs))

  -- n, or as many as there are
  pub take_count : (n : ℕ) (xs : List A) → take (length (take n xs)) xs ≡ take n xs
  take_count zero xs = refl
  take_count (suc n) [] = refl
  take_count (suc n) (x ∷ xs) = ap (λ (l : List A). x ∷ l) (take_count n xs)

  pub drop-count : (n : ℕ) (xs : List A) → drop (length (take n xs)) xs ≡ drop n xs
  drop-count zero xs = refl
  drop-count (suc n) [] = refl
  drop-count (suc n) (x ∷ xs) = drop-count n xs

  -- the part from a place to the end
  pub part_to_end : (xs : List A) (a : ℕ) → take (length xs - a) (drop a xs) ≡ drop a xs
  part_to_end xs a = take_all (length xs - a) (drop a xs) (simp length-drop (omega arith))

  -- a part is what the front that ends with it leaves behind its start
  pub part-front : (a n : ℕ) (xs : List A) → take n (drop a xs) ≡ drop a (take (a + n) xs)
  part-front zero n xs = rw zero-add
  part-front (suc a) n [] = rw suc-add (take-nil n)
  part-front (suc a) n (x ∷ xs) = rw suc-add (part-front a n xs)

  pub drop-replicate : (n k : ℕ) (z : A) → drop k (replicate n z) ≡ replicate (n - k) z
  drop-replicate n zero z = rw sub-zero
  drop-replicate zero (suc k) z = rw zero-sub
  drop-replicate (suc n) (suc k) z = rw suc-sub-suc (drop-replicate n k z)

  -- one run of stores after another is the run of both
  pub sets_append : (l : List A) (i : ℕ) (xs ys : List A) → sets l i (xs ++ ys) ≡ sets (sets l i xs) (i + length xs) ys
  sets_append l i [] ys = ap (λ (k : ℕ). sets l k ys) (sym (add-zero i))
  sets_append l i (x ∷ xs) ys =
      sets_append (set l i x) (suc i) xs ys ∙ ap (λ (k : ℕ). sets (sets (set l i x) (suc i) xs) k ys) (omega arith)

  -- a list is its elements one by one
  unfoldable pub tab : ℕ → (ℕ → A) → List A
  tab zero f = []
  tab (suc n) f = f 0 ∷ tab n (λ i. f (suc i))

  pub tab-all : (xs : List A) (z : A) → tab (length xs) (λ i. get_or xs i z) ≡ xs
  unfolding tab
  tab-all [] z = refl
  tab-all (x ∷ xs) z = ap (λ (l : List A). x ∷ l) (tab-all xs z)

-- ---- of the list that a function makes of another

module _ {A B : Type 0} (f : A → B) where
  pub take-map : (n : ℕ) (xs : List A) → take n (map f xs) ≡ map f (take n xs)
  take-map zero xs = refl
  take-map (suc n) [] = refl
  take-map (suc n) (x ∷ xs) = ap (λ (l : List B). f x ∷ l) (take-map n xs)

  pub drop-map : (n : ℕ) (xs : List A) → drop n (map f xs) ≡ map f (drop n xs)
  drop-map zero xs = refl
  drop-map (suc n) [] = refl
  drop-map (suc n) (x ∷ xs) = drop-map n xs

  pub map-set : (xs : List A) (i : ℕ) (x : A) → map f (set xs i x) ≡ set (map f xs) i (f x)
  map-set [] i x = refl
  map-set (y ∷ xs) zero x = refl
  map-set (y ∷ xs) (suc i) x = ap (λ (l : List B). f y ∷ l) (map-set xs i x)
