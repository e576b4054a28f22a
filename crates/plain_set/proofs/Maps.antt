-- A loop that makes one list of another, element by element.
-- Assumes nothing.
use Prim.Native.Nat.{ℕ, ◌+◌, ◌≤◌, ◌<◌}
use mathlib.Core.List.{List, [], ◌∷◌, map, map-append}
use mathlib.Core.Path.{◌≡◌, refl, sym, ap, ◌∙◌}
use native.Mathlib.Numerals.{add-one}
use native.Mathlib.Omega.{arith}
use lib.ListN.{length, take, get_or, set, length-set}
use lib.Seq.{take_all, take-suc, take-suc-set}

-- what maps each element back maps the list back
pub map_back : {A B : Type 0} (f : A → B) (g : B → A) → ((x : A) → g (f x) ≡ x) → (xs : List A) → map g (map f xs) ≡ xs
map_back f g h [] = refl
map_back f g h (x ∷ xs) = rw (h x, map_back f g h xs) refl

-- the loop's invariant: of n elements the first i are made
pub record Mapped {A B : Type 0} (f : A → B) (n : ℕ) (xs : List A) (i : ℕ) (out : List B) : Type 0 where
  pub made : take i out ≡ map f (take i xs)
  pub given : length xs ≡ n
  pub room : length out ≡ n
  pub within : i ≤ n

module _ {A B : Type 0} {f : A → B} {n : ℕ} {xs : List A} where
  pub map-start : {out : List B} → length xs ≡ n → length out ≡ n → Mapped f n xs 0 out
  map-start h k = record { made = refl; given = h; room = k; within = omega arith }

  pub map_next : {i : ℕ} {out : List B} → Mapped f n xs i out → i < n → (z : A) {y : B} → y ≡ f (get_or xs i z) → Mapped f n xs (i + 1) (set out i y)
  map_next {i} {out} m h z {y} e = record {
    made = rw (add-one, take-suc-set out i y (omega (arith, m.room)), m.made, take-suc xs i z (omega (arith, m.given)), map-append f (take i xs) (get_or xs i z ∷ []), e) refl;
    given = m.given;
    room = length-set out i y ∙ m.room;
    within = omega arith;
  }

  pub map-done : {i : ℕ} {out : List B} → Mapped f n xs i out → n ≤ i → out ≡ map f xs
  map-done {i} {out} m h =
      sym (take_all i out (omega (arith, m.room))) ∙ (m.made ∙ ap (map f) (take_all i xs (omega (arith, m.given))))
