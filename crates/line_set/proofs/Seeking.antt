-- Laws on finding channels by their place.
-- Assumes nothing.
use Prim.Native.Nat.{ℕ, ◌<◌}
use mathlib.Core.List.{List}
use mathlib.Core.Bool.{Bool, true, false, cond}
use mathlib.Core.Path.{◌≡◌, refl, sym, ◌∙◌}
use native.Mathlib.Omega.{arith}
use lib.Dec.{eqb, ltb}
use lib.ListN.{length, take}
use lib.Seq.{length-take-le, take_all}
use borrow.Author.Tests.{ltb-true, ltb-false}
use Rattle.laws.proofs.Tests.{by_test}
use Rattle.laws.proofs.Seeking.{Seeks}
use Rattle.channel.specs.declared.state.Channel.{Channel}
use Rattle.set_state.specs.State.{place_of}

-- how many of 32 are the first n
count-is : {A : Type 0} (xs : List A) (n : ℕ) → length xs ≡ 32 → cond (ltb 32 n) 32 n ≡ length (take n xs)
count-is xs n l = go (ltb 32 n) refl
  where
    go : (t : Bool) → ltb 32 n ≡ t → cond (ltb 32 n) 32 n ≡ length (take n xs)
    go true k = rw (k, take_all n xs (omega (arith, ltb-true 32 n k))) (sym l)
    go false k = rw k (sym (length-take-le n xs (omega (arith, ltb-false 32 n k))))

-- the count of a plan's channels, from what is known of an array by its machine values
pub counted : {A : Type 0} (xs : List A) (n count : ℕ) → length xs ≡ 32 → count ≡ cond (ltb 32 n) 32 n → count ≡ length (take n xs)
counted xs n count l e = e ∙ count-is xs n l

-- the same behind a loop over them, where the length is known once an element was read
pub passed : {A : Type 0} (xs : List A) (n count k : ℕ) → count ≡ cond (ltb 32 n) 32 n → k ≡ count → (0 < k → length xs ≡ 32) → k ≡ length (take n xs)
passed xs n count k e f l = by_test (ltb 0 k) (λ t. f ∙ counted xs n count (l (ltb-true 0 k t)) e) (λ t. none (omega (arith, ltb-false 0 k t)))
  where
    none : k ≡ 0 → k ≡ length (take n xs)
    none z = go (ltb 32 n) refl
      where
        go : (t : Bool) → ltb 32 n ≡ t → k ≡ length (take n xs)
        go true q = absurd (let w : cond (ltb 32 n) 32 n ≡ 32 = rw q refl in omega (arith, w, e, f))
        go false q = let w : cond (ltb 32 n) 32 n ≡ n = rw q refl in let n_none : n ≡ 0 = omega (arith, w, e, f) in rw (z, n_none) refl

-- a channel is sought by its code
pub by_code : (code : ℕ) → Seeks (λ (c : Channel). eqb c.code code) (place_of code)
unfolding place_of
by_code code = record { none = refl; one = λ c cs. refl }
