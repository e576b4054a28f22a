-- Who is in the set of one desk: that desk alone.
-- Assumes nothing.
use Prim.Native.Nat.{ℕ, zero, suc, ◌*◌, ◌/◌, ◌%◌, ◌^◌}
use mathlib.Core.Bool.{Bool, true, false, false≢true}
use mathlib.Core.Path.{◌≡◌, refl, sym, ap, ◌∙◌}
use native.Mathlib.Omega.{arith}
use native.Mathlib.Nat.{pow-suc}
use lib.Dec.{eqb, ltb}
use borrow.Author.Tests.{eqb-true, eqb-false, ne_eqb}
use Rattle.laws.proofs.Tests.{by_test}
use Rattle.channel.specs.State.{is_in, only}
use Rattle.channel.proofs.Kept.{none_above}
use Rattle.line_rules.specs.Promises.{OnlyOther}

-- nobody is in the empty set
none_in : (j : ℕ) → is_in j 0 ≡ false
none_in j = none_above 0 j 0 (omega arith) (omega arith)

power_other : (B d : ℕ) → (d ≡ B → ⊥) → is_in B (2 ^ d) ≡ false
unfolding is_in
power_other zero zero h = absurd (h refl)
power_other zero (suc d) h = rw (pow-suc 2 d) (ne_eqb (2 ^ d * 2 % 2) 1 (omega arith))
power_other (suc B) zero h = none_in B
power_other (suc B) (suc d) h =
    let e : 2 ^ suc d / 2 ≡ 2 ^ d = rw (pow-suc 2 d) (omega arith) in
    rw e (power_other B d (λ p. h (ap suc p)))

pub only-other : OnlyOther
only-other B d h = go (ltb d 8) refl
  where
    go : (t : Bool) → ltb d 8 ≡ t → is_in B (only d) ≡ false
    go true k = rw k (power_other B d h)
    go false k = rw k (none_in B)

pub only-is : (d h : ℕ) → is_in d (only h) ≡ true → d ≡ h
only-is d h i =
    by_test (eqb h d)
    (λ p. sym (eqb-true h d p))
    (λ p. absurd (false≢true (sym (only-other d h (eqb-false h d p)) ∙ i)))
