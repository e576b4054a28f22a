-- `numerals::digits::eight` meets its contract: two fours, one after the other.
-- Assumes nothing.
use Prim.Native.Nat.{◌<◌}
use mathlib.Core.List.{[], ◌∷◌}
use mathlib.Core.Path.{sym}
use native.Mathlib.Omega.{arith}
use lib.Dec.{ltb, lit≤}
use borrow.Author.Tests.{ltb-true}
use Rattle.laws.proofs.Tests.{both}
use Rattle.numerals.proofs.DigitLaws.{spelt-join}
use Rattle.numerals.proofs.digits.eight.Goals as goal
use Rattle.numerals.proofs.digits.eight.Goals.{Then-small}

-- both are below 10,000
small : (c : Then-small) → (c.four-high.result < 10000) × (c.four-low.result < 10000)
small c =
    let t = both (ltb c.four-high.result 10000) (ltb c.four-low.result 10000) c.if-small.true in
    (ltb-true _ _ t.0, ltb-true _ _ t.1)

pub overflow_mul-result : goal.overflow_mul-result
overflow_mul-result c = let s = small (goal.at.overflow_mul-result c).Then-small in omega arith

pub overflow_add-result : goal.overflow_add-result
overflow_add-result c = let s = small (goal.at.overflow_add-result c).Then-small in omega arith

pub returns-then-small : goal.returns-then-small
returns-then-small c =
    let a = c.args in
    let j = spelt-join (a.a ∷ a.b ∷ a.c ∷ a.d ∷ []) (a.e ∷ a.f ∷ a.g ∷ a.h ∷ []) (lit≤ tt) (lit≤ tt) in
    sym (rw (← c.four-high.ensures, ← c.four-low.ensures, c.if-small.true) at j)

pub returns-else-small : goal.returns-else-small
returns-else-small c =
    let a = c.args in
    let j = spelt-join (a.a ∷ a.b ∷ a.c ∷ a.d ∷ []) (a.e ∷ a.f ∷ a.g ∷ a.h ∷ []) (lit≤ tt) (lit≤ tt) in
    sym (rw (← c.four-high.ensures, ← c.four-low.ensures, c.if-small.false) at j)
