-- `plans::desks::has_equal_numbers` meets its contract. The outer loop's invariant: no desk before `i` has the number of one
-- behind it; the inner one's: no desk behind it so far has the number of `i`.
-- Assumes nothing.
use Prim.Native.Nat.{ℕ, ◌+◌, ◌-◌}
use mathlib.Core.List.{List}
use mathlib.Core.Bool.{true, false}
use mathlib.Core.Path.{◌≡◌, ◌∙◌}
use lib.ListN.{length, take, drop, get_or}
use borrow.Author.Tests.{eq-eqb, ne_eqb}
use Rattle.telegram.specs.Telegram.{num}
use Rattle.set_rules.specs.Plan.{has_number}
use Rattle.set_state.specs.declared.state.Desk.{Desk}
use Rattle.plans.proofs.Pairs.{distinct-at, number_at, distinct_end, number_end}
use Rattle.plans.proofs.desks.has_equal_numbers.Goals as goal

-- what a read past the end would give
abbrev blank : Desk
blank = record { code = 0; number = num 0; link = record { phase = 0 } }

-- those behind the desk at i, as the code takes them
abbrev behind : List Desk → ℕ → List Desk
behind ds i = take (length ds - (i + 1)) (drop (i + 1) ds)

pub loop-other-preserved : goal.loop-other-preserved
loop-other-preserved c =
    let l = c.loop-other in
    let v = (get_or c.args.desks.now c.pairs.i blank).number.digits in
    (l.invariant.0, l.invariant.1 ∙ number_at (behind c.args.desks.now c.pairs.i) l.other-index blank c.loop-other-test.true v ∙ rw (ne_eqb _ _ c.if-number-other.false))

pub pairs-preserved : goal.pairs-preserved
pairs-preserved c =
    let l = c.loop-other in
    let ds = c.args.desks.now in
    let i = c.pairs.i in
    let v = (get_or ds i blank).number.digits in
    let e : has_number v (behind ds i) ≡ false = l.invariant.1 ∙ number_end (behind ds i) l.other-index c.loop-other-test.false v in
    (l.invariant.0, c.pairs.invariant.1 ∙ distinct-at ds i blank c.pairs-test.true ∙ rw e)

pub returns-after-pairs : goal.returns-after-pairs
returns-after-pairs c = c.pairs.invariant.0 ∙ rw (c.pairs.invariant.1 ∙ distinct_end c.args.desks.now c.pairs.i c.pairs-test.false)

pub returns-then-number-other : goal.returns-then-number-other
returns-then-number-other c =
    let l = c.loop-other in
    let ds = c.args.desks.now in
    let i = c.pairs.i in
    let v = (get_or ds i blank).number.digits in
    let e : has_number v (behind ds i) ≡ true = l.invariant.1 ∙ number_at (behind ds i) l.other-index blank c.loop-other-test.true v ∙ rw (eq-eqb _ _ c.if-number-other.true) in
    rw (c.pairs.invariant.1, distinct-at ds i blank c.pairs-test.true, e)
