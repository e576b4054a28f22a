-- `plans::desks::has_equal_numbers` meets its contract. The outer loop's invariant: no desk before `i` has the number of one
-- behind it; the inner one's: no desk behind it so far has the number of `i`.
-- Assumes nothing.
use mathlib.Core.Bool.{false}
use mathlib.Core.Path.{◌≡◌}
use lib.ListN.{drop}
use Rattle.set_rules.specs.Plan.{has_number, distinct}
use Rattle.plans.proofs.desks.has_equal_numbers.Given as goal

abbrev pub invariant-loop-other : goal.invariant-loop-other
invariant-loop-other l = (l.equal ≡ false) × (has_number l.number l.behind ≡ has_number l.number (drop l.other-index l.behind))

abbrev pub invariant-pairs : goal.invariant-pairs
invariant-pairs l = (l.equal ≡ false) × (distinct l.desks ≡ distinct (drop l.i l.desks))
