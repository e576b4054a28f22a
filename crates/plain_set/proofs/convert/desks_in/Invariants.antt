-- `plain_set::convert::desks_in` meets its contract: a desk a turn.
-- Assumes nothing.
use Rattle.plain_set.specs.Plain.{desk_in}
use Rattle.plain_set.proofs.Maps.{Mapped}
use Rattle.plain_set.proofs.convert.desks_in.Given as goal

abbrev pub invariant-loop-i : goal.invariant-loop-i
invariant-loop-i l = Mapped desk_in 4 l.plain l.i l.desks
