-- `plain_set::convert::desks_of` meets its contract: a desk a turn.
-- Assumes nothing.
use Rattle.plain_set.specs.Plain.{desk_of}
use Rattle.plain_set.proofs.Maps.{Mapped}
use Rattle.plain_set.proofs.convert.desks_of.Given as goal

abbrev pub invariant-loop-i : goal.invariant-loop-i
invariant-loop-i l = Mapped desk_of 4 l.desks l.i l.plain
