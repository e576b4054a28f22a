-- `plain_set::convert::channels_of` meets its contract: a channel a turn.
-- Assumes nothing.
use Rattle.plain_set.specs.Plain.{channel_of}
use Rattle.plain_set.proofs.Maps.{Mapped}
use Rattle.plain_set.proofs.convert.channels_of.Given as goal

abbrev pub invariant-loop-i : goal.invariant-loop-i
invariant-loop-i l = Mapped channel_of 32 l.channels l.i l.plain
