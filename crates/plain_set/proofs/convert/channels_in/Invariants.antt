-- `plain_set::convert::channels_in` meets its contract: a channel a turn.
-- Assumes nothing.
use Rattle.plain_set.specs.Plain.{channel_in}
use Rattle.plain_set.proofs.Maps.{Mapped}
use Rattle.plain_set.proofs.convert.channels_in.Given as goal

abbrev pub invariant-loop-i : goal.invariant-loop-i
invariant-loop-i l = Mapped channel_in 32 l.plain l.i l.channels
