-- `line_set::entry::tick` meets its contract: the space is summed, then the records are written and the timers fall.
-- Assumes nothing.
use Prim.Native.Nat.{◌<◌}
use mathlib.Core.Path.{◌≡◌}
use lib.ListN.{length}
use Rattle.line_set.proofs.Ticking.{Scanned, Ticking}
use Rattle.line_set.proofs.entry.tick.Given as goal

-- the space of what the channels passed send at the tick, and which of the last are at rest
abbrev pub invariant-loop-k : goal.invariant-loop-k
invariant-loop-k l = Scanned l.set l.need l.end l.k × (0 < l.k → length l.set.channels ≡ 32)

-- the channels passed are ticked
abbrev pub invariant-loop-i : goal.invariant-loop-i
invariant-loop-i l = Ticking l.initial.set l.initial.buffer l.i l.set l.buffer l.written
