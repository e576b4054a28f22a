-- `streams::reading::fill` meets its contract: the bytes stay within the input, those that were there stay, and each turn adds one at
-- least. No turn begins with a whole frame, so a full input is none that is waited for.
-- Assumes nothing.
use Rattle.std.proofs.Common.{◌≡◌, ◌-◌, false, length, take}
use Rattle.std.specs.Io.KnownBytes.{Consumes}
use Rattle.frames.specs.Frames.{frame_size}
use Rattle.streams.specs.Places.{FilledBehind, between}
use Rattle.streams.proofs.reading.fill.Given as goal

abbrev pub invariant-loop-filled : goal.invariant-loop-filled
invariant-loop-filled g l =
    FilledBehind l.initial.input l.have l.input l.filled
    × (frame_size l.most (take l.filled l.input) false ≡ 0)
    × Consumes (g.R.Read.remaining l.initial.reader) (g.R.Read.remaining l.reader) (between l.have l.filled l.input)

abbrev pub decreases-loop-filled : goal.decreases-loop-filled
decreases-loop-filled g l = length l.input - l.filled
