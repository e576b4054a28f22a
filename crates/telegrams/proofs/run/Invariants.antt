-- `telegrams::run` meets its contract: the place stays within the input, what waits within the text, and where the bytes are known, what
-- was written, what waits and the lines of what is still to come are the lines of what was given.
-- Assumes nothing.
use Rattle.std.proofs.Common.{◌≡◌, ℕ, ◌-◌, ◌<◌, ◌≤◌, ◌^◌, List, Some, length}
use Rattle.streams.specs.Places.{Within}
use Rattle.telegrams.specs.Promises.{Bytes}
use Rattle.telegrams.proofs.RunLaws.{Prints}
use Rattle.telegrams.proofs.run.Given as goal

abbrev pub invariant-loop : goal.invariant-loop
invariant-loop g l =
    Within l.input l.at
    × (l.at.waits ≤ length l.text)
    × (length l.input ≡ length l.initial.input)
    × (length l.text ≡ length l.initial.text)
    × ((given : List ℕ) → g.R.Read.remaining l.initial.reader ≡ Some given → Bytes given → length given < 2 ^ 64
    → Prints given (g.R.Read.remaining l.reader) (g.W.Write.contents l.initial.writer) (g.W.Write.contents l.writer) l.input l.at l.text (2 ^ 64 - 1 - l.counter))
