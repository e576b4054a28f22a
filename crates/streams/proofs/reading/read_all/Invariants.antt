-- `streams::reading::read_all` meets its contract: each turn adds one byte at least.
-- Assumes nothing.
use Rattle.std.proofs.Common.{◌-◌, length}
use Rattle.std.specs.Io.KnownBytes.{Consumes}
use Rattle.streams.specs.Places.{FilledBehind, between}
use Rattle.streams.proofs.reading.read_all.Given as goal

abbrev pub invariant-loop-have : goal.invariant-loop-have
invariant-loop-have g l = FilledBehind l.initial.input 0 l.input l.have × Consumes (g.R.Read.remaining l.initial.reader) (g.R.Read.remaining l.reader) (between 0 l.have l.input)

abbrev pub decreases-loop-have : goal.decreases-loop-have
decreases-loop-have g l = length l.input - l.have
