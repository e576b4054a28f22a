-- `steps::argument::number` meets its contract: the number so far, with the digits from the place on, stays the number of the text. A
-- digit is added only below 100,000,000.
-- Assumes nothing.
use Rattle.std.proofs.Common.{◌≡◌, ◌<◌, drop}
use Rattle.steps.specs.Rounds.{number_from}
use Rattle.steps.proofs.argument.number.Given as goal

abbrev pub invariant-loop-byte : goal.invariant-loop-byte
invariant-loop-byte l = (l.n < 1000000000) × (number_from l.n (drop l.byte-index l.text) ≡ number_from 0 l.text)
