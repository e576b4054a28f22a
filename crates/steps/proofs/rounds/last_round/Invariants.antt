-- `steps::rounds::last_round` meets its contract: before the first round nothing is counted, and after each what a round counts.
-- Assumes nothing.
use Rattle.std.proofs.Common.{◌≡◌, cond, eqb, length}
use Rattle.steps.specs.Rounds.{none, round_of}
use Rattle.steps.proofs.rounds.last_round.Given as goal

abbrev pub invariant-loop : goal.invariant-loop
invariant-loop l =
    (length l.buffer ≡ length l.initial.buffer) × (l.last ≡ cond (eqb 0 l.counter) none (round_of (length l.initial.buffer) l.feed))
