-- `steps::rounds::step_all` meets its contract: the counts so far, with what is left of the feed, stay the round. Each turn reads at
-- least a byte, so there are no more entries than bytes.
-- Assumes nothing.
use Rattle.std.proofs.Common.{◌≡◌, ◌+◌, ◌≤◌, length}
use Rattle.steps.proofs.Counting.{SoFar}
use Rattle.steps.proofs.rounds.step_all.Given as goal

abbrev pub invariant-loop-rest : goal.invariant-loop-rest
invariant-loop-rest l = record {
  entries : l.entries + length l.rest ≤ length l.feed;
  accepted : l.accepted ≤ l.entries;
  lent : length l.buffer ≡ length l.initial.buffer;
  so_far : SoFar (length l.initial.buffer) l.feed l.set (record { entries = l.entries; accepted = l.accepted; bytes = l.bytes }) l.rest;
}

abbrev pub decreases-loop-rest : goal.decreases-loop-rest
decreases-loop-rest l = length l.rest
