-- `records::writer::put` meets its contract. The invariant: the records of the sends from the next one on are left.
-- Assumes nothing.
use mathlib.Core.Path.{◌≡◌}
use lib.ListN.{length, drop}
use Rattle.set_rules.specs.Records.{records_of, delivered}
use Rattle.records.specs.Promises.{Writing}
use Rattle.records.proofs.writer.put.Given as goal

abbrev pub invariant-loop-s : goal.invariant-loop-s
invariant-loop-s l = record {
  left : Writing l.initial.buffer l.at (records_of l.desks (delivered l.desks l.channel l.fn.sends)) l.buffer l.p (records_of l.desks (delivered l.desks l.channel (drop l.s-index l.s-items)));
  seven : length l.s-items ≡ 7;
}
