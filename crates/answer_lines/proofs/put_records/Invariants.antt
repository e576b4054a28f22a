-- `answer_lines::put_records` meets its contract: record by record. The invariant: the lines of the rest are left.
-- Assumes nothing.
use lib.ListN.{length}
use Rattle.frames.specs.Frames.{frames_in}
use Rattle.answer_lines.specs.Lines.{record_lines}
use Rattle.answer_lines.proofs.Turns.{Bytes, Putting}
use Rattle.answer_lines.proofs.put_records.Given as goal

abbrev pub invariant-loop-rest : goal.invariant-loop-rest
invariant-loop-rest l =
    Putting l.initial.text l.at (record_lines (frames_in l.records)) l.text l.place (record_lines (frames_in l.rest)) × Bytes l.rest

abbrev pub decreases-loop-rest : goal.decreases-loop-rest
decreases-loop-rest l = length l.rest
