-- `line_set::all::put_all` meets its contract: the records of the channels passed are written.
-- Assumes nothing.
use Rattle.set_state.specs.State.{channels_of}
use Rattle.records.specs.Promises.{Writing}
use Rattle.set_rules.specs.Records.{records_of}
use Rattle.set_rules.specs.SetRules.{end_sends, on_handover}
use Rattle.line_set.proofs.Turns.{left}
use Rattle.line_set.proofs.all.put_all.Given as goal

abbrev pub invariant-loop-i : goal.invariant-loop-i
invariant-loop-i l =
    Writing l.initial.buffer 0 (records_of l.set.desks (on_handover l.set).sent) l.buffer l.at (records_of l.set.desks (left l.set.desks (end_sends l.set.desks l.set.size.desks) (channels_of l.set) l.i))
