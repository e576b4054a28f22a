-- `line_set::all::space_all` meets its contract: the space of the channels passed is counted.
-- Assumes nothing.
use Rattle.set_state.specs.State.{channels_of}
use Rattle.set_rules.specs.SetRules.{end_sends}
use Rattle.line_set.proofs.Turns.{Summed}
use Rattle.line_set.proofs.all.space_all.Given as goal

abbrev pub invariant-loop-i : goal.invariant-loop-i
invariant-loop-i l = Summed l.set.desks (end_sends l.set.desks l.set.size.desks) (channels_of l.set) l.i l.sum
