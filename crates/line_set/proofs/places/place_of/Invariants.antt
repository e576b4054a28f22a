-- `line_set::places::place_of` meets its contract: the channels passed have another code.
-- Assumes nothing.
use Rattle.laws.proofs.Seeking.{Sought}
use Rattle.set_state.specs.State.{place_of}
use Rattle.line_set.proofs.places.place_of.Given as goal

abbrev pub invariant-loop-i : goal.invariant-loop-i
invariant-loop-i l = Sought (place_of l.code) l.channels l.i
