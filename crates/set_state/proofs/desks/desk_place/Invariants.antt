-- `set_state::desks::desk_place` meets its contract: the desks passed have another number.
-- Assumes nothing.
use lib.ListN.{take}
use Rattle.laws.proofs.Seeking.{Sought}
use Rattle.set_state.specs.State.{desk_place}
use Rattle.set_state.proofs.desks.desk_place.Given as goal

abbrev pub invariant-loop-place : goal.invariant-loop-place
invariant-loop-place l = Sought (desk_place l.number.digits) (take l.n l.desks) l.place
