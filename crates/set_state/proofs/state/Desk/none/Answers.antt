-- `set_state::state::Desk::none` meets its contract: no code, no number, a new link.
-- Assumes nothing.
use Rattle.set_state.proofs.state.Desk.none.Goals as goal

pub returns : goal.returns
returns c = rw c.new-link.ensures
