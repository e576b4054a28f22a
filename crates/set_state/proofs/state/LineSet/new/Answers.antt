-- `set_state::state::LineSet::new` meets its contract: fillers only, and no plan.
-- Assumes nothing.
use Rattle.set_state.proofs.state.LineSet.new.Goals as goal

pub returns : goal.returns
returns c = rw (c.new-channel.ensures, c.none-desk.ensures)
