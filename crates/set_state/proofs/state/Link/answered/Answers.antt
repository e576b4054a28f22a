-- `set_state::state::Link::answered` meets its contract: state 1 gives phase 3, any other leaves the link.
-- Assumes nothing.
use mathlib.Core.Path.{refl}
use borrow.Author.Tests.{eq-eqb, ne_eqb}
use Rattle.set_state.proofs.state.Link.answered.Goals as goal

pub returns-then-state-eq1 : goal.returns-then-state-eq1
returns-then-state-eq1 c = rw (eq-eqb _ _ c.if-state-eq1.true) refl

pub returns-else-state-eq1 : goal.returns-else-state-eq1
returns-else-state-eq1 c = rw (ne_eqb _ _ c.if-state-eq1.false) refl
