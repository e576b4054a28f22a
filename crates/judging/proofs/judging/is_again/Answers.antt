-- `judging::judging::is_again` meets its contract, test by test.
-- Assumes nothing.
use mathlib.Core.Path.{refl, sym, ◌∙◌}
use Rattle.judging.proofs.judging.is_again.Goals as goal

pub returns-then-is_held : goal.returns-then-is_held
returns-then-is_held c = rw (sym c.is_held.ensures ∙ c.if-is_held.true) refl

pub returns-else-is_held : goal.returns-else-is_held
returns-else-is_held c = rw (sym c.is_held.ensures ∙ c.if-is_held.false) refl
