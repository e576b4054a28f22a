-- `judging::answer::answers_ring` meets its contract, test by test.
-- Assumes nothing.
use mathlib.Core.Path.{refl}
use Rattle.judging.proofs.answer.answers_ring.Goals as goal

pub returns : goal.returns
returns c = simp (c.is_told.ensures, c.caller_of.ensures, c.eq.ensures) refl
