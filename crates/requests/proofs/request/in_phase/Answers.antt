-- `requests::request::in_phase` meets its contract, arm by arm.
-- Assumes nothing.
use mathlib.Core.Path.{refl, ◌∙◌}
use Rattle.requests.proofs.request.in_phase.Goals as goal

pub returns-in-OfLink : goal.returns-in-OfLink
returns-in-OfLink c = c.if_ready.ensures ∙ rw (c.in-OfLink.is, c.link_phase.ensures) refl

pub returns-in-OfLine : goal.returns-in-OfLine
returns-in-OfLine c = c.if_ready-in-OfLine.ensures ∙ rw c.in-OfLine.is refl
