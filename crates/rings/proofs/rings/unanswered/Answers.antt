-- `rings::rings::unanswered` meets its contract: each part of the script is heard as the rule's.
-- Assumes nothing.
use mathlib.Core.Path.{refl, sym}
use Rattle.line_rules.specs.Rules.{unanswered}
use Rattle.sends.proofs.Kept.{send-by-send}
use Rattle.rings.proofs.rings.unanswered.Goals as goal

pub returns : goal.returns
unfolding unanswered
returns c = (
  c.with_ring.ensures,
  simp (send-by-send, sym c.ring_off_sends-off.ensures, sym c.end-end.ensures) refl,
)
