-- `talk::talk::mobile_off` meets its contract: each part of the script is heard as the rule's.
-- Assumes nothing.
use mathlib.Core.Path.{refl, sym}
use Rattle.line_rules.specs.Rules.{mobile_off}
use Rattle.sends.proofs.Kept.{send-by-send}
use Rattle.talk.proofs.talk.mobile_off.Goals as goal

pub returns : goal.returns
unfolding mobile_off
returns c = (
  simp (c.release_after-release.ensures, c.quiet_after_mobile-quiet.ensures) refl,
  simp (sym c.mobile_off_sends-off.ensures, send-by-send) refl,
)
