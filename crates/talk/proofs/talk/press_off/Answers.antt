-- `talk::talk::press_off` meets its contract: each part of the script is heard as the rule's.
-- Assumes nothing.
use mathlib.Core.Path.{refl}
use Rattle.line_rules.specs.Rules.{press_off}
use Rattle.sends.proofs.Kept.{send-by-send, heard_press_off}
use Rattle.talk.proofs.talk.press_off.Goals as goal

pub returns : goal.returns
unfolding press_off
returns c =
    let off = c.press_sends-off.ensures in
    (simp c.quiet_after_press-quiet.ensures refl, simp (send-by-send, heard_press_off, off, c.set_of.ensures) refl)
