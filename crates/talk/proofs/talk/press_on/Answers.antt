-- `talk::talk::press_on` meets its contract: each part of the script is heard as the rule's.
-- Assumes nothing.
use mathlib.Core.Path.{refl, sym}
use Rattle.line_rules.specs.Rules.{press_on}
use Rattle.sends.proofs.Kept.{send-by-send}
use Rattle.talk.proofs.talk.press_on.Goals as goal

pub returns : goal.returns
unfolding press_on
returns c =
    let on = c.press_sends-on.ensures in
    let m = c.only-recipients.ensures in
    let new = c.new_call-new.ensures in (
      simp (c.opened_by-call.ensures, new, m) refl,
      simp (send-by-send, on, sym (rw (new, m) at c.opening-start.ensures), m) refl,
    )
