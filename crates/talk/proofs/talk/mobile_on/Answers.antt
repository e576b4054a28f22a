-- `talk::talk::mobile_on` meets its contract: each part of the script is heard as the rule's.
-- Assumes nothing.
use mathlib.Core.Path.{refl, sym}
use Rattle.line_rules.specs.Rules.{mobile_on}
use Rattle.sends.proofs.Kept.{send-by-send}
use Rattle.talk.proofs.talk.mobile_on.Goals as goal

pub returns : goal.returns
unfolding mobile_on
returns c =
    let on = c.mobile_sends-on.ensures in
    let new = c.new_call-new.ensures in
    let k = c.kind_of.ensures in
    let m = c.mobile_recipients-recipients.ensures in (
      simp (c.release_after-left.ensures, c.opened_by-call.ensures, new, k, m) refl,
      simp (send-by-send, on, sym (rw (new, m) at c.opening-start.ensures), k, m) refl,
    )
