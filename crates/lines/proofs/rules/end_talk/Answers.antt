-- `lines::rules::end_talk` meets its contract: each part of the script is heard as the rule's.
-- Assumes nothing.
use borrow.Author.Rules.{rules}
use mathlib.Core.Path.{refl, sym}
use Rattle.line_rules.specs.Rules.{end_talk}
use Rattle.sends.proofs.Kept.{send-by-send, heard_press_off}
use Rattle.lines.proofs.rules.end_talk.Goals as goal

pub returns : goal.returns
unfolding end_talk
returns c =
    let c₄ = c in
    let c₇ = c in
    (c.new.ensures, simp (send-by-send, heard_press_off, c₇.press_sends-press.ensures, c₇.set_of.ensures, sym c₄.mobile_off_sends-mobile.ensures) refl)
