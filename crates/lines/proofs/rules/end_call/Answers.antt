-- `lines::rules::end_call` meets its contract: each part of the script is heard as the rule's.
-- Assumes nothing.
use borrow.Author.Rules.{rules}
use mathlib.Core.Path.{refl, sym}
use Rattle.line_rules.specs.Rules.{end_call}
use Rattle.sends.proofs.Kept.{send-by-send, heard-sent_if}
use Rattle.lines.proofs.rules.end_call.Goals as goal

pub returns : goal.returns
unfolding end_call
returns c =
    let c₃ = c in
    let off = c₃.ring_off_sends-off.ensures in (
      c.new.ensures,
      simp (send-by-send, sym off, heard-sent_if, sym c₃.end-end.ensures, c.freed-state.ensures, c.set_if-recipients.ensures, c₃.is_held.ensures) refl,
    )
