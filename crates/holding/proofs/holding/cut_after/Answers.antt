-- `holding::holding::cut_after` meets its contract: each part of the script is heard as the rule's.
-- Assumes nothing.
use mathlib.Core.Path.{refl, sym}
use Rattle.line_rules.specs.Rules.{cut}
use Rattle.sends.proofs.Kept.{send-by-send, heard_press_off}
use Rattle.holding.proofs.holding.cut_after.Goals as goal

pub returns : goal.returns
unfolding cut
returns c =
    let c₄ = c in (
      refl,
      simp (send-by-send, heard_press_off, c₄.press_sends-off.ensures, c₄.set_of.ensures, sym c.end-end.ensures, c.freed-state.ensures) refl,
    )
