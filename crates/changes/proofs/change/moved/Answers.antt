-- `changes::change::moved` meets its contract: the rule, with the listeners of the set.
-- Assumes nothing.
use Prim.Native.Nat.{ℕ}
use mathlib.Core.Path.{ap, ◌∙◌}
use Rattle.line_rules.specs.Rules.{happens}
use Rattle.sends.specs.Scripts.{heard}
use Rattle.changes.proofs.change.moved.Goals as goal

pub returns : goal.returns
returns c =
    let a = c.args in
    let e = c.listeners-listeners.ensures in (
      c.happens.ensures.0 ∙ ap (λ (m : ℕ). (happens a.event m a.c).next) e,
      c.happens.ensures.1 ∙ ap (λ (m : ℕ). heard (happens a.event m a.c).sends) e,
    )
