-- `lines::ticking::tick` meets its contract: by whether a timer runs out.
-- Assumes nothing.
use borrow.Author.Rules.{rules}
use mathlib.Core.Path.{sym, ◌∙◌}
use Rattle.sends.specs.Scripts.{heard}
use Rattle.timers.proofs.Kept.{silent_unless_due, due_runs_out}
use Rattle.lines.proofs.ticking.tick.Goals as goal

pub returns-then-is_due : goal.returns-then-is_due
returns-then-is_due c = rw (due_runs_out _ _ (sym c.is_due.ensures ∙ c.if-is_due.true)) c.due.ensures

pub returns : goal.returns
unfolding heard
returns c =
    let x = c.args in
    let none = silent_unless_due x.listeners x.channel (sym c.is_due.ensures ∙ c.if-is_due.false) in
    (c.alone.ensures.0 ∙ c.ticked.ensures _, rw none c.alone.ensures.1)
