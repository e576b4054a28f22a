-- `changes::link::link_change` meets its contract, arm by arm.
-- Assumes nothing.
use mathlib.Core.Path.{sym, ap}
use lib.ListN.{length}
use Rattle.set_rules.specs.SetRules.{on_link}
use Rattle.set_rules.specs.Feeds.{emit}
use Rattle.set_state.specs.declared.state.LinkRequest.{LinkRequest}
use Rattle.changes.specs.Changes.{set_with}
use Rattle.set_rules.proofs.Kept.{gives_as}
use Rattle.changes.proofs.link.link_change.Goals as goal

pub returns-in-TellsTime : goal.returns-in-TellsTime
returns-in-TellsTime c = λ planned n cs k.
    let a = c.args in
    let s = set_with planned a.desks n cs k in
    gives_as (ap (λ (q : LinkRequest). emit s (on_link s a.d q) (length a.buffer.now)) (sym c.in-TellsTime.is)) (c.time_told.ensures planned n cs k)

pub returns-in-TellsState : goal.returns-in-TellsState
returns-in-TellsState c = λ planned n cs k.
    let a = c.args in
    let s = set_with planned a.desks n cs k in
    gives_as (ap (λ (q : LinkRequest). emit s (on_link s a.d q) (length a.buffer.now)) (sym c.in-TellsState.is)) (c.answered.ensures planned n cs k)
