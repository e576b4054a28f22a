-- `changes::line::change_of` meets its contract: it is judged, and then happens on its channel.
-- Assumes nothing.
use Prim.Native.Nat.{ℕ}
use mathlib.Core.Path.{◌≡◌, refl, ap, ◌∙◌}
use lib.ListN.{length}
use Rattle.std.specs.Prelude.{Ok}
use Rattle.std.proofs.lemmas.Result.{err_from_is_err_and}
use Rattle.channel.specs.declared.state.Event.{Event}
use Rattle.set_state.specs.Entry.{refusal_in, desk_from}
use Rattle.set_state.specs.declared.state.Entry.{Entry}
use Rattle.set_rules.specs.Entries.{entry_desk}
use Rattle.set_rules.specs.SetRules.{on_channel}
use Rattle.set_rules.specs.Feeds.{emit}
use Rattle.telegram_requests.specs.Asking.{code_of}
use Rattle.changes.specs.Changes.{set_with, event_for}
use Rattle.set_state.proofs.Kept.{numbered_from_one}
use Rattle.set_rules.proofs.Kept.{gives_as, left_as_was}
use Rattle.changes.proofs.Rules.{outcome_refused, line-found, line-rule}
use Rattle.changes.proofs.line.change_of.Goals as goal

-- the rows judge by the desk that the entry comes from
from : (x : Entry) → desk_from x ≡ entry_desk (Ok x)
unfolding entry_desk
from x = refl

pub returns-in_err-refusal_of : goal.returns-in_err-refusal_of
returns-in_err-refusal_of c = λ planned cs k place e w.
    let a = c.args in
    let b = a.buffer.now in
    let s = set_with planned a.desks a.n cs k in
    let p = err_from_is_err_and c.from_residual.result c.from_residual.ensures.1 in
    let r = c.refusal_of.ensures planned cs k place e w ∙ ap refusal_in c.in_err-refusal_of.was in
    rw (p.1, p.2) (gives_as (outcome_refused s e (Ok a.x) (length b) _ r (numbered_from_one _)) (left_as_was s _ b))

pub returns : goal.returns
returns c = λ planned cs k place e w.
    let a = c.args in
    let b = a.buffer.now in
    let s = set_with planned a.desks a.n cs k in
    let ch = code_of a.request in
    let z = c.refusal_of.ensures planned cs k place e w ∙ ap refusal_in c.in_ok-refusal_of.was in
    let event = c.event_of-event.ensures ∙ ap (λ (d : ℕ). event_for a.desks d a.request a.c) (c.desk.ensures ∙ from a.x) in
    gives_as (ap (λ (v : Event). emit s (on_channel s ch v) (length b)) event ∙ line-rule planned a.desks a.n cs k e a.x a.found a.c a.request place (length b) w z)
    (c.on_channel.ensures ch planned cs k place (line-found planned a.desks a.n cs k e a.x a.found a.c a.request place w z))
