-- `changes::line::refusal_of` meets its contract: what asks for an event is judged, and a ring answer has to come from a desk that may use the channel.
-- Assumes nothing.
use Prim.Native.Nat.{ℕ}
use mathlib.Core.Path.{◌≡◌, refl, sym, ap, ◌∙◌}
use lib.ListN.{get_or}
use Rattle.std.specs.Prelude.{Ok}
use Rattle.judging.specs.Judging.{usable, refusal_by}
use Rattle.set_state.specs.State.{no_desk}
use Rattle.set_state.specs.Entry.{desk_from}
use Rattle.set_state.specs.declared.state.Desk.{Desk}
use Rattle.set_state.specs.declared.state.Entry.{Entry}
use Rattle.set_rules.specs.Entries.{entry_desk}
use Rattle.changes.proofs.Rules.{asked-refusal, answer-refusal}
use Rattle.changes.proofs.line.refusal_of.Goals as goal

-- the rows judge by the desk that the entry comes from
from : (x : Entry) → desk_from x ≡ entry_desk (Ok x)
unfolding entry_desk
from x = refl

pub returns-in-OnChannel : goal.returns-in-OnChannel
returns-in-OnChannel c = λ planned cs k place e w.
    let a = c.args in
    let q = c.in-OnChannel in
    let number = q.number in
    let h = c.is_heard-heard in
    let m = c.judge.ensures ∙ ap (λ (j : Desk). refusal_by a.x number j.number h.result a.found a.c) (c.desk_at-desk.ensures ∙ ap (λ (d : ℕ). get_or a.desks d no_desk) (c.desk.ensures ∙ from a.x)) in
    asked-refusal planned a.desks a.n cs k e a.x a.found a.c q.code number q.event place (rw q.is at w) h.result (λ t. h.ensures) ∙ sym m

pub returns-then-may_use : goal.returns-then-may_use
returns-then-may_use c = λ planned cs k place e w.
    let a = c.args in
    let q = c.in-AnswersRing in
    answer-refusal planned a.desks a.n cs k e a.x a.found a.c q.answer place (rw q.is at w) ∙ rw (ap (λ (d : ℕ). usable d a.found a.c) (sym (c.desk-in-AnswersRing.ensures ∙ from a.x)) ∙ sym c.may_use.ensures ∙ c.if-may_use.true) refl

pub returns-else-may_use : goal.returns-else-may_use
returns-else-may_use c = λ planned cs k place e w.
    let a = c.args in
    let q = c.in-AnswersRing in
    answer-refusal planned a.desks a.n cs k e a.x a.found a.c q.answer place (rw q.is at w) ∙ rw (ap (λ (d : ℕ). usable d a.found a.c) (sym (c.desk-in-AnswersRing.ensures ∙ from a.x)) ∙ sym c.may_use.ensures ∙ c.if-may_use.false) refl
