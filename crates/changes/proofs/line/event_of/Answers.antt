-- `changes::line::event_of` meets its contract, arm by arm.
-- Assumes nothing.
use mathlib.Core.Bool.{Bool}
use mathlib.Core.Path.{refl, ap, ◌∙◌}
use Rattle.channel.specs.declared.state.Event.TheVariants.{RingAnswer}
use Rattle.set_rules.specs.SetRules.{answers_ring}
use Rattle.set_state.specs.declared.state.Desk.{Desk}
use Rattle.changes.proofs.line.event_of.Goals as goal

pub returns-in-OnChannel : goal.returns-in-OnChannel
returns-in-OnChannel c = rw c.in-OnChannel.is refl

pub returns-in-AnswersRing : goal.returns-in-AnswersRing
returns-in-AnswersRing c =
    let a = c.args in
    let q = c.in-AnswersRing in
    rw q.is
    (ap (λ (t : Bool). RingAnswer a.d t)
    (c.answers_ring-matched.ensures ∙ ap (λ (j : Desk). answers_ring a.d j.number q.answer a.c) c.desk_at-desk.ensures))
