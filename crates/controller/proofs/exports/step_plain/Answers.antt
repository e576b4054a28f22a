-- `controller::exports::step_plain` meets its contract: the step, between the two conversions; a refused one keeps the numbers.
-- Assumes nothing.
use mathlib.Core.Bool.{cond}
use mathlib.Core.Path.{◌≡◌, refl, ap, ◌∙◌}
use lib.Dec.{eqb}
use lib.ListN.{length}
use borrow.Author.Tests.{ne_eqb}
use Rattle.telegram.specs.Telegram.{over}
use Rattle.set_rules.specs.Feeds.{Numbers, numbers_in, answer_of, step_of}
use Rattle.set_state.specs.declared.state.LineSet.{LineSet}
use Rattle.set_state.proofs.Kept.{numbered_from_one}
use Rattle.plain_set.specs.Plain.{plain_of}
use Rattle.plain_set.specs.declared.plain.PlainSet.{PlainSet}
use Rattle.controller.specs.Memory.{Keeps}
use Rattle.controller.specs.declared.exports.Kept.{Kept}
use Rattle.controller.proofs.exports.step_plain.Goals as goal
use Rattle.controller.proofs.exports.step_plain.Goals.{After-step_in-reply}

abbrev kept : PlainSet → Numbers → Kept
kept p a = record { set = cond (eqb a.refusal 0) (plain_of p.layout a.set) p; count = a.count; refusal = a.refusal }

-- the answer of the step, for the set that the numbers say
keeps : (c : After-step_in-reply) (r : Kept) → r ≡ kept c.args.plain (numbers_in (record { set = c.step_in-reply.new.set; reply = c.step_in-reply.result })) → Keeps c.args.plain c.args.entry.now r c.args.buffer.now c.step_in-reply.new.buffer
keeps c r h =
    let p = c.args.plain in
    let e = c.args.entry.now in
    let b = c.args.buffer.now in
    let f = c.step_in-reply.ensures in
    let i = c.set_in-set.ensures in
    record {
      answer = h ∙ ap (kept p) (f.answer ∙ ap (λ (s : LineSet). answer_of (step_of s e (length b))) i);
      bytes = f.bytes ∙ ap (λ (s : LineSet). over (step_of s e (length b)).bytes b) i;
    }

pub returns-in-Err : goal.returns-in-Err
returns-in-Err c = keeps (goal.at.returns-in-Err c).After-step_in-reply _ (rw (c.in-Err.is, c.number.ensures, ne_eqb _ 0 (numbered_from_one c.in-Err.refusal)) refl)

pub returns-in-Ok : goal.returns-in-Ok
returns-in-Ok c = keeps (goal.at.returns-in-Ok c).After-step_in-reply _ (rw (c.in-Ok.is, c.plain_of.ensures) refl)
