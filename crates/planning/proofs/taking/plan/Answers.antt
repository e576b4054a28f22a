-- `planning::taking::plan` meets its contract: a plan that breaks no rule makes the set anew, if there is room for the requests.
-- Assumes nothing.
use Prim.Native.Nat.{ℕ, ◌+◌}
use mathlib.Core.List.{List, [], ◌∷◌}
use mathlib.Core.Path.{◌≡◌, refl, sym, ap, ap₂, ◌∙◌}
use native.Mathlib.Omega.{arith}
use lib.ListN.{length}
use Rattle.std.specs.Prelude.{Option, None, unwrap_or}
use Rattle.channel.specs.State.{first_desks}
use Rattle.plans.specs.Planned.{plan_of}
use Rattle.bodies.specs.Bodies.{delivery}
use Rattle.records.specs.Emitting.{written}
use Rattle.bodies.specs.declared.body.Body.TheVariants.{TimeRequest}
use Rattle.set_rules.specs.Entries.{plan_in}
use Rattle.set_rules.specs.Records.{records_of, space_of}
use Rattle.set_rules.specs.SetRules.{on_plan}
use Rattle.set_state.specs.State.{new_set}
use Rattle.set_state.specs.declared.state.LineSet.{LineSet}
use Rattle.set_state.specs.declared.state.Refusal.TheVariants.{BadPlan, NoRoom}
use Rattle.set_rules.proofs.Kept.{space-length, gives_as, left_as_was, no_room}
use Rattle.planning.proofs.PlanLaws.{plan_bad, plan_good, plan_missing, plan_read}
use Rattle.records.proofs.Kept.{put_first}
use Rattle.planning.proofs.taking.plan.Goals as goal

-- the request to the desks of the set that was read
abbrev asked : LineSet → ℕ → ℕ
asked t m = space_of (delivery t.desks m TimeRequest ∷ [])

pub put_to-count-requires : goal.put_to-count-requires
put_to-count-requires c =
    let ds = c.in-Some.set.desks in
    let v = delivery ds c.first_desks-recipients.result TimeRequest ∷ [] in
    omega (arith, c.space_to-need.ensures.0 ds, space-length ds v (λ k. refl, tt), c.if-buffer-need.false)

-- the set of an answer, by what was read
abbrev made : Option LineSet → LineSet
made o = unwrap_or o new_set

pub returns-in_default : goal.returns-in_default
returns-in_default c =
    let b = c.args.buffer.now in
    let none : None ≡ plan_of c.args.bytes.now = c.in_default.ensures in (
      c.new-new.ensures ∙ ap made none,
      λ s e h w. gives_as (plan_bad s e (length b) h (plan_missing (plan_in e) (ap plan_of w ∙ sym none))) (left_as_was s BadPlan b),
    )

pub returns-then-buffer-need : goal.returns-then-buffer-need
returns-then-buffer-need c = (
  ap made c.in-Some.ensures,
  λ s e h w.
      let b = c.args.buffer.now in
      let read = plan_read (plan_in e) c.in-Some.set (ap plan_of w ∙ sym c.in-Some.ensures) in
      let m = c.first_desks-recipients.ensures ∙ ap (λ (y : LineSet). first_desks y.size.desks) read.1 in
      let total : c.space_to-need.result ≡ space_of (on_plan (plan_in e)).sent = c.space_to-need.ensures.0 c.in-Some.set.desks ∙ ap₂ asked read.1 m in
      gives_as (plan_good s e (length b) h read.0) (no_room s b (on_plan (plan_in e)) (omega (arith, total, c.if-buffer-need.true)) (left_as_was s NoRoom b)),
)

pub returns : goal.returns
returns c = (
  ap made c.in-Some.ensures,
  λ s e h w.
      let b = c.args.buffer.now in
      let read = plan_read (plan_in e) c.in-Some.set (ap plan_of w ∙ sym c.in-Some.ensures) in
      let m = c.first_desks-recipients.ensures ∙ ap (λ (y : LineSet). first_desks y.size.desks) read.1 in
      let total : c.space_to-need.result ≡ space_of (on_plan (plan_in e)).sent = c.space_to-need.ensures.0 c.in-Some.set.desks ∙ ap₂ asked read.1 m in
      let bytes = ap₂ (λ (y : LineSet) (k : ℕ). records_of y.desks (delivery y.desks k TimeRequest ∷ [])) read.1 m in
      let records = c.put_to-count.ensures in
      gives_as (plan_good s e (length b) h read.0)
      (put_first s (on_plan (plan_in e)) b (omega (arith, total, c.if-buffer-need.false)) (λ k. refl, tt)
      (records.0 ∙ ap (λ (l : List ℕ). 0 + length l) bytes, records.1 ∙ ap (written b 0) bytes) read.1),
)
