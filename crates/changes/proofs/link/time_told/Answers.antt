-- `changes::link::time_told` meets its contract: the request is written if there is room, and the link goes on.
-- Assumes nothing.
use Prim.Native.Nat.{ℕ}
use mathlib.Core.List.{List, [], ◌∷◌}
use mathlib.Core.Path.{◌≡◌, refl, ap, ap₂, ◌∙◌}
use native.Mathlib.Omega.{arith}
use Rattle.bodies.specs.Bodies.{delivery}
use Rattle.records.specs.Emitting.{written}
use Rattle.bodies.specs.declared.body.Body.TheVariants.{OperationRequest}
use Rattle.set_state.specs.State.{time_told, linked_at, with_desks}
use Rattle.set_rules.specs.Records.{records_of, space_of}
use Rattle.set_rules.specs.SetRules.{time_taken}
use Rattle.set_rules.proofs.Kept.{space-length}
use Rattle.set_state.specs.declared.state.Desk.{Desk}
use Rattle.set_state.specs.declared.state.Link.{Link}
use Rattle.changes.specs.Changes.{set_with}
use Rattle.set_rules.specs.RecordLaws.{accepted_with}
use Rattle.set_state.specs.declared.state.Refusal.TheVariants.{NoRoom}
use Rattle.set_rules.proofs.Kept.{left_as_was, no_room}
use Rattle.records.proofs.Kept.{emitted}
use Rattle.changes.proofs.link.time_told.Goals as goal

pub returns-then-buffer-need : goal.returns-then-buffer-need
returns-then-buffer-need c = λ planned n cs k.
    let a = c.args in
    let s = set_with planned a.desks n cs k in
    let f = time_taken s a.d in
    let total : c.space_to-need.result ≡ space_of f.sent = c.space_to-need.ensures.0 a.desks ∙ ap (λ (m : ℕ). space_of (delivery a.desks m OperationRequest ∷ [])) c.only-recipients.ensures in
    no_room s a.buffer.now f (omega (arith, total, c.if-buffer-need.true)) (left_as_was s NoRoom a.buffer.now)

pub put_to-requires : goal.put_to-requires
put_to-requires c =
    let ds = c.args.desks in
    let v = delivery ds c.only-recipients.result OperationRequest ∷ [] in
    omega (arith, c.space_to-need.ensures.0 ds, space-length ds v (λ k. refl, tt), c.if-buffer-need.false)

pub returns : goal.returns
returns c = λ planned n cs k.
    let a = c.args in
    let b = a.buffer.now in
    let s = set_with planned a.desks n cs k in
    let f = time_taken s a.d in
    let to = c.only-recipients.ensures in
    let total : c.space_to-need.result ≡ space_of f.sent = c.space_to-need.ensures.0 a.desks ∙ ap (λ (m : ℕ). space_of (delivery a.desks m OperationRequest ∷ [])) to in
    let l = c.time_told-link.ensures ∙ ap (λ (j : Desk). time_told j.link) c.desk_at-desk.ensures in
    emitted s f b (omega (arith, total, c.if-buffer-need.false)) (λ k. refl, tt)
    (c.put_to.ensures.1 ∙ ap (λ (m : ℕ). written b 0 (records_of a.desks (delivery a.desks m OperationRequest ∷ []))) to)
    (ap₂ (λ (ds : List Desk) (m : ℕ). accepted_with (with_desks ds s) m) (c.linked-after.ensures ∙ ap (λ (j : Link). linked_at a.d (λ (i : Link). j) a.desks) l) total)
