-- `records::prepared::Prepared::put_record` meets its contract: a contact, or the head and then the telegram.
-- Assumes nothing.
use Prim.Native.Nat.{ℕ, ◌+◌, ◌≤◌}
use mathlib.Core.List.{List}
use mathlib.Core.Path.{◌≡◌, ◌∙◌, sym, refl}
use native.Mathlib.Omega.{arith}
use lib.ListN.{length, length-take, length-drop}
use Rattle.set_state.specs.State.{own_of}
use Rattle.set_rules.specs.Records.{record_for}
use Rattle.set_state.specs.declared.state.Desk.{Desk}
use Rattle.set_rules.proofs.Kept.{record_length}
use Rattle.bodies.specs.Bodies.{body_for}
use Rattle.records.specs.Emitting.{rest_bytes}
use Rattle.bodies.specs.declared.body.Body.{Body}
use Rattle.bodies.specs.declared.shape.Own.{Own}
use Rattle.bodies.specs.Promises.{AsTelegram}
use Rattle.bodies.proofs.Kept.{as_telegram, size_is}
use Rattle.records.specs.Promises.{Writing}
use Rattle.records.proofs.Writing.{start, next, last, room, all_put, part-back}
use Rattle.records.proofs.RecordLaws.{parts}
use Rattle.records.proofs.prepared.Prepared.put_record.Goals as goal
use Rattle.records.proofs.prepared.Prepared.put_record.Goals.{After-slice_known-in-Telegram-1}

abbrev whole : List Desk → ℕ → Body → List ℕ
whole ds d b = record_for ds d (body_for d (own_of ds d) b)

-- what comes behind the head, to a desk
abbrev rest : Desk → ℕ → Body → List ℕ
rest k d b = rest_bytes k.code (body_for d k.number b)

-- the size that the code has is the record's
sized : (ds : List Desk) (d : ℕ) (b : Body) {o : Own} {size : ℕ} → AsTelegram b o size → size ≡ length (whole ds d b)
sized ds d b t = size_is t d (own_of ds d) ∙ sym (record_length ds d (body_for d (own_of ds d) b))

known : (c : After-slice_known-in-Telegram-1) → AsTelegram c.args.self.now.body c.in-Telegram.own c.in-Telegram.size
known c = as_telegram c.args.self.now.body (sym c.args.self.now.shaped ∙ c.in-Telegram.is)

-- the head is written, and the telegram is left
begun : (c : After-slice_known-in-Telegram-1)
    → Writing c.args.buffer.now 0 (whole c.args.desks c.args.d c.args.self.now.body) c.put_head.new.buffer 5 (rest c.desk_at-desk.result c.args.d c.args.self.now.body)
begun c = next (start c.args.buffer.now 0 _) (parts (known c) c.args.desks c.args.d c.desk_at-desk.ensures) refl c.put_head.ensures

fits : (c : After-slice_known-in-Telegram-1) → 5 + length (rest c.desk_at-desk.result c.args.d c.args.self.now.body) ≤ length c.put_head.new.buffer
fits c =
    let room_for : 0 + length (whole c.args.desks c.args.d c.args.self.now.body) ≤ length c.args.buffer.now = omega (arith, c.requires) in
    room (begun c) (last _) room_for

pub put_telegram-requires : goal.put_telegram-requires
put_telegram-requires c =
    let k = (goal.at.put_telegram-requires c).After-slice_known-in-Telegram-1 in
    let left : c.in-Telegram.size ≡ 5 + length (rest c.desk_at-desk.result c.args.d c.args.self.now.body) =
    omega (arith, sized c.args.desks c.args.d c.args.self.now.body (known k), (begun k).ends) in
    (c.in-Telegram.is, simp (length-take, length-drop) (omega (arith, left, fits k)))

pub returns-in-Telegram : goal.returns-in-Telegram
returns-in-Telegram c =
    let k = (goal.at.returns-in-Telegram c).After-slice_known-in-Telegram-1 in
    let size = sized c.args.desks c.args.d c.args.self.now.body (known k) in
    let behind : c.in-Telegram.size ≡ 5 + length (rest c.desk_at-desk.result c.args.d c.args.self.now.body) = omega (arith, size, (begun k).ends) in
    let all = all_put (next (begun k) (last _) behind (part-back _ 5 _ _ (fits k) c.put_telegram.ensures)) refl in
    (size, all.1)
