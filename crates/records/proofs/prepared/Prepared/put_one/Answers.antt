-- `records::prepared::Prepared::put_one` meets its contract: a record, or nothing.
-- Assumes nothing.
use Prim.Native.Nat.{ℕ, ◌+◌, ◌≤◌}
use mathlib.Core.Path.{ap}
use native.Mathlib.Omega.{arith}
use lib.ListN.{length, length-take, length-drop}
use Rattle.set_state.specs.State.{own_of}
use Rattle.set_rules.specs.Records.{record_for}
use Rattle.bodies.specs.Bodies.{body_for}
use Rattle.records.proofs.Writing.{start, all_put, part-back}
use Rattle.records.proofs.RecordLaws.{one-taken, one_left}
use Rattle.records.proofs.prepared.Prepared.put_one.Goals as goal
use Rattle.records.proofs.prepared.Prepared.put_one.Goals.{Then-m-eq1}

fits : (c : Then-m-eq1)
    → let a = c.args in a.at + length (record_for a.desks a.d (body_for a.d (own_of a.desks a.d) a.self.now.body)) ≤ length a.buffer.now
fits c = rw (one-taken _ _ _ _ c.if-m-eq1.true) at c.requires

pub put_record-requires : goal.put_record-requires
put_record-requires c = simp (length-take, length-drop) (omega (arith, fits (goal.at.put_record-requires c).Then-m-eq1))

pub overflow_add-result : goal.overflow_add-result
overflow_add-result c = omega (arith, fits (goal.at.overflow_add-result c).Then-m-eq1, c.put_record.ensures.0)

pub returns-then-m-eq1 : goal.returns-then-m-eq1
returns-then-m-eq1 c =
    let e = c.put_record.ensures in
    let taken = c.if-m-eq1.true in
    let at = c.args.at in
    (rw (one-taken _ _ _ _ taken) (ap (λ (n : ℕ). at + n) e.0), rw (one-taken _ _ _ _ taken) (part-back _ _ _ _ (fits (goal.at.returns-then-m-eq1 c).Then-m-eq1) e.1))

pub returns : goal.returns
returns c = all_put (start _ _ _) (one_left _ _ _ _ c.if-m-eq1.false)
