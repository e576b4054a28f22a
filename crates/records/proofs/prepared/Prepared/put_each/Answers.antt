-- `records::prepared::Prepared::put_each` meets its contract. The invariant: the records to the desks from place d on are left, and m is the set
-- without the places before.
-- Assumes nothing.
use Prim.Native.Nat.{◌-◌}
use mathlib.Core.Path.{◌≡◌, refl}
use native.Mathlib.Omega.{arith}
use Rattle.set_rules.specs.RecordLaws.{without_lowest}
use Rattle.set_rules.specs.Records.{to_each}
use Rattle.records.proofs.Writing.{start, next, room, all_put}
use Rattle.records.proofs.RecordLaws.{each_turn, half_turn, records-one}
use Rattle.records.proofs.prepared.Prepared.put_each.Goals as goal

pub loop-d-init : goal.loop-d-init
unfolding without_lowest
loop-d-init c = (rw records-one (start _ _ _), refl)

pub put_one-p-requires : goal.put_one-p-requires
put_one-p-requires c =
    let l = c.loop-d in
    let st = c in
    let turn = each_turn st.args.desks l.d l.m st.args.recipients st.args.self.now.body c.loop-d-test.true l.invariant.1 in
    room l.invariant.0 turn st.requires

pub loop-d-preserved : goal.loop-d-preserved
loop-d-preserved c =
    let l = c.loop-d in
    let a = c.args in
    let e = c.put_one-p.ensures in
    (next l.invariant.0 (each_turn a.desks l.d l.m a.recipients a.self.now.body c.loop-d-test.true l.invariant.1) e.0 e.1, half_turn l.d l.m a.recipients l.invariant.1)

pub returns : goal.returns
unfolding to_each
returns c =
    let l = c.loop-d in
    let a = c.args in
    let none : 8 - l.d ≡ 0 = omega (arith, c.loop-d-test.false) in
    all_put l.invariant.0 (rw none refl)
