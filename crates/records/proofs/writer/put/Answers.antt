-- `records::writer::put` meets its contract. The invariant: the records of the sends from the next one on are left.
-- Assumes nothing.
use native.Mathlib.Omega.{arith}
use Rattle.records.proofs.Writing.{next, room, all_put}
use Rattle.records.proofs.SendLaws.{send_turn, send_end}
use Rattle.records.proofs.writer.put.Goals as goal

pub put_send-p-requires : goal.put_send-p-requires
put_send-p-requires c =
    let l = c.loop-s in
    room l.invariant.left (send_turn _ _ _ l.s-index _ (omega (arith, c.loop-s-test.true, l.invariant.seven))) c.requires

pub loop-s-preserved : goal.loop-s-preserved
loop-s-preserved c =
    let l = c.loop-s in
    let e = c.put_send-p.ensures in
    record {
      left = next l.invariant.left (send_turn _ _ _ l.s-index _ (omega (arith, c.loop-s-test.true, l.invariant.seven))) e.0 e.1;
      seven = l.invariant.seven;
    }

pub returns : goal.returns
returns c =
    let l = c.loop-s in
    all_put l.invariant.left (send_end _ _ _ l.s-index (omega (arith, c.loop-s-test.false, l.invariant.seven)))
