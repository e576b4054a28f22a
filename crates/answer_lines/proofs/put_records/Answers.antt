-- `answer_lines::put_records` meets its contract: record by record. The invariant: the lines of the rest are left.
-- Assumes nothing.
use mathlib.Core.Path.{sym}
use native.Mathlib.Omega.{arith}
use borrow.Author.Tests.{eqb-true, eqb-false}
use Rattle.answer_lines.proofs.Turns.{bytes_drop, start, next, room, ended, Turn, turn, no_lines}
use Rattle.answer_lines.proofs.put_records.Goals as goal
use Rattle.answer_lines.proofs.put_records.Goals.{After-frame_size-size}

-- the record that this turn shows
now : (c : After-frame_size-size) → Turn c.loop-rest.rest.now c.frame_size-size.result
now c = turn _ _ c.loop-rest.invariant.1 (omega (arith, eqb-false _ 0 (sym c.loop-rest-test.ensures))) c.frame_size-size.ensures

pub loop-rest-init : goal.loop-rest-init
loop-rest-init c = (start _ _ _, λ i. omega (arith, c.type_inv.records i))

pub split_at-requires : goal.split_at-requires
split_at-requires c = (now (goal.at.split_at-requires c).After-frame_size-size).within

pub put_record-place-requires : goal.put_record-place-requires
put_record-place-requires c =
    rw c.split_at.ensures.front (room c.loop-rest.invariant.0 (now (goal.at.put_record-place-requires c).After-frame_size-size).parts c.requires)

pub loop-rest-smaller : goal.loop-rest-smaller
loop-rest-smaller c = let t = now (goal.at.loop-rest-smaller c).After-frame_size-size in omega (arith, t.some, t.within, c.split_at.ensures.back_len)

pub loop-rest-preserved : goal.loop-rest-preserved
loop-rest-preserved c =
    let parts = (now (goal.at.loop-rest-preserved c).After-frame_size-size).parts in
    rw c.split_at.ensures.back (next c.loop-rest.invariant.0 parts (rw c.split_at.ensures.front at c.put_record-place.ensures), bytes_drop _ _ c.loop-rest.invariant.1)

pub returns : goal.returns
returns c = ended c.loop-rest.invariant.0 (no_lines _ (eqb-true _ 0 (sym c.loop-rest-test.ensures)))
