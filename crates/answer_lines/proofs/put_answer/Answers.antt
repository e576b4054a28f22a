-- `answer_lines::put_answer` meets its contract: there is room for any answer.
-- Assumes nothing.
use Prim.Native.Nat.{◌≤◌}
use native.Mathlib.Omega.{arith}
use lib.ListN.{length, take, length-take}
use Rattle.answer_lines.specs.Lines.{lines_of}
use Rattle.answer_lines.proofs.Room.{lines_room}
use Rattle.answer_lines.proofs.Turns.{bytes_take}
use Rattle.answer_lines.proofs.put_answer.Goals as goal
use Rattle.answer_lines.proofs.put_answer.Goals.{After-shared_slice_known-1}

-- what the answer takes
taken : (c : After-shared_slice_known-1)
    → let a = c.args in length (lines_of a.number a.refusal a.count (take a.count a.buffer.now)) ≤ 73776
taken c =
    let s = c.before in
    let b = s.args.buffer.now in
    let n = s.args.count in
    lines_room s.args.number s.args.refusal n (take n b) (omega (arith, s.ranges.number)) (omega (arith, s.ranges.refusal)) (omega (arith, s.ranges.count))
    (bytes_take n b (λ i. omega (arith, c.shared_slice_known-1.given i))) (omega (arith, s.requires.0, length-take n b))

pub put_lines-requires : goal.put_lines-requires
put_lines-requires c = let d = c in omega (arith, d.requires.1, taken (goal.at.put_lines-requires c).After-shared_slice_known-1)

pub returns : goal.returns
returns c =
    let d = c in
    let p = c.put_lines.ensures in
    (omega (arith, d.requires.1, p.place, taken (goal.at.returns c).After-shared_slice_known-1), p)
