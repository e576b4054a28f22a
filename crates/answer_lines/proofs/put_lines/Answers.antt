-- `answer_lines::put_lines` meets its contract: the entry's line, and then those of the records.
-- Assumes nothing.
use mathlib.Core.Path.{◌≡◌}
use native.Mathlib.Omega.{arith}
use lib.ListN.{take}
use Rattle.std.proofs.lemmas.List.{take_min}
use Rattle.text.proofs.Kept.{also}
use Rattle.answer_lines.proofs.Turns.{answer-parts, answer-length}
use Rattle.answer_lines.proofs.put_lines.Goals as goal

pub put_entry-place-requires : goal.put_entry-place-requires
put_entry-place-requires c =
    let a = c.args in
    omega (arith, answer-length a.number a.refusal a.count (take a.count a.buffer.now))

pub put_records-requires : goal.put_records-requires
put_records-requires c =
    let a = c.args in
    let e : take c.min-written.result a.buffer.now ≡ take a.count a.buffer.now = rw c.min-written.ensures (take_min a.count a.buffer.now) in
    rw e (omega (arith, c.put_entry-place.ensures.place, answer-length a.number a.refusal a.count (take a.count a.buffer.now)))

pub returns : goal.returns
returns c =
    let a = c.args in
    let e : take c.min-written.result a.buffer.now ≡ take a.count a.buffer.now = rw c.min-written.ensures (take_min a.count a.buffer.now) in
    rw (answer-parts, ← e) (also c.put_entry-place.ensures c.put_records.ensures)
