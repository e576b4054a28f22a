-- `answer_lines::lines::put_entry` meets its contract: the letter and three numbers, one behind the other.
-- Assumes nothing.
use native.Mathlib.Omega.{arith}
use lib.ListN.{length-append}
use Rattle.text.proofs.Kept.{also}
use Rattle.answer_lines.proofs.LineLaws.{entry_items, entry_length}
use Rattle.answer_lines.proofs.lines.put_entry.Goals as goal

pub put_letter-first-requires : goal.put_letter-first-requires
put_letter-first-requires c =
    let a = c.args in
    omega (arith, entry_length a.number a.refusal a.count)

pub put_item-second-requires : goal.put_item-second-requires
put_item-second-requires c =
    let first = c in
    let a = first.args in
    omega (arith, entry_length a.number a.refusal a.count, first.put_letter-first.ensures.place)

pub put_item-third-requires : goal.put_item-third-requires
put_item-third-requires c =
    let second = c in
    let first = c in
    let a = first.args in
    omega (arith, entry_length a.number a.refusal a.count, first.put_letter-first.ensures.place, simp length-append at second.put_item-second.ensures.place)

pub put_item-requires : goal.put_item-requires
put_item-requires c =
    let third = c in
    let second = c in
    let first = c in
    let a = first.args in
    omega (arith, entry_length a.number a.refusal a.count, first.put_letter-first.ensures.place, simp length-append at second.put_item-second.ensures.place, simp length-append at third.put_item-third.ensures.place)

pub returns : goal.returns
returns c =
    let fourth = c in
    let third = c in
    let second = c in
    let first = c in
    rw entry_items (also (also (also first.put_letter-first.ensures second.put_item-second.ensures) third.put_item-third.ensures) fourth.put_item.ensures)
