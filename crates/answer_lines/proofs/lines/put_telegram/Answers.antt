-- `answer_lines::lines::put_telegram` meets its contract: the letter, the desk, the telegram and the end of the line.
-- Assumes nothing.
use native.Mathlib.Omega.{arith}
use lib.ListN.{length-append}
use Rattle.text.proofs.Kept.{also}
use Rattle.answer_lines.proofs.LineLaws.{telegram_items, telegram-length}
use Rattle.answer_lines.proofs.lines.put_telegram.Goals as goal

pub put_letter-first-requires : goal.put_letter-first-requires
put_letter-first-requires c =
    let a = c.args in
    omega (arith, telegram-length a.desk a.telegram.now)

pub put_item-second-requires : goal.put_item-second-requires
put_item-second-requires c =
    let first = c in
    let a = first.args in
    omega (arith, telegram-length a.desk a.telegram.now, first.put_letter-first.ensures.place)

pub put_bytes-end-requires : goal.put_bytes-end-requires
put_bytes-end-requires c =
    let second = c in
    let first = c in
    let a = first.args in
    omega (arith, telegram-length a.desk a.telegram.now, first.put_letter-first.ensures.place, simp length-append at second.put_item-second.ensures.place)

pub put_byte-requires : goal.put_byte-requires
put_byte-requires c =
    let third = c in
    let second = c in
    let first = c in
    let a = first.args in
    omega (arith, telegram-length a.desk a.telegram.now, first.put_letter-first.ensures.place, simp length-append at second.put_item-second.ensures.place, third.put_bytes-end.ensures.place)

pub returns : goal.returns
returns c =
    let fourth = c in
    let third = c in
    let second = c in
    let first = c in
    rw telegram_items (also (also (also first.put_letter-first.ensures second.put_item-second.ensures) third.put_bytes-end.ensures) fourth.put_byte.ensures)
