-- `answer_lines::lines::put_contact` meets its contract: the letter and four numbers, one behind the other.
-- Assumes nothing.
use native.Mathlib.Omega.{arith}
use lib.ListN.{length-append}
use Rattle.text.proofs.Kept.{also}
use Rattle.answer_lines.proofs.LineLaws.{contact_items, contact-length}
use Rattle.answer_lines.proofs.lines.put_contact.Goals as goal

pub put_letter-first-requires : goal.put_letter-first-requires
put_letter-first-requires c =
    let a = c.args in
    omega (arith, contact-length a.desk a.contact a.channel a.on)

pub put_item-second-requires : goal.put_item-second-requires
put_item-second-requires c =
    let first = c in
    let a = first.args in
    omega (arith, contact-length a.desk a.contact a.channel a.on, first.put_letter-first.ensures.place)

pub put_item-third-requires : goal.put_item-third-requires
put_item-third-requires c =
    let second = c in
    let first = c in
    let a = first.args in
    omega (arith, contact-length a.desk a.contact a.channel a.on, first.put_letter-first.ensures.place, simp length-append at second.put_item-second.ensures.place)

pub put_item-fourth-requires : goal.put_item-fourth-requires
put_item-fourth-requires c =
    let third = c in
    let second = c in
    let first = c in
    let a = first.args in
    omega (arith, contact-length a.desk a.contact a.channel a.on, first.put_letter-first.ensures.place, simp length-append at second.put_item-second.ensures.place, simp length-append at third.put_item-third.ensures.place)

pub put_item-requires : goal.put_item-requires
put_item-requires c =
    let fourth = c in
    let third = c in
    let second = c in
    let first = c in
    let a = first.args in
    omega (arith, contact-length a.desk a.contact a.channel a.on, first.put_letter-first.ensures.place, simp length-append at second.put_item-second.ensures.place, simp length-append at third.put_item-third.ensures.place, simp length-append at fourth.put_item-fourth.ensures.place)

pub returns : goal.returns
returns c =
    let fifth = c in
    let fourth = c in
    let third = c in
    let second = c in
    let first = c in
    rw contact_items (also (also (also (also first.put_letter-first.ensures second.put_item-second.ensures) third.put_item-third.ensures) fourth.put_item-fourth.ensures) fifth.put_item.ensures)
