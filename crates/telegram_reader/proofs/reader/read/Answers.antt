-- `telegram_reader::reader::read` meets its contract: what the header, the identifier and the body read as, put together.
-- Assumes nothing.
use Prim.Native.Nat.{◌≤◌}
use mathlib.Core.Bool.{false}
use mathlib.Core.Path.{◌≡◌, sym}
use native.Mathlib.Omega.{arith}
use lib.ListN.{length, take, drop, length-drop}
use lib.Seq.{length-take-le}
use Rattle.laws.proofs.Lists.{part_to_end}
use Rattle.numerals.specs.Digits.{all_digits}
use Rattle.numerals.proofs.Kept.{value_found, malformed_found}
use Rattle.telegram.specs.Telegram.{read_telegram}
use Rattle.telegram_reader.proofs.HeaderLaws.{header_found, header_none, header_long}
use Rattle.telegram_reader.proofs.reader.read.Goals as goal

pub returns-in_default : goal.returns-in_default
unfolding read_telegram
returns-in_default c = rw (header_none c.args.s.now (sym c.in_default.ensures))

pub slice_bounds-read_identifier-end : goal.slice_bounds-read_identifier-end
slice_bounds-read_identifier-end c = header_long c.args.s.now c.in-Some.code (sym c.in-Some.ensures)

pub returns-in_default-read_identifier : goal.returns-in_default-read_identifier
unfolding read_telegram
returns-in_default-read_identifier c =
    let s = c.args.s.now in
    let e = sym c.in-Some.ensures in
    let h = header_found s c.in-Some.code e in
    let n : 16 ≤ length s = header_long s c.in-Some.code e in
    let w : 6 ≤ length (drop 10 s) = simp length-drop (omega arith) in
    let k : length (take 6 (drop 10 s)) ≤ 9 = rw (length-take-le 6 (drop 10 s) w) (omega arith) in
    let d : all_digits (take 6 (drop 10 s)) ≡ false = malformed_found (take 6 (drop 10 s)) k (sym c.in_default-read_identifier.ensures) in
    rw (h.0, h.1, d)

pub returns : goal.returns
unfolding read_telegram
returns c =
    let s = c.args.s.now in
    let h = header_found s c.in-Some.code (sym c.in-Some.ensures) in
    let d = value_found (take 6 (drop 10 s)) c.in-Some-read_identifier.identifier (sym c.in-Some-read_identifier.ensures) in
    let e = rw (part_to_end s 16) at c.read_identified.ensures in
    rw (h.0, h.1, d.0, d.1) e
