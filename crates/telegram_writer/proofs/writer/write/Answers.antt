-- `telegram_writer::writer::write` meets its contract: the tests in the order of `write_answer`, and then `put`.
-- Assumes nothing.
use mathlib.Core.Path.{sym, ◌∙◌}
use native.Mathlib.Omega.{arith}
use lib.ListN.{length}
use borrow.Author.Tests.{le-leb, lt-leb}
use Rattle.telegram.specs.Telegram.{size_of, write_answer, write_into}
use Rattle.telegram_writer.proofs.writer.write.Goals as goal

pub returns-then-wide : goal.returns-then-wide
unfolding write_answer write_into
returns-then-wide c = record {
  value = simp (lt-leb _ _ c.if-wide.true);
  buffer_after = simp (lt-leb _ _ c.if-wide.true);
}

pub returns-then-not-in_range : goal.returns-then-not-in_range
unfolding write_answer write_into
returns-then-not-in_range c =
    let o = le-leb _ _ c.if-wide.false in
    let a = sym c.in_range.ensures ∙ c.if-not-in_range.true in
    record { value = simp (o, a); buffer_after = simp (o, a) }

pub returns-then-buffer-size : goal.returns-then-buffer-size
unfolding write_answer write_into
returns-then-buffer-size c =
    let k = c in
    let g = k.args in
    let o = le-leb _ _ k.if-wide.false in
    let a = sym k.in_range.ensures ∙ c.if-not-in_range.false in
    let n = lt-leb (size_of g.message) (length g.buffer.now) (omega (arith, c.size.ensures)) in
    record { value = simp (o, a, n); buffer_after = simp (o, a, n) }

pub put-requires : goal.put-requires
put-requires c = omega (arith, c.size.ensures)

pub returns : goal.returns
unfolding write_answer write_into
returns c =
    let l = c in
    let k = c in
    let g = k.args in
    let o = le-leb _ _ k.if-wide.false in
    let a = sym k.in_range.ensures ∙ l.if-not-in_range.false in
    let n = le-leb (size_of g.message) (length g.buffer.now) (omega (arith, l.size.ensures)) in
    let p = c.put.ensures in
    record { value = simp (o, a, n, p.value); buffer_after = simp (o, a, n) p.buffer_after }
