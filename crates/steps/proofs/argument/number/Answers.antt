-- `steps::argument::number` meets its contract: the number so far, with the digits from the place on, stays the number of the text. A
-- digit is added only below 100,000,000.
-- Assumes nothing.
use Rattle.std.proofs.Common.{◌≡◌, ◌&&◌, ◌≤◌, Bool, true, false, nat_lt, get_or, sym, ap, ◌∙◌, arith}
use borrow.Author.Tests.{leb-true, ltb-true}
use Rattle.laws.proofs.Tests.{both}
use Rattle.numerals.specs.Digits.{is_digit}
use Rattle.steps.proofs.Digits.{ended, one_more}
use Rattle.steps.proofs.argument.number.Goals as goal
use Rattle.steps.proofs.argument.number.Goals.{After-is_ascii_digit}

-- whether the byte at the place is added
added : (c : After-is_ascii_digit) → (c.is_ascii_digit.result && nat_lt c.loop-byte.n 100000000) ≡ (is_digit (get_or c.args.text.now c.loop-byte.byte-index 0) && nat_lt c.loop-byte.n 100000000)
added c = ap (λ (b : Bool). b && nat_lt c.loop-byte.n 100000000) c.is_ascii_digit.ensures.value

pub loop-byte-preserved : goal.loop-byte-preserved
loop-byte-preserved c =
    let l = c.loop-byte in
    let b = get_or c.args.text.now l.byte-index 0 in
    let t : (is_digit b && nat_lt l.n 100000000) ≡ true = sym (added (goal.at.loop-byte-preserved c).After-is_ascii_digit) ∙ c.if-not-goes_on.false in
    let h = both (is_digit b) (nat_lt l.n 100000000) t in
    let low = ltb-true l.n 100000000 h.1 in
    let digit : b ≤ 57 = leb-true b 57 (both _ _ h.0).1 in
    (omega (arith, low, digit), sym (one_more c.args.text.now l.n l.byte-index c.loop-byte-test.true ∙ rw t) ∙ l.invariant.1)

pub returns-after-loop-byte : goal.returns-after-loop-byte
returns-after-loop-byte c = sym (ended c.args.text.now c.loop-byte.n c.loop-byte.byte-index c.loop-byte-test.false) ∙ c.loop-byte.invariant.1

pub returns-then-not-goes_on : goal.returns-then-not-goes_on
returns-then-not-goes_on c =
    let l = c.loop-byte in
    let t : (is_digit (get_or c.args.text.now l.byte-index 0) && nat_lt l.n 100000000) ≡ false = sym (added (goal.at.returns-then-not-goes_on c).After-is_ascii_digit) ∙ c.if-not-goes_on.true in
    sym (one_more c.args.text.now l.n l.byte-index c.loop-byte-test.true ∙ rw t) ∙ l.invariant.1
