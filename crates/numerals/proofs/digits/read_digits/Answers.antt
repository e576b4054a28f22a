-- `numerals::digits::read_digits` meets its contract. The invariant: the bytes passed are digits and spell `v`.
-- Assumes nothing.
use Prim.Native.Nat.{ℕ, ◌≤◌, ◌<◌, ◌^◌}
use mathlib.Core.Path.{◌≡◌, sym, ◌∙◌}
use mathlib.Core.Bool.{true, false, and-false}
use mathlib.Core.List.{List}
use native.Mathlib.Omega.{arith}
use native.Mathlib.Nat.{pow-le-pow_right, pow-succ'}
use native.Mathlib.Numerals.{add-one}
use lib.ListN.{length, drop, get_or}
use Rattle.std.specs.Prelude.{None}
use Rattle.numerals.specs.Digits.{all_digits, is_digit, digits_in}
use Rattle.numerals.proofs.DigitLaws.{digit_high, digits_step, digits-stop, digits-done, digits-found, digits_long}
use Rattle.numerals.proofs.digits.read_digits.Goals as goal
use Rattle.numerals.proofs.digits.read_digits.Goals.{Else-not-is_digit}

pub returns-then-s-gt9 : goal.returns-then-s-gt9
returns-then-s-gt9 c = sym (digits_long c.args.s.now c.if-s-gt9.true)

-- a byte that is no digit, among at most nine
stop : (s : List ℕ) (i : ℕ) → all_digits s ≡ all_digits (drop i s) → i < length s → is_digit (get_or s i 0) ≡ false → digits_in s ≡ None
stop s i e h d = rw (e ∙ digits-stop s i h d) (simp and-false)

pub returns-then-not-is_digit : goal.returns-then-not-is_digit
returns-then-not-is_digit c =
    let l = c.loop-b in
    sym (stop c.args.s.now l.b-index l.invariant.1 c.loop-b-test.true (sym c.is_digit.ensures ∙ c.if-not-is_digit.true))

-- a digit, and at most eight digits before it
digit : (c : Else-not-is_digit) → is_digit (get_or c.args.s.now c.loop-b.b-index 0) ≡ true
digit c = sym c.is_digit.ensures ∙ c.if-not-is_digit.false

small : (c : Else-not-is_digit) → c.loop-b.v < 10 ^ 8
small c =
    let l = c.loop-b in
    let p : 10 ^ l.b-index ≤ 10 ^ 8 = pow-le-pow_right (omega arith) {i = l.b-index} {j = 8} (omega arith) in
    omega arith

pub overflow_mul-v : goal.overflow_mul-v
overflow_mul-v c = omega (arith, small (goal.at.overflow_mul-v c).Else-not-is_digit)

pub overflow_add-v : goal.overflow_add-v
overflow_add-v c =
    let e = (goal.at.overflow_add-v c).Else-not-is_digit in
    omega (arith, small e, digit_high (get_or c.args.s.now c.loop-b.b-index 0) (digit e))

pub loop-b-preserved : goal.loop-b-preserved
loop-b-preserved c =
    let l = c.loop-b in
    let s = c.args.s.now in
    let t = digit (goal.at.loop-b-preserved c).Else-not-is_digit in
    let d = digits_step s l.b-index l.v c.loop-b-test.true t in
    (rw (add-one, pow-succ') (omega (arith, digit_high (get_or s l.b-index 0) t)), l.invariant.1 ∙ d.0, l.invariant.2 ∙ d.1)

pub returns : goal.returns
returns c =
    let l = c.loop-b in
    let s = c.args.s.now in
    let d = digits-done s l.b-index l.v (omega arith) in
    let n : length s ≤ 9 = c.if-s-gt9.false in
    rw (digits-found s n, l.invariant.1 ∙ d.0, l.invariant.2 ∙ d.1)
