-- `numerals::digits::four` meets its contract: the four tests together, and the four digits by their places.
-- Assumes nothing.
use Prim.Native.Nat.{ℕ}
use mathlib.Core.Bool.{Bool, true, false, ◌&&◌}
use mathlib.Core.Path.{◌≡◌}
use native.Mathlib.Omega.{arith}
use Rattle.numerals.specs.Digits.{is_digit}
use Rattle.numerals.proofs.DigitLaws.{four-digits, four_value}
use Rattle.numerals.proofs.digits.four.Goals as goal
use Rattle.numerals.proofs.digits.four.Goals.{Then-is_digit}

-- the four answers are of the four bytes
abbrev tests : ℕ → ℕ → ℕ → ℕ → Bool
tests a b c d = is_digit a && is_digit b && is_digit c && is_digit d

taken : (c : Then-is_digit) → let a = c.args in tests a.a a.b a.c a.d ≡ true
taken c = rw (c.is_digit.ensures, c.is_digit-2.ensures, c.is_digit-3.ensures, c.is_digit-4.ensures) at c.if-is_digit.true

pub overflow_sub-result : goal.overflow_sub-result
overflow_sub-result c =
    let a = c.args in
    omega (arith, (four_value a.a a.b a.c a.d (taken (goal.at.overflow_sub-result c).Then-is_digit)).0)

pub returns-then-is_digit : goal.returns-then-is_digit
returns-then-is_digit c =
    let a = c.args in
    rw (four-digits, taken (goal.at.returns-then-is_digit c).Then-is_digit, (four_value a.a a.b a.c a.d (taken (goal.at.returns-then-is_digit c).Then-is_digit)).1)

pub returns-else-is_digit : goal.returns-else-is_digit
returns-else-is_digit c =
    let a = c.args in
    let e : tests a.a a.b a.c a.d ≡ false = rw (c.is_digit.ensures, c.is_digit-2.ensures, c.is_digit-3.ensures, c.is_digit-4.ensures) at c.if-is_digit.false in
    rw (four-digits, e)
