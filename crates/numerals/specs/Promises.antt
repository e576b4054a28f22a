-- What is promised of numbers as digits, beside the contracts. `proofs/Kept.antt` has the proof of each under the name given
-- with it, and is the one module of the proofs that other crates cite.
use Rattle.std.specs.Prelude.{ℕ, zero, suc, ◌+◌, ◌/◌, ◌%◌, ◌^◌, ◌≤◌, ◌<◌, List, [], ◌∷◌, ◌++◌, true, false, cond, ◌≡◌, ltb, length, Some, None}
use Rattle.numerals.specs.Digits.{digits_of, all_digits, value_of, digits_in}
use Rattle.numerals.specs.Held.{as_number}

-- A number at a width has that many digits (`length_digits`), and they are digits (`digits-digits`).
abbrev pub AsWide : Type 0
AsWide = (w v : ℕ) → length (digits_of w v) ≡ w

abbrev pub AreDigits : Type 0
AreDigits = (w v : ℕ) → all_digits (digits_of w v) ≡ true

-- The digits of a number, digit by digit (`digits-none`, `digits_suc`).
abbrev pub NoDigits : Type 0
NoDigits = (v : ℕ) → digits_of 0 v ≡ []

abbrev pub LastDigit : Type 0
LastDigit = (w v : ℕ) → digits_of (suc w) v ≡ digits_of w (v / 10) ++ ((48 + v % 10) ∷ [])

-- v without its last b digits
abbrev pub shifted : ℕ → ℕ → ℕ
shifted zero v = v
shifted (suc b) v = shifted b (v / 10)

-- A field is a shorter one and the rest of it (`digits-split`).
abbrev pub InTwo : Type 0
InTwo = (a b v : ℕ) → digits_of (a + b) v ≡ digits_of a (shifted b v) ++ digits_of b v

-- A number that the width can hold is what its digits spell (`value_digits`).
abbrev pub SpellBack : Type 0
SpellBack = (w v : ℕ) → v < 10 ^ w → value_of (digits_of w v) ≡ v

-- Digits are those of the number that they spell (`digits_value`), which their count bounds (`value_below`).
abbrev pub OneSpelling : Type 0
OneSpelling = (bs : List ℕ) → all_digits bs ≡ true → digits_of (length bs) (value_of bs) ≡ bs

abbrev pub SpellBelow : Type 0
SpellBelow = (bs : List ℕ) → all_digits bs ≡ true → value_of bs < 10 ^ length bs

-- Of any bytes the reader finds a number in digits alone, the one that they spell (`value_found`), and of at most nine it
-- refuses only those that are not all digits (`malformed_found`).
abbrev pub DigitsFound : Type 0
DigitsFound = (bs : List ℕ) (v : ℕ) → digits_in bs ≡ Some v → (all_digits bs ≡ true) × (value_of bs ≡ v)

abbrev pub DigitsRefused : Type 0
DigitsRefused = (bs : List ℕ) → length bs ≤ 9 → digits_in bs ≡ None → all_digits bs ≡ false

-- A number that was read is not a refusal (`value_none`).
abbrev pub NotBoth : Type 0
NotBoth = (v : ℕ) → Some v ≡ None → ⊥

-- What at most nine bytes spell fits their count exactly where all of them are digits (`spelt-fits`), and they read alike from
-- it (`digits-spelt`).
abbrev pub FitsIfDigits : Type 0
FitsIfDigits = (bs : List ℕ) → length bs ≤ 9 → ltb (as_number bs) (10 ^ length bs) ≡ all_digits bs

abbrev pub DigitsBySpelling : Type 0
DigitsBySpelling =
    (bs : List ℕ) → length bs ≤ 9 → digits_in bs ≡ cond (ltb (as_number bs) (10 ^ length bs)) (Some (as_number bs)) None
