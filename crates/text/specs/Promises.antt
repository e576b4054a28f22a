-- What is promised of text, beside the contracts. `proofs/Kept.antt` has the proof of each under the name given with it, and is
-- the one module of the proofs that other crates cite.
use Rattle.std.specs.Prelude.{ℕ, suc, ◌^◌, ◌≤◌, ◌<◌, List, [], ◌++◌, true, ◌≡◌, length, get_or}
use Rattle.numerals.specs.Digits.{all_digits, value_of}
use Rattle.text.specs.Decimal.{decimal}
use Rattle.text.specs.Written.{Puts}

-- Two runs put one behind the other are put as one (`also`), no bytes change nothing (`puts_none`), and a text keeps its length
-- (`puts-length`).
abbrev pub RunsJoin : List ℕ → ℕ → List ℕ → List ℕ → ℕ → List ℕ → List ℕ → ℕ → Type 0
RunsJoin b at xs b₁ p ys b₂ r = Puts b at xs b₁ p → Puts b₁ p ys b₂ r → Puts b at (xs ++ ys) b₂ r

abbrev pub NonePut : Type 0
NonePut = (b : List ℕ) (at : ℕ) → Puts b at [] b at

abbrev pub LengthKept : List ℕ → ℕ → List ℕ → List ℕ → ℕ → Type 0
LengthKept b at xs b₁ r = Puts b at xs b₁ r → length b₁ ≡ length b

-- A number has a digit at least (`decimal-some`), and below 10 ^ (k + 1) k + 1 at most (`decimal-length`).
abbrev pub SomeDigit : Type 0
SomeDigit = (n : ℕ) → 0 < length (decimal n)

abbrev pub FewDigits : Type 0
FewDigits = (k n : ℕ) → n < 10 ^ (suc k) → length (decimal n) ≤ suc k

-- The digits spell the number (`decimal_value`), are digits alone (`decimal-digits`), and start with no zero but in "0"
-- (`decimal-first`).
abbrev pub SpellNumber : Type 0
SpellNumber = (n : ℕ) → value_of (decimal n) ≡ n

abbrev pub OnlyDigits : Type 0
OnlyDigits = (n : ℕ) → all_digits (decimal n) ≡ true

abbrev pub NoZeroInFront : Type 0
NoZeroInFront = (n : ℕ) → 0 < n → 49 ≤ get_or (decimal n) 0 0
