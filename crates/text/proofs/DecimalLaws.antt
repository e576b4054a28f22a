-- Laws of numbers as text: the digits before the last are those of the tenth, how many there are, and what they spell.
-- Assumes nothing.
use Prim.Native.Nat.{ℕ, zero, suc, ◌+◌, ◌*◌, ◌/◌, ◌%◌, ◌^◌, ◌≤◌, ◌<◌}
use mathlib.Core.List.{List, [], ◌∷◌, ◌++◌, append_assoc}
use mathlib.Core.Path.{◌≡◌, sym, ap, ◌∙◌}
use native.Mathlib.Nat.{pow-suc}
use native.Mathlib.Omega.{arith}
use lib.Dec.{ltb}
use lib.ListN.{get_or, length-append}
use borrow.Author.Tests.{ltb-true, ltb-false, lt-ltb, le-ltb}
use Rattle.laws.proofs.Tests.{by_test}
use Rattle.numerals.specs.Digits.{digits_of}
use Rattle.numerals.proofs.Kept.{digits_suc, digits-digits, value_digits}
use Rattle.text.specs.Decimal.{spelled, decimal}
use Rattle.text.specs.Promises.{SomeDigit, FewDigits, SpellNumber, OnlyDigits, NoZeroInFront}

-- the last digit
abbrev digit : ℕ → ℕ
digit n = 48 + n % 10

-- any number of turns that is enough gives the same digits
spelled_same : (j k n : ℕ) → n < j → n < k → spelled j n ≡ spelled k n
unfolding spelled
spelled_same zero k n h i = absurd (omega arith)
spelled_same (suc j) zero n h i = absurd (omega arith)
spelled_same (suc j) (suc k) n h i =
    by_test (ltb n 10) (λ e. rw e)
    (λ e. let l = ltb-false n 10 e in rw (spelled_same j k (n / 10) (omega arith) (omega arith)))

-- ---- digit by digit

pub decimal-one : (n : ℕ) → n < 10 → decimal n ≡ digit n ∷ []
unfolding decimal spelled
decimal-one n h = rw (lt-ltb n 10 h)

pub decimal-more : (n : ℕ) → 10 ≤ n → decimal n ≡ decimal (n / 10) ++ (digit n ∷ [])
unfolding decimal spelled
decimal-more n h = rw (le-ltb n 10 h, spelled_same n (suc (n / 10)) (n / 10) (omega arith) (omega arith))

-- what holds of one digit, and of a number if it does of its tenth, holds of any number
by_digit : (P : ℕ → Type 0) → ((n : ℕ) → n < 10 → P n) → ((n : ℕ) → 10 ≤ n → P (n / 10) → P n) → (n : ℕ) → P n
by_digit P one more n = to (suc n) n (omega arith)
  where
    to : (k n : ℕ) → n < k → P n
    to zero n h = absurd (omega arith)
    to (suc k) n h =
        by_test (ltb n 10) (λ e. one n (ltb-true n 10 e))
        (λ e. let l = ltb-false n 10 e in more n l (to k (n / 10) (omega arith)))

-- ---- in the pieces that the code puts

pub decimal-two : (n : ℕ) → 10 ≤ n → n < 100 → decimal n ≡ digit (n / 10) ∷ digit n ∷ []
decimal-two n h i = rw (decimal-more n h, decimal-one (n / 10) (omega arith))

pub decimal-three : (n : ℕ) → 100 ≤ n → n < 1000 → decimal n ≡ digits_of 3 n
unfolding digits_of
decimal-three n h i = rw (decimal-more n (omega arith), decimal-two (n / 10) (omega arith) (omega arith))

pub decimal_thousand : (n : ℕ) → 1000 ≤ n → decimal n ≡ decimal (n / 1000) ++ digits_of 3 n
unfolding digits_of
decimal_thousand n h =
    let e : n / 10 / 10 / 10 ≡ n / 1000 = omega arith in
    rw (decimal-more n (omega arith), decimal-more (n / 10) (omega arith), decimal-more (n / 10 / 10) (omega arith), e) (simp append_assoc)

-- ---- how many digits

pub decimal-some : SomeDigit
decimal-some n =
    by_test (ltb n 10) (λ e. rw (decimal-one n (ltb-true n 10 e)) (omega arith))
    (λ e. rw (decimal-more n (ltb-false n 10 e)) (simp length-append (omega arith)))

pub decimal-length : FewDigits
decimal-length zero n h = rw (decimal-one n (omega arith)) (omega arith)
decimal-length (suc k) n h =
    by_test (ltb n 10) (λ e. rw (decimal-one n (ltb-true n 10 e)) (omega arith))
    (λ e.
    let l = ltb-false n 10 e in
    let p : n < 10 ^ (suc k) * 10 = rw (pow-suc 10 (suc k)) at h in
    let q = decimal-length k (n / 10) (omega arith) in
    rw (decimal-more n l) (simp length-append (omega arith)))

-- ---- what they spell

-- a number as text is a field just wide enough
record Field (n : ℕ) : Type 0 where
  width : ℕ
  spelt : decimal n ≡ digits_of width n
  held : n < 10 ^ width

field : (n : ℕ) → Field n
unfolding digits_of
field =
    by_digit Field
    (λ n h. record { width = 1; spelt = decimal-one n h; held = omega arith })
    (λ n h f. record {
      width = suc f.width;
      spelt = decimal-more n h ∙ (ap (λ (l : List ℕ). l ++ (digit n ∷ [])) f.spelt ∙ sym (digits_suc f.width n));
      held = let p = pow-suc 10 f.width in let q = f.held in omega arith;
    })

pub decimal_value : SpellNumber
decimal_value n = let f = field n in rw f.spelt (value_digits f.width n f.held)

pub decimal-digits : OnlyDigits
decimal-digits n = let f = field n in rw f.spelt (digits-digits f.width n)

first-append : (xs ys : List ℕ) → 49 ≤ get_or xs 0 0 → 49 ≤ get_or (xs ++ ys) 0 0
first-append [] ys h = absurd (omega arith)
first-append (x ∷ xs) ys h = h

pub decimal-first : NoZeroInFront
decimal-first =
    by_digit (λ n. 0 < n → 49 ≤ get_or (decimal n) 0 0) (λ n h p. rw (decimal-one n h) (omega arith))
    (λ n h f p. rw (decimal-more n h) (first-append (decimal (n / 10)) (digit n ∷ []) (f (omega arith))))
