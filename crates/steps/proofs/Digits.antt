-- The number that the digits at the front of a text make, byte by byte.
-- Assumes nothing.
use Rattle.std.proofs.Common.{◌≡◌, ℕ, ◌+◌, ◌-◌, ◌*◌, ◌<◌, ◌≤◌, ◌&&◌, cond, nat_lt, List, length, get_or, drop, refl, add-one, drop_of_length-le, drop-cons}
use Rattle.numerals.specs.Digits.{is_digit}
use Rattle.steps.specs.Rounds.{number_from}

pub ended : (text : List ℕ) (n i : ℕ) → length text ≤ i → number_from n (drop i text) ≡ n
unfolding number_from
ended text n i h = rw (drop_of_length-le text h) refl

pub one_more : (text : List ℕ) (n i : ℕ) → i < length text
    → let b = get_or text i 0 in number_from n (drop i text) ≡ cond (is_digit b && nat_lt n 100000000) (number_from (n * 10 + (b - 48)) (drop (i + 1) text)) n
unfolding number_from
one_more text n i h = rw (add-one, drop-cons text i 0 h) refl
