-- How the code holds what bytes spell, read in a straight line. It is no rule.
use Rattle.std.specs.Prelude.{ℕ, List, cond}
use Rattle.numerals.specs.Digits.{all_digits, value_of}

-- the number that bytes spell, or one above any that nine digits spell
abbrev pub as_number : List ℕ → ℕ
as_number bs = cond (all_digits bs) (value_of bs) 1000000000
