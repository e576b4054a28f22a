-- What a round over a feed counts: the entries stepped, how many were accepted, and the bytes written, in 64 bits.
use Rattle.std.specs.Prelude.{ℕ, ◌+◌, ◌-◌, ◌*◌, ◌%◌, ◌^◌, cond, ◌&&◌, List, [], ◌∷◌, length, ◌==◌, nat_lt}
use Rattle.numerals.specs.Digits.{is_digit}
use Rattle.text.specs.Decimal.{decimal, line}
use Rattle.set_state.specs.State.{new_set}
use Rattle.set_rules.specs.Feeds.{Outcome, run}
use Rattle.feeds.specs.Listing.{entries_in, lent_to}
use Rattle.steps.specs.declared.rounds.Round.{Round}

abbrev pub none : Round
none = record { entries = 0; accepted = 0; bytes = 0 }

abbrev pub counted : Round → Outcome → Round
counted r o =
    record { entries = r.entries + 1; accepted = r.accepted + cond (o.refusal == 0) 1 0; bytes = (r.bytes + o.count) % 2 ^ 64 }

unfoldable pub counting : Round → List Outcome → Round
counting r [] = r
counting r (o ∷ os) = counting (counted r o) os

-- a round over a feed, with a buffer of so many bytes
unfoldable pub round_of : ℕ → List ℕ → Round
round_of room feed = counting none (run new_set (lent_to room (entries_in feed)))

-- the last of so many rounds, which are all the same
abbrev pub last_of : ℕ → ℕ → List ℕ → Round
last_of rounds room feed = cond (0 == rounds) none (round_of room feed)

unfoldable pub round_line : Round → List ℕ
round_line r = line (decimal r.entries) (decimal r.accepted ∷ decimal r.bytes ∷ [])

-- ---- how many rounds the argument asks for: one without it

-- the number that the digits at the front of a text make behind n, as far as it stays below 1,000,000,000
unfoldable pub number_from : ℕ → List ℕ → ℕ
number_from n [] = n
number_from n (b ∷ bs) = cond (is_digit b && nat_lt n 100000000) (number_from (n * 10 + (b - 48)) bs) n

unfoldable pub rounds_in : List ℕ → ℕ
rounds_in text = cond (length text == 0) 1 (number_from 0 text)
