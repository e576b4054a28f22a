-- The line of a round: its parts as they are put, and how long it is.
-- Assumes nothing.
use Rattle.std.proofs.Common.{◌≡◌, ℕ, ◌^◌, ◌<◌, ◌≤◌, [], ◌∷◌, ◌++◌, length, append_assoc, arith, length-append}
use Rattle.text.specs.Decimal.{decimal}
use Rattle.text.proofs.Kept.{decimal-length}
use Rattle.steps.specs.Rounds.{round_line}
use Rattle.steps.specs.declared.rounds.Round.{Round}

pub parts : (r : Round) → ((decimal r.entries ++ (32 ∷ [])) ++ (decimal r.accepted ++ (32 ∷ []))) ++ (decimal r.bytes ++ (10 ∷ [])) ≡ round_line r
unfolding round_line
parts r = simp append_assoc

-- a number of 64 bits has 20 digits at most
pub twenty : (n : ℕ) → n < 2 ^ 64 → length (decimal n) ≤ 20
twenty n h = decimal-length 19 n (omega (arith, h))

pub line-fits : (r : Round) → r.entries < 2 ^ 64 → r.accepted < 2 ^ 64 → r.bytes < 2 ^ 64 → length (round_line r) ≤ 63
unfolding round_line
line-fits r e a b = simp length-append (omega (arith, twenty r.entries e, twenty r.accepted a, twenty r.bytes b))
