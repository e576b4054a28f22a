-- `numerals::digits::read_digits` meets its contract. The invariant: the bytes passed are digits and spell `v`.
-- Assumes nothing.
use Prim.Native.Nat.{◌<◌, ◌^◌}
use mathlib.Core.Path.{◌≡◌}
use lib.ListN.{drop}
use Rattle.numerals.specs.Digits.{all_digits, value_from}
use Rattle.numerals.proofs.digits.read_digits.Given as goal

abbrev pub invariant-loop-b : goal.invariant-loop-b
invariant-loop-b l =
    (l.v < 10 ^ l.b-index)
    × (all_digits l.s ≡ all_digits (drop l.b-index l.s))
    × (value_from 0 l.s ≡ value_from l.v (drop l.b-index l.s))
