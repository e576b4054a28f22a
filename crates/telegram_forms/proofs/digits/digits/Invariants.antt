-- `telegram_forms::digits::digits` meets its contract. The invariant: the digits from place k on are put, and `rest` is the number
-- without them.
-- Assumes nothing.
use Prim.Native.Nat.{◌+◌, ◌-◌}
use mathlib.Core.Path.{◌≡◌}
use lib.Seq.{sets}
use Rattle.numerals.specs.Digits.{digits_of}
use Rattle.numerals.specs.Promises.{shifted}
use Rattle.telegram_forms.proofs.digits.digits.Given as goal

abbrev pub invariant-loop-k : goal.invariant-loop-k
invariant-loop-k g l = record {
  put : l.t ≡ sets l.initial.t (l.at + l.k) (digits_of (g.row.W - l.k) l.v);
  left : l.rest ≡ shifted (g.row.W - l.k) l.v;
}
