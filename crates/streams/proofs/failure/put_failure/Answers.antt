-- `streams::failure::put_failure` meets its contract: a number of 64 bits has 20 digits at most.
-- Assumes nothing.
use Rattle.std.proofs.Common.{◌≡◌, ℕ, List, [], ◌∷◌, ◌++◌, append_assoc, arith, length-append}
use Rattle.text.specs.Ascii.{ascii}
use Rattle.text.specs.Decimal.{decimal}
use Rattle.text.proofs.Kept.{also, puts-length, decimal-length}
use Rattle.streams.specs.Failures.{failure_line}
use Rattle.streams.proofs.failure.put_failure.Goals as goal

parts : (w : List ℕ) (n : ℕ) → (w ++ (58 ∷ 32 ∷ 101 ∷ 114 ∷ 114 ∷ 111 ∷ 114 ∷ 32 ∷ [])) ++ (decimal n ++ (10 ∷ [])) ≡ failure_line w n
unfolding failure_line ascii
parts w n = simp append_assoc

pub put_item-requires : goal.put_item-requires
put_item-requires c =
    let a = c.args in
    omega (arith, c.put_bytes-second.ensures.place, c.put_bytes-first.ensures.place, puts-length c.put_bytes-second.ensures, puts-length c.put_bytes-first.ensures, decimal-length 19 a.error (omega (arith, c.ranges.error.fits)))

pub returns : goal.returns
returns c =
    let a = c.args in
    let first = c.put_bytes-first.ensures in
    let second = c.put_bytes-second.ensures in
    let third = c.put_item.ensures in (
      omega (arith, first.place, second.place, third.place, puts-length first, puts-length second, puts-length third, length-append (decimal a.error) (10 ∷ []), decimal-length 19 a.error (omega (arith, c.ranges.error.fits))),
      rw (← parts a.what.now a.error) (also (also first second) third),
    )
