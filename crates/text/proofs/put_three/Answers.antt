-- `text::put_three` meets its contract: three stores.
-- Assumes nothing.
use Prim.Native.Nat.{◌+◌, suc}
use mathlib.Core.Path.{◌≡◌, refl}
use native.Mathlib.Omega.{arith}
use lib.ListN.{length-set}
use Rattle.text.specs.Written.{written}
use Rattle.numerals.specs.Digits.{digits_of}
use Rattle.text.proofs.put_three.Goals as goal

pub bounds-text-at-2 : goal.bounds-text-at-2
bounds-text-at-2 c = simp length-set (omega arith)

pub bounds-text-at-3 : goal.bounds-text-at-3
bounds-text-at-3 c = simp length-set (omega arith)

pub returns : goal.returns
unfolding written digits_of
returns c =
    let at = c.args.at in
    let p1 : at + 1 ≡ suc at = omega arith in
    let p2 : at + 2 ≡ suc (suc at) = omega arith in
    record { text = rw (c.digit.ensures, c.digit-2.ensures, c.digit-3.ensures, p1, p2); place = refl }
