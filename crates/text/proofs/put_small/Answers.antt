-- `text::put_small` meets its contract: one digit, two or three.
-- Assumes nothing.
use Prim.Native.Nat.{◌+◌, suc}
use mathlib.Core.Path.{◌≡◌, ap, refl}
use native.Mathlib.Omega.{arith}
use lib.ListN.{length, length-set}
use Rattle.text.specs.Written.{written}
use Rattle.numerals.proofs.Kept.{length_digits}
use Rattle.text.proofs.DecimalLaws.{decimal-one, decimal-two, decimal-three}
use Rattle.text.proofs.put_small.Goals as goal

pub bounds-text-at : goal.bounds-text-at
bounds-text-at c = omega (arith, ap length (decimal-one c.args.n (omega arith)))

pub returns-then-n-lt10 : goal.returns-then-n-lt10
unfolding written
returns-then-n-lt10 c =
    let e = decimal-one c.args.n (omega arith) in
    record { text = rw (e, c.digit.ensures); place = rw e refl }

pub bounds-text-at-then-n-lt100 : goal.bounds-text-at-then-n-lt100
bounds-text-at-then-n-lt100 c = omega (arith, ap length (decimal-two c.args.n (omega arith) (omega arith)))

pub bounds-text-at-then-n-lt100-2 : goal.bounds-text-at-then-n-lt100-2
bounds-text-at-then-n-lt100-2 c = simp length-set (omega (arith, ap length (decimal-two c.args.n (omega arith) (omega arith))))

pub returns-then-n-lt100 : goal.returns-then-n-lt100
unfolding written
returns-then-n-lt100 c =
    let e = decimal-two c.args.n (omega arith) (omega arith) in
    let p : c.args.at + 1 ≡ suc c.args.at = omega arith in
    record { text = rw (e, c.digit-then-n-lt100.ensures, c.digit-then-n-lt100-2.ensures, p); place = rw e refl }

pub put_three-requires : goal.put_three-requires
put_three-requires c =
    let e = decimal-three c.args.n (omega arith) (omega arith) in
    omega (arith, ap length e, length_digits 3 c.args.n)

pub returns : goal.returns
returns c =
    let e = decimal-three c.args.n (omega arith) (omega arith) in
    rw e c.put_three.ensures
