-- `text::put_thousands` meets its contract: the digits of the thousands, and the last three.
-- Assumes nothing.
use mathlib.Core.Path.{ap}
use native.Mathlib.Omega.{arith}
use lib.ListN.{length, length-append}
use Rattle.numerals.proofs.Kept.{length_digits}
use Rattle.text.proofs.DecimalLaws.{decimal_thousand}
use Rattle.text.proofs.PutLaws.{also}
use Rattle.text.proofs.+put_thousands.Goals as goal

pub put_thousands-place-requires : goal.put_thousands-place-requires
put_thousands-place-requires t c =
    (omega arith, omega (arith, simp length-append at (ap length (decimal_thousand c.args.n (omega arith)))))

pub put_three-requires : goal.put_three-requires
put_three-requires t c =
    omega (
      arith,
      c.put_thousands-place.ensures.place,
      length_digits 3 c.args.n,
      simp length-append at (ap length (decimal_thousand c.args.n (omega arith))),
    )

pub returns : goal.returns
returns t c = rw (decimal_thousand c.args.n (omega arith)) (also c.put_thousands-place.ensures c.put_three.ensures)
