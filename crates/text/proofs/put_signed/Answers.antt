-- `text::put_signed` meets its contract: the sign, where there is one, and the size.
-- Assumes nothing.
use mathlib.Core.Bool.{true, false}
use mathlib.Core.Path.{ap, sym, ◌∙◌}
use native.Mathlib.Omega.{arith}
use lib.ListN.{length}
use Rattle.text.specs.Decimal.{decimal}
use Rattle.text.proofs.PutLaws.{also, alike}
use Rattle.text.proofs.SignedLaws.{signed_is}
use Rattle.text.proofs.put_signed.Goals as goal

pub put_byte-place-requires : goal.put_byte-place-requires
put_byte-place-requires c = omega (arith, ap length (signed_is c.args.n true c.ranges.n c.if-n-lt0.true))

pub put_number-requires : goal.put_number-requires
put_number-requires c =
    omega (arith, ap length (signed_is c.args.n true c.ranges.n c.if-n-lt0.true), c.put_byte-place.ensures.place, ap length (ap decimal c.unsigned_abs-size.ensures.value))

pub returns-then-n-lt0 : goal.returns-then-n-lt0
returns-then-n-lt0 c =
    alike (also c.put_byte-place.ensures (alike c.put_number.ensures (ap decimal c.unsigned_abs-size.ensures.value)))
    (sym (signed_is _ true c.ranges.n c.if-n-lt0.true))

pub put_number-requires-2 : goal.put_number-requires-2
put_number-requires-2 c =
    omega (arith, ap length (signed_is c.args.n false c.ranges.n c.if-n-lt0.false), ap length (ap decimal c.unsigned_abs-size.ensures.value))

pub returns : goal.returns
returns c = alike c.put_number-2.ensures (ap decimal c.unsigned_abs-size.ensures.value ∙ sym (signed_is _ false c.ranges.n c.if-n-lt0.false))
