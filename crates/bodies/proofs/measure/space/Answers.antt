-- `bodies::measure::space` meets its contract. The invariant: what is summed up so far and the space of the sends that are left make the
-- whole, whichever channel it is.
-- Assumes nothing.
use native.Mathlib.Omega.{arith}
use Rattle.bodies.proofs.SpaceLaws.{space-next, space_end}
use Rattle.bodies.proofs.measure.space.Goals as goal

pub loop-s-preserved : goal.loop-s-preserved
loop-s-preserved c =
    let l = c.loop-s in
    record {
      told = λ ds ch. space-next ds ch c.args.sends l.s-index _ l.sum (omega (arith, c.loop-s-test.true, l.invariant.seven)) (l.invariant.told ds ch) c.notice_size.ensures.0 c.space_of-sum.ensures.0;
      within = omega (arith, l.invariant.within, c.space_of-sum.ensures.1);
      seven = l.invariant.seven;
    }

pub returns : goal.returns
returns c =
    let l = c.loop-s in
    (λ ds ch. omega (arith, l.invariant.told ds ch, space_end ds ch c.args.sends l.s-index (omega (arith, c.loop-s-test.false, l.invariant.seven))), omega (arith, l.invariant.within, l.auto.s-index-end))
