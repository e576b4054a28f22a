-- `line_set::all::space_all` meets its contract: the space of the channels passed is counted.
-- Assumes nothing.
use native.Mathlib.Omega.{arith}
use Rattle.set_state.specs.State.{channels_of}
use Rattle.set_rules.specs.SetRules.{end_sends, on_handover}
use Rattle.line_set.proofs.Seeking.{counted}
use Rattle.line_set.proofs.Turns.{here, sum_first, sum-last, ends_next}
use Rattle.line_set.proofs.all.space_all.Goals as goal

pub loop-i-init : goal.loop-i-init
loop-i-init c = sum_first _ _ _

pub overflow_add-sum : goal.overflow_add-sum
overflow_add-sum c = omega (arith, c.loop-i.invariant.bound, c.space_in-sum.ensures.1, c.count_of-end.ensures.1, c.loop-i-test.true)

pub overflow_add-sum-in-loop-i : goal.overflow_add-sum-in-loop-i
overflow_add-sum-in-loop-i c = omega (arith, c.loop-i.invariant.bound, c.space_in-sum.ensures.1, c.space_in-sum-in-loop-i.ensures.1, c.count_of-end.ensures.1, c.loop-i-test.true)

pub loop-i-preserved : goal.loop-i-preserved
loop-i-preserved c =
    let st = c in
    let s = st.args.set in
    let l = c.loop-i in
    let p = here s _ l.i _ st.well_formed.0.1.1.0.1.0.1 c.count_of-end.ensures.0 c.loop-i-test.true in
    ends_next s.desks s.size.desks (channels_of s) l.i _ l.sum _ _ p c.space_in-sum.ensures c.space_in-sum-in-loop-i.ensures l.invariant

pub returns : goal.returns
unfolding on_handover
returns c =
    let st = c in
    let s = st.args.set in
    let l = c.loop-i in
    let e = counted s.channels s.size.channels _ st.well_formed.0.1.1.0.1.0.1 c.count_of-end.ensures.0 in
    sum-last s.desks (end_sends s.desks s.size.desks) (channels_of s) l.i l.sum (omega (arith, e, c.loop-i-test.false)) l.invariant
