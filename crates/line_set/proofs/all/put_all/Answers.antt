-- `line_set::all::put_all` meets its contract: the records of the channels passed are written.
-- Assumes nothing.
use native.Mathlib.Omega.{arith}
use Rattle.set_state.specs.State.{channels_of}
use Rattle.records.proofs.Kept.{start, next, room, all_put}
use Rattle.set_rules.specs.SetRules.{end_sends, on_handover}
use Rattle.line_set.proofs.Seeking.{counted}
use Rattle.line_set.proofs.Turns.{here, talk-turn, call-turn, put_end}
use Rattle.line_set.proofs.all.put_all.Goals as goal

pub loop-i-init : goal.loop-i-init
unfolding on_handover
loop-i-init c = start _ _ _

pub put_in-at-requires : goal.put_in-at-requires
put_in-at-requires c =
    let st = c in
    let s = st.args.set in
    let l = c.loop-i in
    let p = here s _ l.i _ st.well_formed.0.1.1.0.1.0.1 c.count_of-end.ensures.0 c.loop-i-test.true in
    room l.invariant (talk-turn s.desks s.size.desks (channels_of s) l.i _ p) (omega (arith, st.requires))

pub put_in-at-requires-in-loop-i : goal.put_in-at-requires-in-loop-i
put_in-at-requires-in-loop-i c =
    let st = c in
    let s = st.args.set in
    let l = c.loop-i in
    let p = here s _ l.i _ st.well_formed.0.1.1.0.1.0.1 c.count_of-end.ensures.0 c.loop-i-test.true in
    let talk = c.put_in-at.ensures in
    room (next l.invariant (talk-turn s.desks s.size.desks (channels_of s) l.i _ p) talk.0 talk.1) (call-turn s.desks s.size.desks (channels_of s) l.i _) (omega (arith, st.requires))

pub loop-i-preserved : goal.loop-i-preserved
loop-i-preserved c =
    let st = c in
    let s = st.args.set in
    let l = c.loop-i in
    let p = here s _ l.i _ st.well_formed.0.1.1.0.1.0.1 c.count_of-end.ensures.0 c.loop-i-test.true in
    let talk = c.put_in-at.ensures in
    let call = c.put_in-at-in-loop-i.ensures in
    next (next l.invariant (talk-turn s.desks s.size.desks (channels_of s) l.i _ p) talk.0 talk.1) (call-turn s.desks s.size.desks (channels_of s) l.i _) call.0 call.1

pub shape_of-buffer : goal.shape_of-buffer
shape_of-buffer c = c.loop-i.invariant.same

pub returns : goal.returns
returns c =
    let st = c in
    let s = st.args.set in
    let l = c.loop-i in
    let e = counted s.channels s.size.channels _ st.well_formed.0.1.1.0.1.0.1 c.count_of-end.ensures.0 in
    all_put l.invariant (put_end s.desks (end_sends s.desks s.size.desks) (channels_of s) l.i (omega (arith, e, c.loop-i-test.false)))
