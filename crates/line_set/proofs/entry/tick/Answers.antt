-- `line_set::entry::tick` meets its contract: the space is summed, then the records are written and the timers fall.
-- Assumes nothing.
use Prim.Native.Nat.{◌<◌}
use mathlib.Core.Path.{◌≡◌, refl, sym, ◌∙◌}
use native.Mathlib.Omega.{arith}
use lib.ListN.{length, get_or}
use borrow.Author.Tests.{eqb-false}
use Rattle.std.specs.Prelude.{Ok}
use Rattle.line_rules.specs.Rules.{happens}
use Rattle.channel.specs.declared.state.Channel.{Channel}
use Rattle.set_state.specs.State.{no_channel, channels_of}
use Rattle.set_state.specs.declared.state.Refusal.TheVariants.{NoPlan, NoRoom}
use Rattle.set_state.specs.declared.state.Entry.TheVariants.{Tick}
use Rattle.set_rules.specs.Entries.{entry_kind}
use Rattle.set_rules.specs.Records.{space_of}
use Rattle.set_rules.specs.SetRules.{on_tick}
use Rattle.set_rules.proofs.Kept.{gives_as, left_as_was, no_room}
use Rattle.line_set.proofs.WholeSet.{unplanned, tick-step}
use Rattle.line_set.proofs.Seeking.{passed}
use Rattle.line_set.proofs.Turns.{At, here, sum-last}
use Rattle.line_set.proofs.Ticking.{scan_first, scan_rest, scan_silent, scan_due, tick-first, tick-last, here-still, due-fits, turned, silent-turn, kept-turn}
use Rattle.line_set.proofs.entry.tick.Goals as goal
use Rattle.line_set.proofs.entry.tick.Goals.{After-loop-k, In-loop-i, then-may_fall, then-is_due, else-is_due, else-may_fall, in-Still, in-Ring, in-Quiet, in-Release, in-Due}

no-plan : entry_kind (Ok Tick) ≡ 7 → ⊥
unfolding entry_kind
no-plan = eqb-false _ _ refl

pub returns-then-not-set : goal.returns-then-not-set
returns-then-not-set c e =
    gives_as (unplanned c.args.set.now e (length c.args.buffer.now) Tick no-plan c.if-not-set.true) (left_as_was c.args.set.now NoPlan c.args.buffer.now)

-- ---- the space

pub loop-k-init : goal.loop-k-init
loop-k-init c = (scan_first _, λ h. absurd (omega arith))

pub overflow_add-need : goal.overflow_add-need
overflow_add-need c =
    omega (arith, c.loop-k.invariant.0.counted.bound, c.space_in-need.ensures.1, c.count_of-count.ensures.1, c.loop-k-test.true)

pub loop-k-preserved : goal.loop-k-preserved
loop-k-preserved c =
    let s = c.args.set.now in
    let l = c.loop-k in
    let wide : length s.channels ≡ 32 = omega arith in
    let p = here s _ l.k _ wide c.count_of-count.ensures.0 c.loop-k-test.true in
    let m = l.invariant.0 in
    elim c.if-may_fall.branch [
      | then-may_fall w ↦ elim w.if-is_due.branch [
        | then-is_due v ↦ (scan_due s l.k _ p m _ v.space_in-need.ensures (w.need-is ∙ v.need-is) w.end-is, λ h. wide)
        | else-is_due v ↦ (scan_silent s l.k _ p m (sym w.is_due.ensures ∙ v.if-is_due.false) (w.need-is ∙ v.need-is) w.end-is, λ h. wide)
      ]
      | else-may_fall w ↦ (scan_rest s l.k _ p m (sym c.may_fall.ensures ∙ w.if-may_fall.false) w.need-is w.end-is, λ h. wide)
    ]

all_counted : (c : After-loop-k) → c.loop-k.k ≡ length (channels_of c.args.set.now)
all_counted c =
    let s = c.args.set.now in
    passed s.channels s.size.channels _ c.loop-k.k c.count_of-count.ensures.0 (omega (arith, c.loop-k-test.false, c.loop-k.auto.k-end)) c.loop-k.invariant.1

total-is : (c : After-loop-k) → c.loop-k.need ≡ space_of (on_tick c.args.set.now).sent
unfolding on_tick
total-is c =
    let s = c.args.set.now in
    sum-last s.desks _ (channels_of s) c.loop-k.k c.loop-k.need (omega (arith, all_counted c)) c.loop-k.invariant.0.counted

pub returns-then-buffer-need : goal.returns-then-buffer-need
returns-then-buffer-need c e =
    let s = c.args.set.now in
    gives_as (tick-step s e (length c.args.buffer.now) c.if-not-set.false)
    (no_room s c.args.buffer.now (on_tick s) (omega (arith, total-is (goal.at.returns-then-buffer-need c).After-loop-k, c.if-buffer-need.true)) (left_as_was s NoRoom c.args.buffer.now))

-- ---- the records and the channels

pub loop-i-init : goal.loop-i-init
loop-i-init c = tick-first c.args.set.now c.args.buffer.now (omega (arith, total-is (goal.at.loop-i-init c).After-loop-k, c.if-buffer-need.false))

turn_at : (c : In-loop-i) (z : Channel) → At (channels_of c.args.set.now) c.loop-i.i (get_or c.loop-i.set.channels c.loop-i.i z)
turn_at c z =
    let l = c.loop-i in
    let s = c.args.set.now in
    let scan = c.loop-k in
    let within : l.i < c.count_of-count.result = omega (arith, c.loop-i-test.true, scan.invariant.0.low, scan.auto.k-end) in
    here-still s c.args.buffer.now l.i _ (here s _ l.i no_channel (scan.invariant.1 (omega (arith, c.loop-i-test.true, scan.invariant.0.low))) c.count_of-count.ensures.0 within) l.invariant z

pub put_in-written-requires : goal.put_in-written-requires
put_in-written-requires c =
    let l = c.loop-i in
    due-fits c.args.set.now c.args.buffer.now l.i _ (turn_at (goal.at.put_in-written-requires c).In-loop-i _) l.invariant

pub loop-i-preserved : goal.loop-i-preserved
unfolding happens
loop-i-preserved c =
    let s = c.args.set.now in
    let b = c.args.buffer.now in
    let l = c.loop-i in
    let m = l.invariant in
    let p = turn_at (goal.at.loop-i-preserved c).In-loop-i _ in
    let falls = sym c.falls-falling.ensures in
    elim c.match-falling.branch [
      | in-Still w ↦ kept-turn s b l.i _ p m (falls ∙ w.in-Still.is) w.set-is w.buffer-is w.written-is
      | in-Ring w ↦ silent-turn s b l.i _ p m _ (falls ∙ w.in-Ring.is) refl w.set-is w.buffer-is w.written-is
      | in-Quiet w ↦ silent-turn s b l.i _ p m _ (falls ∙ w.in-Quiet.is) refl w.set-is w.buffer-is w.written-is
      | in-Release w ↦ silent-turn s b l.i _ p m _ (falls ∙ w.in-Release.is) refl w.set-is w.buffer-is w.written-is
      | in-Due w ↦
          let put = w.put_in-written.ensures in
          turned s b l.i _ p m _ w.set-is (w.ticked-next.ensures _) (w.written-is ∙ put.0, w.buffer-is ∙ put.1)
    ]

pub returns : goal.returns
returns c e =
    let l = c.loop-i in
    let s = c.args.set.now in
    let scan = c.loop-k in
    gives_as (tick-step s e (length c.args.buffer.now) c.if-not-set.false)
    (tick-last s c.args.buffer.now l.i scan.need scan.end scan.k c.loop-i-test.false (omega (arith, l.auto.i-end, scan.invariant.0.low)) (all_counted (goal.at.returns c).After-loop-k) scan.invariant.0 l.invariant)
