-- `plans::channels::read_channels` meets its contract. The invariant: the channels are right exactly when those from `i` on
-- are, and the array then lacks only these.
-- Assumes nothing.
use Prim.Native.Nat.{◌+◌, ◌*◌, ◌≤◌}
use mathlib.Core.Bool.{true, false, ◌&&◌}
use mathlib.Core.Path.{◌≡◌, refl, sym, ◌∙◌}
use native.Mathlib.Omega.{arith}
use native.Mathlib.Nat.{sub-zero}
use native.Mathlib.Numerals.{add-one}
use lib.ListN.{length, drop, get_or, length-set}
use Rattle.fields.specs.Fields.{between}
use Rattle.channel.specs.State.{first_desks}
use Rattle.set_state.specs.State.{no_channel}
use Rattle.set_rules.specs.Plan.{channels_ok, channels_in, filled}
use Rattle.plans.specs.Planned.{channels_read}
use Rattle.plans.proofs.Filled.{filled_sets}
use Rattle.set_rules.proofs.Kept.{length-channels}
use Rattle.plans.proofs.Turns.{channels_ok_at, channels-at, channels_end, code-low}
use Rattle.plans.proofs.channels.read_channels.Goals as goal

pub loop-i-init : goal.loop-i-init
loop-i-init c =
    let h : length (channels_in c.args.n c.args.s.now) ≤ 32 = rw length-channels (omega arith) in
    record {
      long = refl;
      right = rw sub-zero;
      stored = rw (sub-zero, c.new-filler.ensures) (filled_sets 32 no_channel (channels_in c.args.n c.args.s.now) h);
    }

pub returns-then-not-is_channel : goal.returns-then-not-is_channel
unfolding channels_read
returns-then-not-is_channel c =
    let a = c.args in
    let l = c.loop-i in
    let s = a.s.now in
    let t : (between l.low 99 (get_or s (2 * l.i) 0) && between 1 (first_desks a.desks) (get_or s (2 * l.i + 1) 0)) ≡ false = rw c.first_desks-all.ensures at (sym c.is_channel.ensures ∙ c.if-not-is_channel.true) in
    let e : channels_ok a.n 0 a.desks s ≡ false = l.invariant.right ∙ channels_ok_at a.n l.i c.loop-i-test.true s l.low a.desks ∙ rw t in
    rw e

pub overflow_add-low : goal.overflow_add-low
overflow_add-low c =
    let s = c.args.s.now in
    let l = c.loop-i in
    omega (arith, code-low l.low (get_or s (2 * l.i) 0) c.first_desks-all.result (get_or s (2 * l.i + 1) 0) (sym c.is_channel.ensures ∙ c.if-not-is_channel.false))

pub loop-i-preserved : goal.loop-i-preserved
loop-i-preserved c =
    let a = c.args in
    let l = c.loop-i in
    let s = a.s.now in
    let h = c.loop-i-test.true in
    let t : (between l.low 99 (get_or s (2 * l.i) 0) && between 1 (first_desks a.desks) (get_or s (2 * l.i + 1) 0)) ≡ true = rw c.first_desks-all.ensures at (sym c.is_channel.ensures ∙ c.if-not-is_channel.false) in
    record {
      long = simp length-set l.invariant.long;
      right = l.invariant.right ∙ channels_ok_at a.n l.i h s l.low a.desks ∙ rw t;
      stored = l.invariant.stored ∙ rw (channels-at a.n l.i h s, c.new.ensures, add-one l.i);
    }

pub returns : goal.returns
unfolding channels_read
returns c =
    let l = c.loop-i in
    let d = channels_end c.args.n l.i c.loop-i-test.false l.low c.args.desks (drop (2 * l.i) c.args.s.now) in
    let f : filled 32 no_channel (channels_in c.args.n c.args.s.now) ≡ l.channels = l.invariant.stored ∙ rw d.1 in
    rw (l.invariant.right ∙ d.0, f)
