-- `plans::channels::read_channels` meets its contract. The invariant: the channels are right exactly when those from `i` on
-- are, and the array then lacks only these.
-- Assumes nothing.
use Prim.Native.Nat.{◌*◌, ◌-◌}
use mathlib.Core.Path.{◌≡◌}
use lib.ListN.{length, drop}
use lib.Seq.{sets}
use Rattle.set_state.specs.State.{no_channel}
use Rattle.set_rules.specs.Plan.{channels_ok, channels_in, filled}
use Rattle.plans.proofs.channels.read_channels.Given as goal

abbrev pub invariant-loop-i : goal.invariant-loop-i
invariant-loop-i l = record {
  long : length l.channels ≡ 32;
  right : channels_ok l.n 0 l.desks l.s ≡ channels_ok (l.n - l.i) l.low l.desks (drop (2 * l.i) l.s);
  stored : filled 32 no_channel (channels_in l.n l.s) ≡ sets l.channels l.i (channels_in (l.n - l.i) (drop (2 * l.i) l.s));
}
