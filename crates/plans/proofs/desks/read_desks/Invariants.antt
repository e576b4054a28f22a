-- `plans::desks::read_desks` meets its contract. The invariant: the desks are right exactly when those from `i` on are, and
-- the array then lacks only these.
-- Assumes nothing.
use Prim.Native.Nat.{◌*◌, ◌-◌}
use mathlib.Core.Path.{◌≡◌}
use lib.ListN.{length, drop}
use lib.Seq.{sets}
use Rattle.set_state.specs.State.{no_desk}
use Rattle.set_rules.specs.Plan.{desks_ok, desks_in, filled}
use Rattle.plans.proofs.desks.read_desks.Given as goal

abbrev pub invariant-loop-i : goal.invariant-loop-i
invariant-loop-i l = record {
  long : length l.desks ≡ 4;
  right : desks_ok l.n l.s ≡ desks_ok (l.n - l.i) (drop (10 * l.i) l.s);
  stored : filled 4 no_desk (desks_in l.n l.s) ≡ sets l.desks l.i (desks_in (l.n - l.i) (drop (10 * l.i) l.s));
}
