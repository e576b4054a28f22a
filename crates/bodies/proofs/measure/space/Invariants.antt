-- `bodies::measure::space` meets its contract. The invariant: what is summed up so far and the space of the sends that are left make the
-- whole, whichever channel it is.
-- Assumes nothing.
use Prim.Native.Nat.{ℕ, ◌+◌, ◌*◌, ◌≤◌}
use mathlib.Core.List.{List}
use mathlib.Core.Path.{◌≡◌}
use lib.ListN.{length, drop}
use Rattle.set_rules.specs.Records.{delivered, space_of}
use Rattle.set_state.specs.declared.state.Desk.{Desk}
use Rattle.bodies.proofs.measure.space.Given as goal

abbrev pub invariant-loop-s : goal.invariant-loop-s
invariant-loop-s l = record {
  told : (ds : List Desk) (ch : ℕ) → l.sum + space_of (delivered ds ch (drop l.s-index l.s-items)) ≡ space_of (delivered ds ch l.fn.sends);
  within : l.sum ≤ l.s-index * 408;
  seven : length l.s-items ≡ 7;
}
