-- `plans::desks::read_desks` meets its contract. The invariant: the desks are right exactly when those from `i` on are, and
-- the array then lacks only these.
-- Assumes nothing.
use Prim.Native.Nat.{◌*◌, ◌≤◌}
use mathlib.Core.Bool.{false}
use mathlib.Core.Path.{◌≡◌, refl, sym, ◌∙◌}
use native.Mathlib.Omega.{arith}
use native.Mathlib.Nat.{sub-zero}
use native.Mathlib.Numerals.{add-one}
use lib.ListN.{length, drop, length-set}
use Rattle.std.specs.Prelude.{Some, None}
use Rattle.std.proofs.lemmas.Option.{cond_some}
use Rattle.laws.proofs.Lists.{part_to_end}
use Rattle.laws.proofs.Tests.{cond_none}
use Rattle.set_state.specs.State.{no_desk}
use Rattle.set_rules.specs.Plan.{desk_ok, desks_ok, desks_in, filled}
use Rattle.plans.specs.Planned.{desk_in, desk_of, desks_read}
use Rattle.plans.proofs.Filled.{filled_sets}
use Rattle.set_rules.proofs.Kept.{length-desks}
use Rattle.plans.proofs.Turns.{desks_ok_at, desks-at, desks_end}
use Rattle.plans.proofs.desks.read_desks.Goals as goal

pub loop-i-init : goal.loop-i-init
loop-i-init c =
    let h : length (desks_in c.args.n c.args.s.now) ≤ 4 = rw length-desks (omega arith) in
    record {
      long = refl;
      right = rw sub-zero;
      stored = rw (sub-zero, c.none-filler.ensures) (filled_sets 4 no_desk (desks_in c.args.n c.args.s.now) h);
    }

pub returns-in_err-desks : goal.returns-in_err-desks
unfolding desks_read
returns-in_err-desks c =
    let a = c.args in
    let l = c.loop-i in
    let b = drop (10 * l.i) a.s.now in
    let d : desk_in b ≡ None = rw (part_to_end a.s.now (10 * l.i)) at (sym c.read_desk.ensures ∙ c.in_err-desks.was) in
    let e : desks_ok a.n a.s.now ≡ false = l.invariant.right ∙ desks_ok_at a.n l.i c.loop-i-test.true a.s.now ∙ rw (cond_none (desk_ok b) (desk_of b) d) in
    rw e c.from_residual.ensures

pub loop-i-preserved : goal.loop-i-preserved
loop-i-preserved c =
    let a = c.args in
    let l = c.loop-i in
    let h = c.loop-i-test.true in
    let b = drop (10 * l.i) a.s.now in
    let k = c.in_ok-desks.field-0 in
    let d : desk_in b ≡ Some k = rw (part_to_end a.s.now (10 * l.i)) at (sym c.read_desk.ensures ∙ c.in_ok-desks.was) in
    let f = cond_some (desk_ok b) (desk_of b) k d in
    record {
      long = simp length-set l.invariant.long;
      right = l.invariant.right ∙ desks_ok_at a.n l.i h a.s.now ∙ rw f.0;
      stored = l.invariant.stored ∙ rw (desks-at a.n l.i h a.s.now, f.1, add-one l.i);
    }

pub returns : goal.returns
unfolding desks_read
returns c =
    let l = c.loop-i in
    let d = desks_end c.args.n l.i c.loop-i-test.false (drop (10 * l.i) c.args.s.now) in
    let f : filled 4 no_desk (desks_in c.args.n c.args.s.now) ≡ l.desks = l.invariant.stored ∙ rw d.1 in
    rw (l.invariant.right ∙ d.0, f)
