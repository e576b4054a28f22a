-- `fields::lists::all_in` meets its contract. The invariant: all fields are in range exactly when those from `i` on are.
-- Assumes nothing.
use Prim.Native.Nat.{◌+◌}
use mathlib.Core.Bool.{◌&&◌}
use mathlib.Core.Path.{◌≡◌, sym, ◌∙◌}
use native.Mathlib.Omega.{arith}
use lib.ListN.{get_or, drop}
use Rattle.fields.specs.Fields.{all_in}
use Rattle.fields.specs.Held.{fields_of}
use Rattle.fields.proofs.FieldLaws.{all_in_at, all_in_end, all_in_count}
use Rattle.fields.proofs.lists.all_in.Goals as goal
use Rattle.fields.proofs.lists.all_in.Goals.{After-in_range}

pub returns-then-fields-values : goal.returns-then-fields-values
returns-then-fields-values c = sym (all_in_count c.args.fields.now c.args.values.now 0 0 c.if-fields-values.true)

-- all fields are in range exactly when this one and those behind it are
turn : (c : After-in_range) → let l = c.loop-i in let ks = c.args.fields.now in let vs = c.args.values.now in
    all_in (fields_of ks) 0 0 vs
    ≡ (c.in_range.result && all_in (fields_of (drop (l.i + 1) ks)) l.m (get_or vs l.i 0) (drop (l.i + 1) vs))
turn c =
    let l = c.loop-i in
    l.invariant ∙ all_in_at c.args.fields.now c.args.values.now l.i l.y l.m (omega arith) (omega arith) ∙ rw c.in_range.ensures

pub returns-then-not-in_range : goal.returns-then-not-in_range
returns-then-not-in_range c = sym (turn (goal.at.returns-then-not-in_range c).After-in_range ∙ simp c.if-not-in_range.true)

pub loop-i-preserved : goal.loop-i-preserved
loop-i-preserved c = turn (goal.at.loop-i-preserved c).After-in_range ∙ simp c.if-not-in_range.false

pub returns : goal.returns
returns c =
    let l = c.loop-i in
    sym (l.invariant ∙ all_in_end c.args.fields.now c.args.values.now l.i l.y l.m (omega arith) (omega arith))
