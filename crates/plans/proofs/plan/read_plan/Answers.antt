-- `plans::plan::read_plan` meets its contract: the tests in the order of `plan_ok`, then the set.
-- Assumes nothing.
use Prim.Native.Nat.{◌+◌, ◌*◌}
use mathlib.Core.List.{List}
use mathlib.Core.Bool.{true, false, not, and-false}
use mathlib.Core.Path.{◌≡◌, sym, ap, ◌∙◌}
use native.Mathlib.Omega.{arith}
use lib.ListN.{length-drop, length-take}
use borrow.Author.Tests.{not-true, not-false}
use Rattle.laws.proofs.Lists.{part_to_end}
use Rattle.laws.proofs.Tests.{cond_none}
use Rattle.set_state.specs.declared.state.Desk.{Desk}
use Rattle.set_rules.specs.Plan.{distinct, plan_ok, set_of}
use Rattle.plans.specs.Planned.{counts_ok, size_of, plan_of}
use Rattle.plans.proofs.Answers.{Sized, sized, Found, desks-found, desks-missing, desks_of, channels-found, channels-missing}
use Rattle.plans.proofs.plan.read_plan.Goals as goal
use Rattle.plans.proofs.plan.read_plan.Goals.{In_ok-size, In_ok-desks}

-- the counts that were read, and the desks
size : (c : In_ok-size) → Sized c.args.plan.now c.in_ok-size.size
size c = sized _ _ _ c.read_counts.ensures c.in_ok-size.was

desks : (c : In_ok-desks) → Found c.args.plan.now c.in_ok-size.size.desks c.in_ok-desks.desks
desks c = desks-found _ _ (sized _ _ _ c.read_counts.ensures c.in_ok-size.was).desks _ c.read_desks.ensures _ c.in_ok-desks.was

pub returns-in_err-size : goal.returns-in_err-size
unfolding plan_of plan_ok counts_ok
returns-in_err-size c =
    let p = c.args.plan.now in
    let k : counts_ok p ≡ false = cond_none (counts_ok p) (size_of p) (sym c.read_counts.ensures ∙ c.in_err-size.was) in
    rw k c.from_residual.ensures

pub slice_bounds-read_desks-count : goal.slice_bounds-read_desks-count
slice_bounds-read_desks-count c = omega (arith, (size (goal.at.slice_bounds-read_desks-count c).In_ok-size).size)

pub slice_bounds-read_desks-start : goal.slice_bounds-read_desks-start
slice_bounds-read_desks-start c = omega (arith, (size (goal.at.slice_bounds-read_desks-start c).In_ok-size).size)

pub read_desks-requires : goal.read_desks-requires
read_desks-requires c =
    let k = size (goal.at.read_desks-requires c).In_ok-size in
    (omega (arith, k.desks, k.few_desks), rw (part_to_end c.args.plan.now 1, length-drop) (omega (arith, k.desks, k.size)))

pub returns-in_err-desks : goal.returns-in_err-desks
unfolding plan_of plan_ok
returns-in_err-desks c =
    let k = size (goal.at.returns-in_err-desks c).In_ok-size in
    let e = desks-missing c.args.plan.now _ k.desks _ c.read_desks.ensures c.in_err-desks.was in
    simp (e, and-false) c.from_residual-in_err-desks.ensures

pub slice_bounds-desks-end : goal.slice_bounds-desks-end
slice_bounds-desks-end c =
    let f = desks (goal.at.slice_bounds-desks-end c).In_ok-desks in
    omega (arith, f.long, length-take c.in_ok-size.size.desks c.in_ok-desks.desks)

pub slice_bounds-has_equal_numbers-end : goal.slice_bounds-has_equal_numbers-end
slice_bounds-has_equal_numbers-end c = sym (desks (goal.at.slice_bounds-has_equal_numbers-end c).In_ok-desks).long

pub returns-then-has_equal_numbers : goal.returns-then-has_equal_numbers
unfolding plan_of plan_ok
returns-then-has_equal_numbers c =
    let f = desks (goal.at.returns-then-has_equal_numbers c).In_ok-desks in
    let same = c.has_equal_numbers.ensures ∙ ap (λ (ds : List Desk). not (distinct ds)) f.taken in
    let d : distinct (desks_of c.args.plan.now) ≡ false = not-true _ (sym same ∙ c.if-has_equal_numbers.true) in
    simp (d, and-false)

pub slice_bounds-read_channels-count : goal.slice_bounds-read_channels-count
slice_bounds-read_channels-count c =
    let k = size (goal.at.slice_bounds-read_channels-count c).In_ok-size in
    omega (arith, k.desks, k.size)

pub slice_bounds-read_channels-start : goal.slice_bounds-read_channels-start
slice_bounds-read_channels-start c =
    let k = size (goal.at.slice_bounds-read_channels-start c).In_ok-size in
    omega (arith, k.desks, k.size)

pub read_channels-requires : goal.read_channels-requires
read_channels-requires c =
    let k = size (goal.at.read_channels-requires c).In_ok-size in
    (omega (arith, k.channels, k.few_channels), rw (part_to_end c.args.plan.now (2 + 10 * c.in_ok-size.size.desks), length-drop) (omega (arith, k.desks, k.channels, k.size)))

pub returns-in_err-channels : goal.returns-in_err-channels
unfolding plan_of plan_ok
returns-in_err-channels c =
    let k = size (goal.at.returns-in_err-channels c).In_ok-size in
    let e = channels-missing c.args.plan.now _ k _ c.read_channels.ensures c.in_err-channels.was in
    simp (e, and-false) c.from_residual-in_err-channels.ensures

pub returns : goal.returns
unfolding plan_of plan_ok counts_ok set_of
returns c =
    let p = c.args.plan.now in
    let k = size (goal.at.returns c).In_ok-size in
    let d = desks (goal.at.returns c).In_ok-desks in
    let same = c.has_equal_numbers.ensures ∙ ap (λ (ds : List Desk). not (distinct ds)) d.taken in
    let e : distinct (desks_of p) ≡ true = not-false _ (sym same ∙ c.if-has_equal_numbers.false) in
    let f = channels-found p _ k _ c.read_channels.ensures _ c.in_ok-channels.was in
    simp (k.ok, d.ok, e, f.0, sym k.is, d.are, f.1)
