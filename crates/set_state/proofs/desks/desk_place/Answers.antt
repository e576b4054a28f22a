-- `set_state::desks::desk_place` meets its contract: the desks passed have another number.
-- Assumes nothing.
use Prim.Native.Nat.{ℕ, ◌≤◌, ◌<◌}
use mathlib.Core.List.{List}
use mathlib.Core.Path.{◌≡◌, refl, sym, ap, ◌∙◌}
use native.Mathlib.Omega.{arith}
use lib.Dec.{eqb}
use lib.ListN.{length, length-take, take, get_or}
use Rattle.laws.proofs.Lists.{at-taken}
use Rattle.laws.proofs.Seeking.{Seeks, sought-first, sought-next, sought-found, sought-last}
use Rattle.set_state.specs.State.{no_desk, desk_place}
use Rattle.set_state.specs.declared.state.Desk.{Desk}
use borrow.Author.Rules.{rules}
use Rattle.set_state.proofs.desks.desk_place.Goals as goal
use Rattle.set_state.proofs.desks.desk_place.Goals.{In-loop-place}

seeks : (number : ℕ) → Seeks (λ (k : Desk). eqb k.number.digits number) (desk_place number)
unfolding desk_place
seeks number = record { none = refl; one = λ k ks. refl }

-- a place that is looked at is one of the first n desks
among : (c : In-loop-place) → c.loop-place.place < length (take c.args.n c.args.desks)
among c =
    let ds = c.args.desks in
    let l : length ds ≡ 4 = search rules in
    omega (arith, length-take c.args.n ds, l, c.min-end.ensures, c.loop-place-test.true)

-- the desk there, among the first n
same_desk : (c : In-loop-place) (z : Desk)
    → eqb (get_or (take c.args.n c.args.desks) c.loop-place.place no_desk).number.digits c.args.number.digits
    ≡ eqb (get_or c.args.desks c.loop-place.place z).number.digits c.args.number.digits
same_desk c z =
    let a = c.args in
    ap (λ (k : Desk). eqb k.number.digits a.number.digits) (at-taken a.desks a.n c.loop-place.place no_desk z (among c))

pub loop-place-init : goal.loop-place-init
loop-place-init c = sought-first _ _

pub returns-then-found : goal.returns-then-found
returns-then-found c =
    let i = (goal.at.returns-then-found c).In-loop-place in
    sought-found (seeks c.args.number.digits) _ c.loop-place.place no_desk (among i) (same_desk i _ ∙ (sym c.eq-found.ensures ∙ c.if-found.true)) c.loop-place.invariant

pub loop-place-preserved : goal.loop-place-preserved
loop-place-preserved c =
    let i = (goal.at.loop-place-preserved c).In-loop-place in
    sought-next (seeks c.args.number.digits) _ c.loop-place.place no_desk (among i) (same_desk i _ ∙ (sym c.eq-found.ensures ∙ c.if-found.false)) c.loop-place.invariant

pub returns : goal.returns
returns c =
    let ds = c.args.desks in
    let l : length ds ≡ 4 = search rules in
    let found = sought-last (seeks c.args.number.digits) _ c.loop-place.place (omega (arith, length-take c.args.n ds, l, c.min-end.ensures, c.loop-place-test.false)) c.loop-place.invariant in
    omega (arith, found, c.loop-place.auto.place-end, c.loop-place-test.false)
