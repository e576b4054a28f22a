-- `line_set::entry::handover` meets its contract.
-- Assumes nothing.
use mathlib.Core.Path.{◌≡◌, refl}
use native.Mathlib.Omega.{arith}
use lib.ListN.{length}
use borrow.Author.Tests.{eqb-false}
use Rattle.std.specs.Prelude.{Ok}
use Rattle.set_state.specs.declared.state.Refusal.TheVariants.{NoPlan, NoRoom}
use Rattle.set_state.specs.declared.state.Entry.TheVariants.{Handover}
use Rattle.set_rules.specs.Entries.{entry_kind}
use Rattle.set_rules.specs.SetRules.{on_handover}
use Rattle.set_rules.proofs.Kept.{space-length, gives_as, left_as_was, no_room}
use Rattle.records.proofs.Kept.{put_first}
use Rattle.line_set.proofs.Emission.{even_handover}
use Rattle.line_set.proofs.WholeSet.{unplanned, handover_step}
use Rattle.line_set.proofs.entry.handover.Goals as goal

no-plan : entry_kind (Ok Handover) ≡ 7 → ⊥
unfolding entry_kind
no-plan = eqb-false _ _ refl

pub returns-then-not-set : goal.returns-then-not-set
returns-then-not-set c e =
    gives_as (unplanned c.args.set.now e (length c.args.buffer.now) Handover no-plan c.if-not-set.true) (left_as_was c.args.set.now NoPlan c.args.buffer.now)

pub put_all-written-requires : goal.put_all-written-requires
put_all-written-requires c =
    let s = c.args.set.now in
    omega (arith, c.space_all-need.ensures, space-length s.desks (on_handover s).sent (even_handover s), c.if-buffer-need.false)

pub returns-then-buffer-need : goal.returns-then-buffer-need
returns-then-buffer-need c e =
    let s = c.args.set.now in
    gives_as (handover_step s e (length c.args.buffer.now) c.if-not-set.false)
    (no_room s c.args.buffer.now (on_handover s) (omega (arith, c.space_all-need.ensures, c.if-buffer-need.true)) (left_as_was s NoRoom c.args.buffer.now))

pub returns : goal.returns
unfolding on_handover
returns c e =
    let s = c.args.set.now in
    gives_as (handover_step s e (length c.args.buffer.now) c.if-not-set.false)
    (put_first s (on_handover s) c.args.buffer.now (omega (arith, c.space_all-need.ensures, c.if-buffer-need.false)) (even_handover s) c.put_all-written.ensures c.new-new.ensures)
