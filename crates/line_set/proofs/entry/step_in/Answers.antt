-- `line_set::entry::step_in` meets its contract: a plan, a handover and a tick are taken whole, and any other entry by its channel.
-- Assumes nothing.
use mathlib.Core.Path.{◌≡◌, sym, ap, ◌∙◌}
use lib.ListN.{length}
use Rattle.std.proofs.Common.{rules, Ok, Err}
use Rattle.set_rules.proofs.Kept.{gives_as, left_as_was}
use Rattle.line_set.proofs.WholeSet.{as_step, plan_starts, refused-read}
use Rattle.line_set.proofs.entry.step_in.Goals as goal

pub plan-requires : goal.plan-requires
plan-requires c = plan_starts c.args.set.now c.args.entry.now _ (sym c.read_entry.ensures ∙ c.in_ok-x.was) (ap Ok c.in-Plan.is)

pub returns-in-Plan : goal.returns-in-Plan
returns-in-Plan c =
    gives_as (as_step c.args.set.now c.args.entry.now _ (sym c.read_entry.ensures ∙ c.in_ok-x.was ∙ ap Ok c.in-Plan.is) (length c.args.buffer.now)) c.plan.ensures

pub returns-in-Handover : goal.returns-in-Handover
returns-in-Handover c =
    gives_as (as_step c.args.set.now c.args.entry.now _ (sym c.read_entry.ensures ∙ c.in_ok-x.was ∙ ap Ok c.in-Handover.is) (length c.args.buffer.now)) (c.handover.ensures _)

pub returns-in-Tick : goal.returns-in-Tick
returns-in-Tick c =
    gives_as (as_step c.args.set.now c.args.entry.now _ (sym c.read_entry.ensures ∙ c.in_ok-x.was ∙ ap Ok c.in-Tick.is) (length c.args.buffer.now)) (c.tick.ensures _)

pub returns-in_default : goal.returns-in_default
returns-in_default c =
    gives_as (as_step c.args.set.now c.args.entry.now _ (sym c.read_entry.ensures ∙ c.in_ok-x.was) (length c.args.buffer.now)) c.ask.ensures

pub returns-in_err-x : goal.returns-in_err-x
returns-in_err-x c =
    let s = c.args.set.now in
    let e : c.from_residual.result ≡ Err c.in_err-x.field-0.0 = search rules in
    rw e
    (gives_as (refused-read s c.args.entry.now _ (length c.args.buffer.now) ∙ as_step s c.args.entry.now _ (sym c.read_entry.ensures ∙ c.in_err-x.was) (length c.args.buffer.now))
    (left_as_was s c.in_err-x.field-0.0 c.args.buffer.now))
