-- `line_set::entry::plan` meets its contract.
-- Assumes nothing.
use lib.ListN.{length}
use Rattle.set_state.specs.declared.state.Refusal.TheVariants.{AlreadyPlanned}
use Rattle.set_rules.proofs.Kept.{gives_as, left_as_was}
use Rattle.line_set.proofs.WholeSet.{plan_present}
use Rattle.line_set.proofs.entry.plan.Goals as goal

pub returns-then-set : goal.returns-then-set
returns-then-set c =
    gives_as (plan_present c.args.set.now c.args.entry.now (length c.args.buffer.now) c.if-set.true) (left_as_was c.args.set.now AlreadyPlanned c.args.buffer.now)
