-- `timers::timers::run_out` meets its contract: by the timer that runs.
-- Assumes nothing.
use mathlib.Core.Path.{refl}
use borrow.Author.Tests.{lt-ltb, le-ltb}
use Rattle.line_rules.specs.Rules.{unanswered}
use Rattle.timers.specs.Falls.{run_out}
use Rattle.timers.proofs.timers.run_out.Goals as goal

pub returns-then-channel-gt0 : goal.returns-then-channel-gt0
unfolding run_out unanswered
returns-then-channel-gt0 c x = simp (lt-ltb _ _ c.if-channel-gt0.true) refl

pub returns-then-channel-gt0-2 : goal.returns-then-channel-gt0-2
unfolding run_out
returns-then-channel-gt0-2 c x = simp (le-ltb _ _ c.if-channel-gt0.false, lt-ltb _ _ c.if-channel-gt0-2.true) refl

pub returns : goal.returns
unfolding run_out
returns c x = simp (le-ltb _ _ c.if-channel-gt0.false, le-ltb _ _ c.if-channel-gt0-2.false) refl
