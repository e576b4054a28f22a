-- `timers::timers::is_due` meets its contract: a timer with more than a second left does not run out.
-- Assumes nothing.
use borrow.Author.Tests.{ltb-true, not-true}
use mathlib.Core.Path.{sym}
use mathlib.Core.Bool.{not, ◌&&◌}
use lib.Dec.{eqb, ltb}
use Rattle.laws.proofs.Tests.{both}
use Rattle.timers.proofs.Ticks.{later}
use Rattle.timers.proofs.timers.is_due.Goals as goal

pub returns-then-channel : goal.returns-then-channel
returns-then-channel c =
    let x = c.args.channel in
    let b = both (not (eqb x.ring 1) && not (eqb x.quiet 1)) (ltb 1 x.release) c.if-channel.true in
    let n = both (not (eqb x.ring 1)) (not (eqb x.quiet 1)) b.0 in
    sym (later x (not-true _ n.0) (not-true _ n.1) (ltb-true 1 x.release b.1))
