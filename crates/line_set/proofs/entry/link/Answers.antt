-- `line_set::entry::link` meets its contract.
-- Assumes nothing.
use mathlib.Core.Path.{◌≡◌}
use Rattle.std.proofs.Common.{rules, Err}
use Rattle.line_set.proofs.entry.link.Goals as goal

pub returns-in_err-change : goal.returns-in_err-change
returns-in_err-change c =
    let s = c.args.set.now in
    let e : c.from_residual.result ≡ Err c.in_err-change.field-0.0 = search rules in
    rw e (c.in_err-change.ensures s.planned s.size.desks s.channels s.size.channels)

pub returns : goal.returns
returns c =
    let s = c.args.set.now in
    rw c.in_ok-change.was at (c.link_change.ensures s.planned s.size.desks s.channels s.size.channels)
