-- `steps::print` meets its contract: the line of a round has room in the text.
-- Assumes nothing.
use Rattle.std.proofs.Common.{◌≤◌, length, sym, arith, length-take-le}
use Rattle.text.proofs.Kept.{puts-length}
use Rattle.steps.proofs.Texts.{line-fits}
use Rattle.steps.proofs.print.Goals as goal

pub slice_bounds-text-end : goal.slice_bounds-text-end
slice_bounds-text-end g c =
    let put = c.put_round-waits in
    omega (arith, put.ensures.place, puts-length put.ensures, put.auto.text, line-fits c.args.round c.well_formed.1.0.1.1.0.1 c.well_formed.1.0.1.1.1.0.1 c.well_formed.1.0.1.1.1.1.0.1)

pub slice_bounds-write_out-end : goal.slice_bounds-write_out-end
slice_bounds-write_out-end g c =
    let put = c.put_round-waits in
    let fits : put.result ≤ length put.new.text = omega (arith, put.ensures.place, puts-length put.ensures, put.auto.text, line-fits c.args.round c.well_formed.1.0.1.1.0.1 c.well_formed.1.0.1.1.1.0.1 c.well_formed.1.0.1.1.1.1.0.1) in
    sym (length-take-le put.result put.new.text fits)
