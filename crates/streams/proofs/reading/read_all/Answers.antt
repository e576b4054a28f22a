-- `streams::reading::read_all` meets its contract: each turn adds what the reader gives.
-- Assumes nothing.
use Rattle.std.proofs.Common.{arith}
use Rattle.streams.proofs.Moving.{filled_on, consumes_on}
use Rattle.streams.proofs.reading.read_all.Goals as goal

pub loop-have-preserved : goal.loop-have-preserved
loop-have-preserved g c =
    let l = c.loop-have in
    let r = c.in-Ok.ensures in
    (filled_on l.invariant.0 r.behind, consumes_on _ _ _ _ (omega arith) r.behind l.invariant.1 r.bytes.0)
