-- `streams::failure::say_what` meets its contract: the line that was put is what is written.
-- Assumes nothing.
use Rattle.std.proofs.Common.{arith}
use Rattle.streams.proofs.Known.{put_behind}
use Rattle.streams.proofs.failure.say_what.Goals as goal

pub returns-clause-said : goal.returns-clause-said
returns-clause-said g c =
    let put = c.put_failure-n in
    let line = put_behind _ _ _ _ _ put.ensures.1 (omega (arith, put.ensures.0, put.auto.text)) in
    λ _. rw (line, c.number_of.ensures) at c.write_all.ensures.bytes
