-- `records::writer::put_send` meets its contract: to nobody there are no records.
-- Assumes nothing.
use mathlib.Core.Path.{◌∙◌}
use Rattle.bodies.specs.Bodies.{delivery_of}
use Rattle.records.proofs.Writing.{start, all_put}
use Rattle.records.proofs.RecordLaws.{records-one}
use Rattle.records.proofs.SendLaws.{nobody}
use Rattle.records.proofs.writer.put_send.Goals as goal

pub returns : goal.returns
returns c =
    let a = c.args in
    all_put (start _ _ _) (records-one a.desks (delivery_of a.desks a.channel a.s) ∙ nobody a.desks (delivery_of a.desks a.channel a.s) c.if-s-ne0.false)
