-- `records::writer::put_contact` meets its contract: the head, and three stores.
-- Assumes nothing.
use mathlib.Core.Path.{refl}
use Rattle.records.specs.Emitting.{written}
use Rattle.records.proofs.writer.put_contact.Goals as goal

pub returns : goal.returns
unfolding written
returns c = rw c.put_head.ensures refl
