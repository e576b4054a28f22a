-- `telegram_reader::reader::read_identified` meets its contract: the steps, put together.
-- Assumes nothing.
use mathlib.Core.Path.{sym, ◌∙◌}
use Rattle.telegram_reader.proofs.StepLaws.{read_some}
use Rattle.telegram_reader.proofs.reader.read_identified.Goals as goal

pub returns : goal.returns
returns c =
    let a = c.args in
    sym (read_some a.code a.identifier a.body.now c.in-Some.known (sym c.in-Some.ensures) c.in-Some-numbers.numbers (sym c.in-Some-numbers.ensures) ∙ rw c.message.ensures)
