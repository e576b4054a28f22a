-- `telegram_reader::reader::Identifier::of` meets its contract: each arm is a row of the table.
-- Assumes nothing.
use mathlib.Core.Path.{sym}
use Rattle.telegram_reader.proofs.StepLaws.{unlisted}
use Rattle.telegram_reader.proofs.reader.Identifier.of.Goals as goal

pub returns-in_default : goal.returns-in_default
returns-in_default c = sym (unlisted _ c.in_default.in_default-own.rest).known
