-- `telegram_reader::reader::Identifier::numbers` meets its contract: each arm reads the fields of its row.
-- Assumes nothing.
use Rattle.telegram_reader.proofs.reader.Identifier.numbers.Goals as goal

pub returns-in-Call : goal.returns-in-Call
returns-in-Call c = rw c.in-Call.is c.read_fields-in-Call.ensures
