-- `text::put_item` meets its contract: the number, and a byte behind it.
-- Assumes nothing.
use Rattle.text.proofs.PutLaws.{also}
use Rattle.text.proofs.put_item.Goals as goal

pub returns : goal.returns
returns c = also c.put_number-end.ensures c.put_byte.ensures
