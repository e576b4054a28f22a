-- `telegram_copies::copying::put_number` meets its contract: the first four digits, and then the last four.
-- Assumes nothing.
use Rattle.telegram_forms.proofs.Kept.{put_both}
use Rattle.telegram_copies.proofs.copying.put_number.Goals as goal

pub returns : goal.returns
returns c = rw (c.put_four-2.ensures, c.put_four.ensures) (put_both 4 4 _ _ _)
