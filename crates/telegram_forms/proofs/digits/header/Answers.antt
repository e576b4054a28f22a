-- `telegram_forms::digits::header` meets its contract: the digits of its three numbers, in order.
-- Assumes nothing.
use lib.ListN.{replicate}
use Rattle.telegram_forms.specs.Forms.{padded}
use Rattle.telegram_forms.proofs.PutLaws.{put_header}
use Rattle.telegram_forms.proofs.digits.header.Goals as goal

pub returns : goal.returns
unfolding padded
returns c = rw (c.digits.ensures, c.digits-t-2.ensures, c.digits-t.ensures) (put_header (replicate 46 0) _ _ _)
