-- The measure of `text::put_thousands` is the number.
-- Assumes nothing.
use Rattle.text.proofs.+put_thousands.Given as goal

abbrev pub decreases-put_thousands : goal.decreases-put_thousands
decreases-put_thousands l = l.n
