-- `text::put_byte` meets its contract: one store.
-- Assumes nothing.
use mathlib.Core.Path.{refl}
use Rattle.text.specs.Written.{written}
use Rattle.text.proofs.put_byte.Goals as goal

pub returns : goal.returns
unfolding written
returns c = record { text = refl; place = refl }
