-- 01's numbers for what the reader refuses.
-- Assumes nothing.
use mathlib.Core.Logic.{inl, inr}
use mathlib.Core.Path.{refl}
use Rattle.std.specs.Prelude.{Ok, Err}
use Rattle.telegram.specs.Telegram.{Reading, read_telegram}
use Rattle.telegram.specs.Promises.{RefusedRight, ReaderNumbers}
use Rattle.telegram.specs.declared.message.ReadError.TheVariants.{Header, Identifier, Body}

pub reader_numbers : ReaderNumbers
reader_numbers s = right (read_telegram s)
  where
    right : (r : Reading) → RefusedRight r
    right (Ok t) = tt
    right (Err Header) = inl refl
    right (Err (Identifier c i)) = inr (inl refl)
    right (Err (Body c i)) = inr (inr refl)
