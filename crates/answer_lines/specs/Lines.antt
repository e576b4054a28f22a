-- The text of an answer: "`E` entry-number refusal count, then per record `T` desk telegram, or `C` desk contact channel on;
-- decimal, one space between, no header".
use Rattle.std.specs.Prelude.{ℕ, List, [], ◌∷◌, ◌++◌, ◌&&◌, cond, eqb, leb, length, drop}
use Rattle.text.specs.Ascii.{ascii}
use Rattle.text.specs.Decimal.{decimal, line}
use Rattle.frames.specs.Bytes.{byte}
use Rattle.frames.specs.Frames.{frames_in}

unfoldable pub entry_line : ℕ → ℕ → ℕ → List ℕ
entry_line n refusal count = line (ascii "E") (decimal n ∷ decimal refusal ∷ decimal count ∷ [])

unfoldable pub telegram_line : ℕ → List ℕ → List ℕ
telegram_line d telegram = line (ascii "T") (decimal d ∷ telegram ∷ [])

unfoldable pub contact_line : ℕ → ℕ → ℕ → ℕ → List ℕ
contact_line d contact ch on = line (ascii "C") (decimal d ∷ decimal contact ∷ decimal ch ∷ decimal on ∷ [])

-- a record is its length, version and desk, then 1 and a telegram, or 2 and a contact; what is neither has no line
unfoldable pub record_line : List ℕ → List ℕ
record_line r =
    cond (eqb (byte r 4) 1) (telegram_line (byte r 3) (drop 5 r))
    (cond (eqb (byte r 4) 2 && leb 8 (length r)) (contact_line (byte r 3) (byte r 5) (byte r 6) (byte r 7)) [])

unfoldable pub record_lines : List (List ℕ) → List ℕ
record_lines [] = []
record_lines (r ∷ rs) = record_line r ++ record_lines rs

-- an entry's number, its refusal, the count and the bytes written
unfoldable pub lines_of : ℕ → ℕ → ℕ → List ℕ → List ℕ
lines_of n refusal count bytes = entry_line n refusal count ++ record_lines (frames_in bytes)
