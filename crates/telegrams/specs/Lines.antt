-- What the program prints: for each telegram a line, "0 and the telegram as the writer writes the message that was read, or the
-- refusal number alone. A telegram that breaks off gets no line".
use Rattle.std.specs.Prelude.{ℕ, ◌+◌, List, [], ◌∷◌, ◌++◌, Bool, cond, eqb, length, drop, Ok, Err}
use Rattle.frames.specs.Bytes.{word}
use Rattle.frames.specs.Frames.{frames_in}
use Rattle.text.specs.Ascii.{ascii}
use Rattle.text.specs.Decimal.{decimal, line}
use Rattle.telegram.specs.Telegram.{read_telegram, telegram_of, refusal_of}
use Rattle.telegram.specs.declared.message.Message.{Message}
use Rattle.telegram.specs.Telegram.{Reading}

-- ---- lines

-- 0, a space, and the telegram as the writer writes the message
unfoldable pub message_line : ℕ → Message → List ℕ
message_line c m = line (ascii "0") (telegram_of c m ∷ [])

-- the refusal number alone
abbrev pub refusal_line : ℕ → List ℕ
refusal_line n = line (decimal n) []

abbrev pub reading_line : Reading → List ℕ
reading_line (Ok t) = message_line t.code t.message
reading_line (Err e) = refusal_line (refusal_of e)

-- the line for a telegram's bytes
unfoldable pub answer_line : List ℕ → List ℕ
answer_line s = reading_line (read_telegram s)

-- a frame that has all the bytes that its length counts
abbrev pub whole : List ℕ → Bool
whole f = eqb (word f 0 + 2) (length f)

-- the line for a frame: "a telegram that breaks off gets no line"
unfoldable pub frame_line : List ℕ → List ℕ
frame_line f = cond (whole f) (answer_line (drop 2 f)) []

-- what is printed for an input
unfoldable pub lines_of : List (List ℕ) → List ℕ
lines_of [] = []
lines_of (f ∷ fs) = frame_line f ++ lines_of fs

unfoldable pub telegram_lines : List ℕ → List ℕ
telegram_lines input = lines_of (frames_in input)
