-- What is promised of the lines, beside the contracts. `proofs/Kept.antt` has the proof of each under the name given with it.
use Rattle.std.specs.Prelude.{ℕ, ◌≤◌, ◌<◌, List, ◌∷◌, ◌++◌, ◌≡◌, length}
use Prim.Native.String.{String}
use Rattle.laws.specs.Each.{Each}
use Rattle.text.specs.Ascii.{ascii}
use Rattle.streams.specs.Places.{start}
use Rattle.telegrams.specs.Lines.{answer_line, telegram_lines}
use Rattle.telegrams.specs.Turns.{Turns}

-- No line is longer than its room (`line-short`).
abbrev pub LinesShort : Type 0
LinesShort = (s : List ℕ) → length (answer_line s) ≤ 64

-- Whatever the bytes of an input came in, the turns put its lines (`turns_print`).
abbrev pub Bytes : List ℕ → Type 0
Bytes = Each (λ x. x < 256)

abbrev pub TurnsPrint : Type 0
TurnsPrint = (room long : ℕ) (b out input : List ℕ) → Bytes input → Turns room long b start out input → out ≡ telegram_lines input

-- A telegram that reads, one with no right header, one of no identifier in the table, and one whose body is too long (`reads`,
-- `refused_8`, `refused_9`, `refused_10`).
abbrev pub Prints : String → String → Type 0
Prints telegram text = answer_line (ascii telegram) ≡ ascii text

abbrev pub Reads : Type 0
Reads = Prints "DV00160012550461" "0 DV00160012550461\n"

abbrev pub Refused8 : Type 0
Refused8 = Prints "DX00160012550461" "8\n"

abbrev pub Refused9 : Type 0
Refused9 = Prints "DV00160012550462" "9\n"

abbrev pub Refused10 : Type 0
Refused10 = Prints "DV001700125504610" "10\n"

-- An input: a telegram, one that is refused, and one that breaks off (`whole_input`).
abbrev pub WholeInput : Type 0
WholeInput =
    telegram_lines ((0 ∷ 16 ∷ ascii "DV00160012550471") ++ ((0 ∷ 2 ∷ ascii "DV") ++ (0 ∷ 16 ∷ ascii "DV0016")))
    ≡ ascii "0 DV00160012550471\n8\n"
