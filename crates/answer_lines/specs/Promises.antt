-- What is promised of the lines of an answer, beside the contracts. `proofs/Kept.antt` has the proof of each under the name given
-- with it, and is the one module of the proofs that other crates cite.
use Rattle.std.specs.Prelude.{ℕ, ◌^◌, ◌≤◌, ◌<◌, List, [], ◌∷◌, ◌≡◌, length, get_or}
use Rattle.text.specs.Ascii.{ascii}
use Rattle.answer_lines.specs.Lines.{lines_of}

-- The lines for at most 32,768 bytes of records take at most 73,776 (`lines_room`).
abbrev pub RoomEnough : Type 0
RoomEnough =
    (n refusal count : ℕ) (bytes : List ℕ) → n < 2 ^ 64 → refusal < 256 → count < 2 ^ 64 → ((i : ℕ) → get_or bytes i 0 < 256)
    → length bytes ≤ 32768 → length (lines_of n refusal count bytes) ≤ 73776

-- A contact, and no line for a record that breaks off before its kind (`contact`). 01's listing is a promise of the crate feeds.
abbrev pub ContactShown : Type 0
ContactShown = lines_of 2 0 11 (0 ∷ 6 ∷ 1 ∷ 3 ∷ 2 ∷ 1 ∷ 99 ∷ 0 ∷ 0 ∷ 6 ∷ 1 ∷ []) ≡ ascii "E 2 0 11\nC 3 1 99 0\n"
