-- Telegrams and entries spelled out, for the cases, the examples and the witness.
use Rattle.std.specs.Prelude.{ℕ, List, [], ◌∷◌, ◌++◌, replicate}
use Rattle.numerals.specs.Digits.{digits_of}
use Rattle.set_rules.specs.Records.{measured_bytes}
use Rattle.set_rules.specs.Feeds.{Item}

-- numbers at their widths, one after another
unfoldable pub spelled : List (ℕ × ℕ) → List ℕ
spelled [] = []
spelled (f ∷ fs) = digits_of f.0 f.1 ++ spelled fs

-- "DV", and such numbers
abbrev pub dv : List (ℕ × ℕ) → List ℕ
dv fs = 68 ∷ 86 ∷ spelled fs

-- an entry of a kind with a payload
abbrev pub entry_of : ℕ → List ℕ → List ℕ
entry_of kind payload = measured_bytes (1 ∷ kind ∷ payload)

-- an entry with a buffer of so many bytes; 250 are enough for each entry here
abbrev pub lent_room : ℕ → List ℕ → Item
lent_room n e = record { entry = e; buffer = replicate n 0 }

abbrev pub lent : List ℕ → Item
lent = lent_room 250

-- ---- 01's listing: "plan of one desk (code 12, number 00120001), channel 7, mask 1; capture of 7; 550411 20240229120000; 550421
-- system 0 state 1; capture of 7; handover"

abbrev pub plan_entry : List ℕ
plan_entry = entry_of 7 (1 ∷ 0 ∷ 12 ∷ 48 ∷ 48 ∷ 49 ∷ 50 ∷ 48 ∷ 48 ∷ 48 ∷ 49 ∷ 1 ∷ 7 ∷ 1 ∷ [])

-- the same with a second desk (code 13, number 00130001), entitled too
abbrev pub shared_plan : List ℕ
shared_plan =
    entry_of 7 (2 ∷ 0 ∷ 12 ∷ 48 ∷ 48 ∷ 49 ∷ 50 ∷ 48 ∷ 48 ∷ 48 ∷ 49 ∷ 0 ∷ 13 ∷ 48 ∷ 48 ∷ 49 ∷ 51 ∷ 48 ∷ 48 ∷ 48 ∷ 49 ∷ 1 ∷ 7 ∷ 3 ∷ [])

-- desk 0 asks for a channel
abbrev pub capture_entry : ℕ → List ℕ
capture_entry ch = entry_of 1 (0 ∷ dv ((4, 29) ∷ (4, 12) ∷ (6, 550600) ∷ (3, ch) ∷ (1, 8) ∷ (8, 120001) ∷ (1, 1) ∷ []))

-- a desk with a code tells the time, and that it operates
abbrev pub time_entry : ℕ → ℕ → List ℕ
time_entry desk code = entry_of 1 (desk ∷ dv ((4, 30) ∷ (4, code) ∷ (6, 550411) ∷ (8, 20240229) ∷ (6, 120000) ∷ []))

abbrev pub answer_entry : ℕ → ℕ → List ℕ
answer_entry desk code = entry_of 1 (desk ∷ dv ((4, 18) ∷ (4, code) ∷ (6, 550421) ∷ (1, 0) ∷ (1, 1) ∷ []))

-- the listing's entries before its fifth
abbrev pub until_running : List (List ℕ)
until_running = plan_entry ∷ capture_entry 7 ∷ time_entry 0 12 ∷ answer_entry 0 12 ∷ []

-- both desks of the shared plan run
abbrev pub both_running : List (List ℕ)
both_running = shared_plan ∷ time_entry 0 12 ∷ time_entry 1 13 ∷ answer_entry 0 12 ∷ answer_entry 1 13 ∷ []

-- ---- 02 §1: a mobile at base 3 calls a desk on channel 7 by its number, and desk 0 of the listing

abbrev pub call_to : ℕ → ℕ → List ℕ
call_to called number = entry_of 9 (7 ∷ 3 ∷ digits_of 8 number ++ digits_of 8 called)

abbrev pub call_entry : ℕ → List ℕ
call_entry = call_to 120001

-- a desk with a code answers, with a type, a source and a destination; and desk 0 as the notice to it asks, with a source
abbrev pub ring_answer_of : ℕ → ℕ → ℕ → ℕ → ℕ → List ℕ
ring_answer_of desk code kind source destination =
    entry_of 1 (desk ∷ dv ((4, 38) ∷ (4, code) ∷ (6, 550419) ∷ (3, 7) ∷ (1, kind) ∷ (1, 8) ∷ (8, source) ∷ (1, 8) ∷ (8, destination) ∷ []))

abbrev pub ring_answer_entry : ℕ → List ℕ
ring_answer_entry source = ring_answer_of 0 12 3 source 120001
