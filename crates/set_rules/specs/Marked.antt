-- 01, Either side of each edge: the cases marked (p), "one table under one theorem".
use Rattle.std.specs.Prelude.{ℕ, ◌-◌, List, [], ◌∷◌, ◌++◌, map, Bool, true, false, ◌≡◌, length, replicate, get_or, None, Some}
use Rattle.laws.specs.Each.{Each}
use Rattle.telegram.specs.Telegram.{read_telegram, read_refusal}
use Rattle.line_rules.specs.Rules.{end_of, freed_sends}
use Rattle.channel.specs.State.{is_held, is_open}
use Rattle.channel.specs.declared.state.Channel.{Channel}
use Rattle.set_state.specs.State.{new_set, no_channel, listeners_of}
use Rattle.set_rules.specs.Entries.{read_entry, entry_kind, entry_on}
use Rattle.set_rules.specs.Records.{delivered, records_of}
use Rattle.set_rules.specs.Feeds.{Outcome, Item, step_of, step_by, run, after}
use Rattle.set_rules.specs.Spelling.{dv, entry_of, lent, capture_entry, until_running}
use Rattle.set_state.specs.declared.state.LineSet.{LineSet}

pub data Case : Type 0 where
  -- bytes for the telegram reader, and the number that it gives them, 0 if it takes them
  reads : List ℕ → ℕ → Case
  -- entries, one after them with a buffer of so many bytes, and the refusal that this one gets
  answers : List (List ℕ) → List ℕ → ℕ → ℕ → Case
  -- ticks after a press off: which of them ends the call, and which releases
  ticks : ℕ → ℕ → Case

unfoldable pub cases : List Case
cases =
    -- "20240229 passes, 20230229 is 10"
    reads (dv ((4, 30) ∷ (4, 12) ∷ (6, 550411) ∷ (8, 20240229) ∷ (6, 120000) ∷ [])) 0
    ∷ reads (dv ((4, 30) ∷ (4, 12) ∷ (6, 550411) ∷ (8, 20230229) ∷ (6, 120000) ∷ [])) 10
    -- "Code 1023 passes, 1024 is 8"
    ∷ reads (dv ((4, 16) ∷ (4, 1023) ∷ (6, 550461) ∷ [])) 0
    ∷ reads (dv ((4, 16) ∷ (4, 1024) ∷ (6, 550461) ∷ [])) 8
    -- "CH 206 passes the reader, 207 is 10"
    ∷ reads (dv ((4, 29) ∷ (4, 12) ∷ (6, 550600) ∷ (3, 206) ∷ (1, 8) ∷ (8, 120001) ∷ (1, 1) ∷ [])) 0
    ∷ reads (dv ((4, 29) ∷ (4, 12) ∷ (6, 550600) ∷ (3, 207) ∷ (1, 8) ∷ (8, 120001) ∷ (1, 1) ∷ [])) 10
    -- "CH 999 in a desk's 550600 is 12"
    ∷ answers until_running (capture_entry 999) 32768 12
    -- "Empty entry: 1"
    ∷ answers [] [] 32768 1
    -- "The listing's entry 5 in a 58-byte buffer is 16, in 59 accepted"
    ∷ answers until_running (capture_entry 7) 58 16
    ∷ answers until_running (capture_entry 7) 59 0
    -- "After the holder's press off with no arrival, one channel planned, and accepted ticks only, 9 send nothing, the tenth ends the
    -- call, and the 130th releases"
    ∷ ticks 10 130
    ∷ []

-- ---- what a row says

-- ticks, each with a buffer
abbrev pub ticks_with : List (List ℕ) → List Item
ticks_with = map (λ (b : List ℕ). record { entry = entry_of 6 []; buffer = b })

abbrev pub Accepted : Outcome → Type 0
Accepted o = o.refusal ≡ 0

-- what a tick writes, and whether a call is open and the one channel held after it
pub record Ticked : Type 0 where
  pub bytes : List ℕ
  pub calls : Bool
  pub held : Bool

abbrev pub ticked_by : List ℕ → Bool → Bool → Ticked
ticked_by bs o h = record { bytes = bs; calls = o; held = h }

abbrev pub tick_of : Outcome → Ticked
tick_of o =
    let c : Channel = get_or o.after.channels 0 no_channel in
    ticked_by o.bytes (is_open c.call) (is_held c.holder)

-- the records of "the tenth ends the call", 550473 with reason 03 to the call's told set, and of "the 130th releases", 550651 to E
abbrev pub end_bytes : LineSet → Channel → List ℕ
end_bytes s c = records_of s.desks (delivered s.desks c.code (end_of 3 c.call))

abbrev pub freed_bytes : LineSet → Channel → List ℕ
freed_bytes s c = records_of s.desks (delivered s.desks c.code (freed_sends (listeners_of s.desks s.size.desks c) c))

-- After any feed, if one channel is planned, a desk holds it and no mobile is there, and an accepted press off follows and then
-- accepted ticks, whatever their buffers: the first ticks send nothing and the call stays open; tick `end` sends the 550473 and the
-- call is closed; the next send nothing; tick `release` sends the 550651 and nobody holds.
abbrev pub EndsAt : ℕ → ℕ → Type 0
EndsAt end release =
    (f : List Item) (c : Channel) (rest : List Channel) (d : ℕ)
    → (after new_set f).size.channels ≡ 1 → (after new_set f).channels ≡ c ∷ rest → c.holder ≡ Some d → c.arrival ≡ None
    → (i : Item) → entry_kind (read_entry i.entry) ≡ 2 → entry_on (read_entry i.entry) ≡ 0 → (step_by (after new_set f) i).refusal ≡ 0
    → (bs : List (List ℕ)) → length bs ≡ release → Each Accepted (run (step_by (after new_set f) i).after (ticks_with bs))
    → map tick_of (run (step_by (after new_set f) i).after (ticks_with bs))
    ≡ replicate (end - 1) (ticked_by [] true true)
    ++ (ticked_by (end_bytes (after new_set f) c) false true
    ∷ replicate (release - end - 1) (ticked_by [] false true)
    ++ (ticked_by (freed_bytes (after new_set f) c) false false ∷ []))

-- After these entries an entry with a buffer of so many bytes gets a refusal.
abbrev pub AnswersIn : List (List ℕ) → List ℕ → ℕ → ℕ → Type 0
AnswersIn es e n room = (step_of (after new_set (map lent es)) e room).refusal ≡ n

abbrev pub Holds : Case → Type 0
Holds (reads bytes n) = read_refusal (read_telegram bytes) ≡ n
Holds (answers es e room n) = (b : List ℕ) → length b ≡ room → AnswersIn es e n (length b)
Holds (ticks end release) = EndsAt end release

-- All cases marked (p) in 01 (`Marked.marked`).
abbrev pub Marked : Type 0
Marked = Each Holds cases
