-- Worked examples, beside the marked cases: 01's listing, and entries whose answer, written out here, a wrong reading of 01 or of
-- 02 §1 would change.
use Rattle.std.specs.Prelude.{ℕ, List, [], ◌∷◌, ◌++◌, map, ◌≡◌, length}
use Rattle.laws.specs.Each.{Each}
use Rattle.numerals.specs.Digits.{digits_of}
use Rattle.set_state.specs.State.{new_set}
use Rattle.set_rules.specs.Records.{measured_bytes}
use Rattle.set_rules.specs.Feeds.{Outcome, step_of, run, after}
use Rattle.set_rules.specs.Spelling.{dv, entry_of, lent_room, lent, plan_entry, shared_plan, capture_entry, time_entry, until_running, both_running, call_to, call_entry, ring_answer_of, ring_answer_entry}

-- a telegram to a desk; and to desk 0, and a contact to it
abbrev pub telegram_record_to : ℕ → List (ℕ × ℕ) → List ℕ
telegram_record_to desk fs = measured_bytes (1 ∷ desk ∷ 1 ∷ dv fs)

abbrev pub telegram_record : List (ℕ × ℕ) → List ℕ
telegram_record = telegram_record_to 0

abbrev pub contact_record : ℕ → ℕ → ℕ → List ℕ
contact_record kind channel on = 0 ∷ 6 ∷ 1 ∷ 0 ∷ 2 ∷ kind ∷ channel ∷ on ∷ []

-- the 550650 and the 550651 to desk 0 on its channel 7
abbrev pub reply_record : ℕ → List ℕ
reply_record result = telegram_record ((4, 20) ∷ (4, 12) ∷ (6, 550650) ∷ (3, 7) ∷ (1, result) ∷ [])

abbrev pub state_record : ℕ → List ℕ
state_record state = telegram_record ((4, 29) ∷ (4, 12) ∷ (6, 550651) ∷ (3, 7) ∷ (1, 8) ∷ (8, 120001) ∷ (1, state) ∷ [])

-- ---- the listing, its lines: refusal, count and bytes of each entry

abbrev pub Line : Type 0
Line = ℕ × (ℕ × List ℕ)

abbrev pub line_of : Outcome → Line
line_of o = (o.refusal, (o.count, o.bytes))

unfoldable pub listing : List Line
listing =
    (0, (21, telegram_record ((4, 16) ∷ (4, 12) ∷ (6, 550461) ∷ [])))
    ∷ (11, (0, []))
    ∷ (0, (21, telegram_record ((4, 16) ∷ (4, 12) ∷ (6, 550471) ∷ [])))
    ∷ (0, (0, []))
    ∷ (0, (59, reply_record 0 ++ state_record 1))
    ∷ (0, (34, state_record 0))
    ∷ []

-- 01's "whole listing", with the replay program's buffers (`Worked.listed`)
abbrev pub Listed : Type 0
Listed = map line_of (run new_set (map (lent_room 32768) (until_running ++ (capture_entry 7 ∷ entry_of 8 [] ∷ [])))) ≡ listing

-- ---- single entries

-- entries, one after them, and its refusal and the bytes that it writes
pub record Example : Type 0 where
  pub before : List (List ℕ)
  pub entry : List ℕ
  pub refusal : ℕ
  pub bytes : List ℕ

abbrev pub refuses : List (List ℕ) → List ℕ → ℕ → Example
refuses es e n = record { before = es; entry = e; refusal = n; bytes = [] }

abbrev pub writes : List (List ℕ) → List ℕ → List ℕ → Example
writes es e bs = record { before = es; entry = e; refusal = 0; bytes = bs }

-- desk 0 holds channel 7
abbrev pub until_held : List (List ℕ)
until_held = until_running ++ (capture_entry 7 ∷ [])

abbrev pub press_entry : ℕ → List ℕ
press_entry on = entry_of 2 (0 ∷ 7 ∷ on ∷ [])

abbrev pub mobile_entry : List ℕ
mobile_entry = entry_of 4 (7 ∷ 3 ∷ digits_of 8 990007)

-- a mobile rings desk 0 on channel 7, and desk 0 answers
abbrev pub until_rung : List (List ℕ)
until_rung = until_running ++ (call_entry 990007 ∷ [])

abbrev pub until_answered : List (List ℕ)
until_answered = until_rung ++ (ring_answer_entry 990007 ∷ [])

abbrev pub cancel_entry : List ℕ
cancel_entry = entry_of 10 (7 ∷ [])

-- the 550473 and, by its type, the 550477 of desk 0's press on channel 7; the same of the mobile 00990007 at base 3, and its 550464
abbrev pub press_call_record : ℕ → ℕ → List ℕ
press_call_record start reason =
    telegram_record ((4, 46) ∷ (4, 12) ∷ (6, 550473) ∷ (3, 7) ∷ (3, 999) ∷ (1, 1) ∷ (1, 0) ∷ (1, 1) ∷ (1, start) ∷ (2, reason) ∷ (1, 8) ∷ (8, 120001) ∷ (1, 8) ∷ (8, 0) ∷ [])

abbrev pub press_record : ℕ → ℕ → List ℕ
press_record kind order =
    telegram_record ((4, 33) ∷ (4, 12) ∷ (6, 550477) ∷ (3, 7) ∷ (3, 999) ∷ (1, kind) ∷ (1, 1) ∷ (8, 120001) ∷ (1, order) ∷ [])

abbrev pub mobile_call_record : ℕ → ℕ → ℕ → List ℕ
mobile_call_record kind start reason =
    telegram_record ((4, 46) ∷ (4, 12) ∷ (6, 550473) ∷ (3, 7) ∷ (3, 3) ∷ (1, kind) ∷ (1, 0) ∷ (1, 2) ∷ (1, start) ∷ (2, reason) ∷ (1, 8) ∷ (8, 990007) ∷ (1, 8) ∷ (8, 0) ∷ [])

abbrev pub arrival_record : ℕ → List ℕ
arrival_record order = telegram_record ((4, 32) ∷ (4, 12) ∷ (6, 550464) ∷ (3, 7) ∷ (3, 3) ∷ (1, 1) ∷ (8, 990007) ∷ (1, order) ∷ [])

abbrev pub mobile_record : ℕ → List ℕ
mobile_record order = telegram_record ((4, 33) ∷ (4, 12) ∷ (6, 550477) ∷ (3, 7) ∷ (3, 3) ∷ (1, 1) ∷ (1, 2) ∷ (8, 990007) ∷ (1, order) ∷ [])

-- the 550468 of a ring to desk 0; the 550469 to its answer, and the 550480
abbrev pub ring_record : List ℕ
ring_record = telegram_record ((4, 38) ∷ (4, 12) ∷ (6, 550468) ∷ (3, 7) ∷ (1, 3) ∷ (1, 8) ∷ (8, 990007) ∷ (1, 8) ∷ (8, 120001) ∷ [])

abbrev pub answer_record : ℕ → List ℕ
answer_record result = telegram_record ((4, 20) ∷ (4, 12) ∷ (6, 550469) ∷ (3, 7) ∷ (1, result) ∷ [])

abbrev pub result_record : ℕ → List ℕ
result_record result = telegram_record ((4, 30) ∷ (4, 12) ∷ (6, 550480) ∷ (3, 7) ∷ (1, 3) ∷ (1, result) ∷ (1, 8) ∷ (8, 120001) ∷ [])

-- incoming OFF, 550480 result 0, 550473 end with reason 02
abbrev pub ring_end : List ℕ
ring_end = contact_record 2 7 0 ++ (result_record 0 ++ mobile_call_record 3 0 2)

unfoldable pub examples : List Example
examples =
    -- code and identifier both wrong: 8 comes before 9
    refuses until_running (entry_of 1 (0 ∷ dv ((4, 16) ∷ (4, 13) ∷ (6, 550412) ∷ []))) 8
    -- an identifier that is not in the table: 9, and not 10
    ∷ refuses until_running (entry_of 1 (0 ∷ dv ((4, 16) ∷ (4, 12) ∷ (6, 550412) ∷ []))) 9
    -- desk 0 under the code of desk 1
    ∷ refuses (shared_plan ∷ []) (time_entry 0 13) 8
    -- a second plan
    ∷ refuses until_running plan_entry 5
    -- press off while off, by a desk that does not hold: 14 comes before 15
    ∷ refuses until_running (press_entry 0) 14
    -- press on: press answer ON, 550473 start, 550477 down
    ∷ writes until_held (press_entry 1) (contact_record 1 7 1 ++ (press_call_record 1 0 ++ press_record 1 1))
    -- a cut while pressed: the press-off records, 550473 end with reason 01, 550651
    ∷ writes (until_held ++ (press_entry 1 ∷ [])) (entry_of 3 (0 ∷ 7 ∷ []))
    (contact_record 1 7 0 ++ (press_record 1 0 ++ (press_call_record 0 1 ++ state_record 0)))
    -- mobile on: incoming ON, 550464, 550473 start, 550477 up
    ∷ writes until_held mobile_entry (contact_record 2 7 1 ++ (arrival_record 1 ++ (mobile_call_record 1 1 0 ++ mobile_record 1)))
    -- mobile off: incoming OFF, 550464, 550477
    ∷ writes (until_held ++ (mobile_entry ∷ [])) (entry_of 5 (7 ∷ [])) (contact_record 2 7 0 ++ (arrival_record 0 ++ mobile_record 0))
    -- a mobile call: incoming ON, 550468, 550473 start with type 3
    ∷ writes until_running (call_entry 990007) (contact_record 2 7 1 ++ (ring_record ++ mobile_call_record 3 1 0))
    -- its answer: 550469 with 1, 550480 result 1, 550651
    ∷ writes until_rung (ring_answer_entry 990007) (answer_record 1 ++ (result_record 1 ++ state_record 1))
    -- a press in the call that was rung has its type, and no second start
    ∷ writes until_answered (press_entry 1) (contact_record 1 7 1 ++ press_record 3 1)
    -- answers that do not match, in source, destination or type, get 550469 with 0 alone
    ∷ writes until_rung (ring_answer_entry 990008) (answer_record 0)
    ∷ writes until_rung (ring_answer_of 0 12 3 990007 120002) (answer_record 0)
    ∷ writes until_rung (ring_answer_of 0 12 1 990007 120001) (answer_record 0)
    -- so does a second answer, and one that matches but for the desk that it comes from
    ∷ writes until_answered (ring_answer_entry 990007) (answer_record 0)
    ∷ writes (both_running ++ (call_entry 990007 ∷ [])) (ring_answer_of 1 13 3 990007 130001)
    (telegram_record_to 1 ((4, 20) ∷ (4, 13) ∷ (6, 550469) ∷ (3, 7) ∷ (1, 0) ∷ []))
    -- a cancel, and a handover while a mobile rings
    ∷ writes until_rung cancel_entry ring_end
    ∷ writes until_rung (entry_of 8 []) ring_end
    -- a capture while a mobile rings: 550650 result 1
    ∷ writes until_rung (capture_entry 7) (reply_record 1)
    -- mobile on while another rings
    ∷ refuses until_rung mobile_entry 15
    -- a mobile call on a held channel, while another rings, of a number that nobody has, and of a desk that does not run
    ∷ refuses until_held (call_entry 990007) 17
    ∷ refuses until_rung (call_entry 990008) 17
    ∷ refuses until_running (call_to 120002 990007) 17
    ∷ refuses (plan_entry ∷ []) (call_entry 990007) 17
    -- a cancel without a ring
    ∷ refuses until_running cancel_entry 17
    -- the none-number is called, and nobody has it: 13 comes before 17
    ∷ refuses until_running (call_to 0 990007) 13
    ∷ []

-- what an example says of a buffer of so many bytes, and of every buffer as long as the replay program's, whatever it held
abbrev pub AnswersIn : Example → ℕ → Type 0
AnswersIn x room =
    let o : Outcome = step_of (after new_set (map lent x.before)) x.entry room in
    (o.refusal ≡ x.refusal) × (o.bytes ≡ x.bytes)

abbrev pub Works : Example → Type 0
Works x = (b : List ℕ) → length b ≡ 32768 → AnswersIn x (length b)

-- The examples work (`Worked.worked`).
abbrev pub Worked : Type 0
Worked = Each Works examples
