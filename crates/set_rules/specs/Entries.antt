-- 01, Entries and records, with 02 §1's kinds: what an entry's bytes ask for, or refusal 1, 2 or 3.
use Rattle.std.specs.Prelude.{ℕ, ◌+◌, List, [], ◌∷◌, Bool, true, false, ◌&&◌, cond, eqb, leb, length, take, drop, Option, None, Result, Ok, Err}
use Rattle.numerals.specs.Digits.{digits_in}
use Rattle.laws.specs.Table.{pick}
use Rattle.frames.specs.Bytes.{byte, word}
use Rattle.set_state.specs.Entry.{desk_from, channel_from}
use Rattle.set_state.specs.declared.state.Refusal.{Refusal}
use Rattle.set_state.specs.declared.state.Refusal.TheVariants.{Length, Version, Payload}
use Rattle.set_state.specs.declared.state.Entry.{Entry}
use Rattle.set_state.specs.declared.state.Entry.TheVariants.{Telegram, Press, Cut, MobileOn, MobileOff, Tick, Plan, Handover, MobileCall, MobileCancel}

-- 1: "fewer than 4 bytes, length wrong, or above 12,000"; the length "counts all bytes after it"
abbrev pub measured : List ℕ → Bool
measured e = leb 4 (length e) && eqb (word e 0 + 2) (length e) && leb (word e 0) 12000

-- ---- what an entry's bytes ask for, or why they ask for nothing. What a kind does not have is 0 or no number.
abbrev pub ReadEntry : Type 0
ReadEntry = Result Entry Refusal

-- "1 telegram ..; 2 press ..; 3 cut ..; 4 mobile on ..; 5 mobile off ..; 6 tick ..; 7 plan; 8 handover"; 02 §1: "mobile call .., kind 9, and
-- mobile cancel .., kind 10"
unfoldable pub entry_kind : ReadEntry → ℕ
entry_kind (Ok (Telegram d)) = 1
entry_kind (Ok (Press d ch on)) = 2
entry_kind (Ok (Cut d ch)) = 3
entry_kind (Ok (MobileOn ch b n)) = 4
entry_kind (Ok (MobileOff ch)) = 5
entry_kind (Ok Tick) = 6
entry_kind (Ok Plan) = 7
entry_kind (Ok Handover) = 8
entry_kind (Ok (MobileCall ch b n m)) = 9
entry_kind (Ok (MobileCancel ch)) = 10
entry_kind (Err r) = 0

unfoldable pub entry_desk : ReadEntry → ℕ
entry_desk (Ok x) = desk_from x
entry_desk (Err r) = 0

unfoldable pub entry_channel : ReadEntry → ℕ
entry_channel (Ok x) = channel_from x
entry_channel (Err r) = 0

unfoldable pub entry_on : ReadEntry → ℕ
entry_on (Ok (Press d ch on)) = on
entry_on _ = 0

unfoldable pub entry_base : ReadEntry → ℕ
entry_base (Ok (MobileOn ch b n)) = b
entry_base (Ok (MobileCall ch b n m)) = b
entry_base _ = 0

-- the mobile's number, and that of the desk that it calls
unfoldable pub entry_number : ReadEntry → Option ℕ
entry_number (Ok (MobileOn ch b n)) = n
entry_number (Ok (MobileCall ch b n m)) = n
entry_number _ = None

unfoldable pub entry_called : ReadEntry → Option ℕ
entry_called (Ok (MobileCall ch b n m)) = m
entry_called _ = None

-- the number in a mobile on or a mobile call, eight bytes behind channel and base, and behind it the called number
abbrev pub mobile_in : List ℕ → Option ℕ
mobile_in e = digits_in (take 8 (drop 6 e))

abbrev pub called_in : List ℕ → Option ℕ
called_in e = digits_in (take 8 (drop 14 e))

-- "1 telegram: desk, telegram bytes; 2 press: desk, channel, on; 3 cut: desk, channel; 4 mobile on: channel, base 0 to 29, 8-byte
-- number; 5 mobile off: channel; 6 tick: none; 7 plan; 8 handover: none"; 02 §1: "mobile call (channel, base, mobile's number, called
-- number), kind 9, and mobile cancel (channel), kind 10". Another kind asks for nothing (`RecordLaws`).
abbrev pub payload : ℕ → List ℕ → ReadEntry
payload k e =
    cond (eqb k 1) (Ok (Telegram (byte e 4)))
    (cond (eqb k 2) (Ok (Press (byte e 4) (byte e 5) (byte e 6)))
    (cond (eqb k 3) (Ok (Cut (byte e 4) (byte e 5)))
    (cond (eqb k 4) (Ok (MobileOn (byte e 4) (byte e 5) (mobile_in e)))
    (cond (eqb k 5) (Ok (MobileOff (byte e 4)))
    (cond (eqb k 6) (Ok Tick)
    (cond (eqb k 7) (Ok Plan)
    (cond (eqb k 8) (Ok Handover)
    (cond (eqb k 9) (Ok (MobileCall (byte e 4) (byte e 5) (mobile_in e) (called_in e)))
    (cond (eqb k 10) (Ok (MobileCancel (byte e 4)))
    (Err Payload))))))))))

-- "payload size wrong (kind 1 needs a desk byte; kind 7 is judged at 6)", by kind; the four bytes before the payload count here
abbrev pub sizes : List (ℕ × (ℕ → Bool))
sizes =
    (1, λ n. leb 5 n) ∷ (2, λ n. eqb n 7) ∷ (3, λ n. eqb n 6) ∷ (4, λ n. eqb n 14) ∷ (5, λ n. eqb n 5) ∷ (6, λ n. eqb n 4)
    ∷ (7, λ n. true) ∷ (8, λ n. eqb n 4) ∷ (9, λ n. eqb n 22) ∷ (10, λ n. eqb n 5) ∷ []

abbrev pub size_ok : ℕ → ℕ → Bool
size_ok k n = pick k (λ n. false) sizes n

-- 3: "kind not 1 to" 10, by 02 §1; "payload size wrong ..; on above 1; base above 29"
abbrev pub payload_ok : ℕ → List ℕ → Bool
payload_ok k e = size_ok k (length e) && leb (entry_on (payload k e)) 1 && leb (entry_base (payload k e)) 29

-- what an entry asks for; 2: "version is not 1"
unfoldable pub read_entry : List ℕ → ReadEntry
read_entry e =
    cond (measured e)
    (cond (eqb (byte e 2) 1) (cond (payload_ok (byte e 3) e) (payload (byte e 3) e) (Err Payload)) (Err Version))
    (Err Length)

-- the bytes of a telegram, and of a plan
abbrev pub telegram_in : List ℕ → List ℕ
telegram_in e = drop 5 e

abbrev pub plan_in : List ℕ → List ℕ
plan_in e = drop 4 e
