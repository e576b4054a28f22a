-- What is promised of the rows from 12 on, beside the contract: they are what is judged of an entry about a channel, kind by
-- kind. `proofs/Kept.antt` has the proof of each under the name given with it.
use Rattle.std.specs.Prelude.{ℕ, List, Bool, true, not, cond, ◌⊎◌, ◌≡◌, Ok}
use Rattle.telegram.specs.declared.message.Number.{Number}
use Rattle.telegram.specs.declared.message.Ring.{Ring as RingAnswer}
use Rattle.telegram.specs.Telegram.{Reading}
use Rattle.channel.specs.declared.state.Event.{Event}
use Rattle.channel.specs.State.{is_in}
use Rattle.set_state.specs.State.{listeners_of}
use Rattle.set_rules.specs.Entries.{ReadEntry, entry_kind, entry_desk, entry_called}
use Rattle.set_rules.specs.Refusals.{Lookup, asked_in, called_place, desk_of, first_of}
use Rattle.set_state.specs.declared.state.Entry.{Entry}
use Rattle.set_state.specs.declared.state.Request.TheVariants.{OnChannel, AnswersRing}
use Rattle.judging.specs.Judging.{late, usable, refusal_by}

-- a telegram about a channel (`late_ask`)
abbrev pub LateAsk : Type 0
LateAsk =
    (w : Lookup) (e : List ℕ) (r : Reading) (x : Entry) (ch : ℕ) (number : Number) (v : Event) (heard : Bool) → entry_kind (Ok x) ≡ 1
    → asked_in (entry_desk (Ok x)) r ≡ OnChannel ch number v
    → first_of late w e r (Ok x) ≡ refusal_by x number (desk_of w (Ok x)).number heard w.found w.channel

-- a kind that is about a channel and no telegram
abbrev pub LineKind : ℕ → Type 0
LineKind k = (k ≡ 2) ⊎ ((k ≡ 3) ⊎ ((k ≡ 4) ⊎ ((k ≡ 5) ⊎ ((k ≡ 9) ⊎ (k ≡ 10)))))

-- the desk that a mobile calls is running and entitled
abbrev pub called_hears : Lookup → ReadEntry → Bool
called_hears w x = is_in (called_place w.desks w.count (entry_called x)) (listeners_of w.desks w.count w.channel)

-- an entry of such a kind; whether the called desk hears is asked of a mobile call on a channel that is there (`late-line`)
abbrev pub LateLine : Type 0
LateLine =
    (w : Lookup) (e : List ℕ) (r : Reading) (x : Entry) (number : Number) (heard : Bool) → LineKind (entry_kind (Ok x))
    → (entry_kind (Ok x) ≡ 9 → w.found ≡ true → heard ≡ called_hears w (Ok x))
    → first_of late w e r (Ok x) ≡ refusal_by x number (desk_of w (Ok x)).number heard w.found w.channel

-- a ring answer: it stops at 12 (`late-answer`)
abbrev pub LateAnswer : Type 0
LateAnswer =
    (w : Lookup) (e : List ℕ) (r : Reading) (x : ReadEntry) (m : RingAnswer) → entry_kind x ≡ 1 → asked_in (entry_desk x) r ≡ AnswersRing m
    → first_of late w e r x ≡ cond (not (usable (entry_desk x) w.found w.channel)) 12 0
