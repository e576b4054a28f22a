-- What an entry about one desk's link or one channel asks, as the code holds it: an answer to the rows up to 11.
use Rattle.std.specs.Prelude.{ℕ, List, Bool, cond, eqb, take, Result, Ok, Err, Option}
use Rattle.telegram.specs.Telegram.{num, read_telegram}
use Rattle.telegram.specs.declared.message.Number.{Number}
use Rattle.telegram.specs.Telegram.{Reading}
use Rattle.channel.specs.declared.state.Channel.{Channel}
use Rattle.channel.specs.declared.state.Event.{Event}
use Rattle.channel.specs.declared.state.Event.TheVariants.{Cut, PressOn, PressOff, MobileOn, MobileOff, Ring, Cancel}
use Rattle.set_state.specs.State.{own_of}
use Rattle.set_rules.specs.Entries.{ReadEntry, telegram_in, entry_desk, entry_channel, entry_on, entry_base, entry_number, entry_called}
use Rattle.set_rules.specs.Refusals.{Lookup, Test, is_kind, asked_in, phase_of, number_in, called_place, table, first_of}
use Rattle.set_state.specs.declared.state.Desk.{Desk}
use Rattle.set_state.specs.Entry.{refusal_in}
use Rattle.set_state.specs.declared.state.Request.TheVariants.{OfLink as LinkIs}
use Rattle.telegram_requests.specs.Asking.{asking}
use Rattle.telegram_requests.specs.declared.request.Asked.{Asked}
use Rattle.telegram_requests.specs.declared.request.Asked.TheVariants.{OfLink, OfLine}
use Rattle.telegram_requests.specs.declared.request.LineRequest.TheVariants.{OnChannel}

-- what the rows go by, as the code has it
abbrev pub seen : Bool → List Desk → ℕ → Bool → Channel → Lookup
seen planned ds n found c = record { planned = planned; desks = ds; count = n; found = found; channel = c }

-- the rows 4 to 11, which do not look at a channel
abbrev pub early : List (ℕ × Test)
early = take 8 table

-- what is asked, if the link is in the phase that it needs
abbrev pub in_phase : ℕ → Result Asked ℕ → Result Asked ℕ
in_phase phase (Err n) = Err n
in_phase phase (Ok (OfLink q)) = cond (eqb phase (phase_of (LinkIs q))) (Ok (OfLink q)) (Err 11)
in_phase phase (Ok (OfLine q)) = cond (eqb phase 3) (Ok (OfLine q)) (Err 11)

-- a mobile's call to one of n desks
abbrev pub ring_of : List Desk → ℕ → Option ℕ → ℕ → Option ℕ → Event
ring_of ds n called base number = Ring (called_place ds n called) base (number_in number)

-- what an entry that is no telegram makes happen on its channel, if its desk has this number
abbrev pub event_of : List Desk → ℕ → ReadEntry → Number → Event
event_of ds n x own =
    cond (is_kind 2 x) (cond (eqb (entry_on x) 1) (PressOn (entry_desk x) own) PressOff)
    (cond (is_kind 3 x) Cut
    (cond (is_kind 4 x) (MobileOn (entry_base x) (number_in (entry_number x)))
    (cond (is_kind 9 x) (ring_of ds n (entry_called x) (entry_base x) (entry_number x))
    (cond (is_kind 10 x) Cancel
    MobileOff))))

-- what an entry asks that has no refusal up to 11
abbrev pub asked_for : List Desk → ℕ → Reading → ReadEntry → Result Asked ℕ
asked_for ds n r x =
    cond (is_kind 1 x) (asking (asked_in (entry_desk x) r))
    (Ok (OfLine (OnChannel (entry_channel x) (num 0) (event_of ds n x (own_of ds (entry_desk x))))))

abbrev pub unless : ℕ → Result Asked ℕ → Result Asked ℕ
unless n a = cond (eqb n 0) a (Err n)

unfoldable pub asked_of : Lookup → List ℕ → ReadEntry → Result Asked ℕ
asked_of v e x =
    let r : Reading = read_telegram (telegram_in e) in
    unless (refusal_in x) (unless (first_of early v e r x) (asked_for v.desks v.count r x))
