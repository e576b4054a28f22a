-- 01, Line rules, and 02 §1: what an accepted entry does to the set, and what it sends.
use Rattle.std.specs.Prelude.{ℕ, List, [], ◌∷◌, ◌++◌, map, Bool, false, ◌&&◌, cond, eqb, drop, set, Option, None, Some}
use Rattle.telegram.specs.Telegram.{read_telegram}
use Rattle.telegram.specs.declared.message.Number.{Number}
use Rattle.telegram.specs.declared.message.Ring.{Ring as RingAnswer}
use Rattle.telegram.specs.declared.message.Message.{Message}
use Rattle.telegram.specs.declared.message.Message.TheVariants.{TimeRequest, OperationRequest}
use Rattle.channel.specs.State.{only, first_desks}
use Rattle.line_rules.specs.Rules.{Step, individual, is_ringing, happens}
use Rattle.line_rules.specs.Notices.{telegram}
use Rattle.line_rules.specs.Turns.{told_of_call}
use Rattle.channel.specs.declared.state.Call.{Call}
use Rattle.channel.specs.declared.state.Channel.{Channel}
use Rattle.channel.specs.declared.state.Event.{Event}
use Rattle.channel.specs.declared.state.Event.TheVariants.{Cut, PressOn, PressOff, MobileOn, MobileOff, Ring, Cancel, RingAnswer as Answered, Tick, EndTalk, EndCall}
use Rattle.channel.specs.declared.state.Send.{Send}
use Rattle.set_state.specs.State.{new_set, own_of, channels_of, place_in, channel_at, listeners_of, with_channels, time_told, answered, with_link}
use Rattle.set_rules.specs.Entries.{telegram_in, plan_in, entry_kind, entry_desk, entry_channel, entry_on, entry_base, entry_number, entry_called, ReadEntry}
use Rattle.laws.specs.Table.{pick}
use Rattle.set_rules.specs.Plan.{set_of}
use Rattle.set_rules.specs.Refusals.{asked_in, number_in, called_place}
use Rattle.set_rules.specs.Records.{Delivery, delivered}
use Rattle.set_state.specs.declared.state.Desk.{Desk}
use Rattle.set_state.specs.declared.state.LineSet.{LineSet}
use Rattle.set_state.specs.declared.state.LinkRequest.{LinkRequest}
use Rattle.set_state.specs.declared.state.LinkRequest.TheVariants.{TellsTime, TellsState}
use Rattle.set_state.specs.declared.state.Request.{Request}
use Rattle.set_state.specs.declared.state.Request.TheVariants.{OfLink, OnChannel, AnswersRing, Foreign}

-- the set after, what is sent, and the desks whose codes the records bear
pub record Effect : Type 0 where
  pub after : LineSet
  pub sent : List Delivery
  pub desks : List Desk

abbrev pub effect : LineSet → LineSet → List Delivery → Effect
effect s t vs = record { after = t; sent = vs; desks = s.desks }

-- one telegram to a set of desks
abbrev pub telegram_to : ℕ → Message → List Delivery
telegram_to m message = record { recipients = m; content = λ d. telegram message } ∷ []

-- ---- links

-- "In phase 1 only 550411 is taken: it sends 550471, phase 2."
abbrev pub time_taken : LineSet → ℕ → Effect
time_taken s d = effect s (with_link d time_told s) (telegram_to (only d) OperationRequest)

-- "In phase 2 only 550421: state 1 gives phase 3, state 0 leaves phase 2; nothing is sent."
abbrev pub answer_taken : LineSet → ℕ → ℕ → Effect
answer_taken s d state = effect s (with_link d (answered state) s) []

-- ---- channels

-- what an event does to a channel, by the desks and how many of them the plan has
abbrev pub moved_in : List Desk → ℕ → Event → Channel → Step
moved_in ds n v c = happens v (listeners_of ds n c) c

abbrev pub sent_in : List Desk → ℕ → Event → Channel → List Delivery
sent_in ds n v c = delivered ds c.code (moved_in ds n v c).sends

-- an event on one channel, by its code
unfoldable pub on_channel : LineSet → ℕ → Event → Effect
on_channel s ch v =
    effect s
    (with_channels (set s.channels (place_in s ch) (moved_in s.desks s.size.desks v (channel_at s ch)).next) s)
    (sent_in s.desks s.size.desks v (channel_at s ch))

-- what all channels of the plan send, in its order, by what each does
unfoldable pub sends_of : List Desk → (Channel → List Send) → List Channel → List Delivery
sends_of ds f [] = []
sends_of ds f (c ∷ cs) = delivered ds c.code (f c) ++ sends_of ds f cs

-- "Tick, channels in plan order"
abbrev pub ticked : List Desk → ℕ → Channel → Channel
ticked ds n c = (moved_in ds n Tick c).next

abbrev pub tick_sends : List Desk → ℕ → Channel → List Send
tick_sends ds n c = (moved_in ds n Tick c).sends

unfoldable pub on_tick : LineSet → Effect
on_tick s =
    effect s
    (with_channels (map (ticked s.desks s.size.desks) (channels_of s) ++ drop s.size.channels s.channels) s)
    (sends_of s.desks (tick_sends s.desks s.size.desks) (channels_of s))

-- "Handover, per channel in plan order .. Then the set is a new one, without plan."
abbrev pub end_sends : List Desk → ℕ → Channel → List Send
end_sends ds n c = (moved_in ds n EndTalk c).sends ++ (moved_in ds n EndCall c).sends

unfoldable pub on_handover : LineSet → Effect
on_handover s = effect s new_set (sends_of s.desks (end_sends s.desks s.size.desks) (channels_of s))

-- ---- ring answers

-- desk d is the one that a mobile rings on a channel
abbrev pub is_called : ℕ → Channel → Bool
is_called d c = is_ringing c && told_of_call d c.call

-- the number of an open call, as digits
abbrev pub caller_of : Option Call → ℕ
caller_of None = 0
caller_of (Some k) = k.source.digits

-- 02 §1: "A 550419 with no ring on its channel, from another desk, or that doesn't match the notice in every body field both have, gets
-- 550469 with 0." The notice had type 3, the mobile's number as source, and as destination the called desk's own.
abbrev pub answers_ring : ℕ → Number → RingAnswer → Channel → Bool
answers_ring d own m c =
    is_called d c
    && eqb m.kind individual
    && eqb m.source.digits (caller_of c.call)
    && eqb m.destination.digits own.digits

-- Whether a telegram of desk d answers a ring. This is the one place where a number that the set keeps is compared; what an entry does
-- goes by the answer (`Promises`, 4).
abbrev pub answers_in : LineSet → ℕ → Request → Bool
answers_in s d (OfLink q) = false
answers_in s d (OnChannel ch n v) = false
answers_in s d (AnswersRing m) = answers_ring d (own_of s.desks d) m (channel_at s m.channel)
answers_in s d Foreign = false

-- ---- entries

-- "Accepting a plan sends 550461 to each desk."
abbrev pub on_plan : List ℕ → Effect
on_plan p = effect (set_of p) (set_of p) (telegram_to (first_desks (set_of p).size.desks) TimeRequest)

-- what a desk's telegram does
abbrev pub on_link : LineSet → ℕ → LinkRequest → Effect
on_link s d TellsTime = time_taken s d
on_link s d (TellsState a) = answer_taken s d a

abbrev pub on_request : Bool → LineSet → ℕ → Request → Effect
on_request matched s d (OfLink q) = on_link s d q
on_request matched s d (OnChannel ch n v) = on_channel s ch v
on_request matched s d (AnswersRing m) = on_channel s m.channel (Answered d matched)
on_request matched s d Foreign = effect s s []

-- what an accepted entry does, by its kind, and by whether it answers a ring
abbrev pub ways : Bool → LineSet → List ℕ → ReadEntry → List (ℕ × Effect)
ways matched s e x =
    (1, on_request matched s (entry_desk x) (asked_in (entry_desk x) (read_telegram (telegram_in e))))
    ∷ (2, on_channel s (entry_channel x) (cond (eqb (entry_on x) 1) (PressOn (entry_desk x) (own_of s.desks (entry_desk x))) PressOff))
    ∷ (3, on_channel s (entry_channel x) Cut)
    ∷ (4, on_channel s (entry_channel x) (MobileOn (entry_base x) (number_in (entry_number x))))
    ∷ (5, on_channel s (entry_channel x) MobileOff)
    ∷ (6, on_tick s)
    ∷ (7, on_plan (plan_in e))
    ∷ (8, on_handover s)
    ∷ (9, on_channel s (entry_channel x) (Ring (called_place s.desks s.size.desks (entry_called x)) (entry_base x) (number_in (entry_number x))))
    ∷ (10, on_channel s (entry_channel x) Cancel)
    ∷ []

unfoldable pub accepted_by : Bool → LineSet → List ℕ → ReadEntry → Effect
accepted_by matched s e x = pick (entry_kind x) (effect s s []) (ways matched s e x)

unfoldable pub accepted : LineSet → List ℕ → ReadEntry → Effect
accepted s e x = accepted_by (answers_in s (entry_desk x) (asked_in (entry_desk x) (read_telegram (telegram_in e)))) s e x
