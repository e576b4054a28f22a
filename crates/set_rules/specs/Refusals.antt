-- 01, Refusal numbers: the rows 4 to 15, and 02 §1's 17, each a test of a set and an entry.
use Rattle.std.specs.Prelude.{ℕ, List, [], ◌∷◌, Bool, true, false, ◌&&◌, ◌||◌, not, cond, eqb, ltb, get_or, take, Option, Some, None, Ok, Err}
use Rattle.telegram.specs.Telegram.{num, read_telegram, row_of}
use Rattle.telegram.specs.declared.message.Number.{Number}
use Rattle.telegram.specs.declared.message.Ring.{Ring as RingAnswer}
use Rattle.telegram.specs.declared.message.Message.{Message}
use Rattle.telegram.specs.declared.message.Message.TheVariants.{TimeNotice, RingAnswer as Answers, OperationAnswer, TimeRequest, BaseArrival, RingNotice, AnswerReply, OperationRequest, Call, CallerNotice, CallResult, CaptureRequest, CaptureReply, CaptureState}
use Rattle.telegram.specs.Telegram.{Reading}
use Rattle.telegram.specs.declared.message.ReadError.TheVariants.{Header, Identifier, Body}
use Rattle.channel.specs.State.{is_in, is_held, held_by, is_present, is_open}
use Rattle.line_rules.specs.Rules.{is_pressed, is_ringing}
use Rattle.set_state.specs.State.{no_desk, has_channel, channel_at, listeners_of, desk_place}
use Rattle.set_rules.specs.Entries.{telegram_in, plan_in, entry_kind, entry_desk, entry_channel, entry_on, entry_number, entry_called, ReadEntry}
use Rattle.set_rules.specs.Plan.{plan_ok}
use Rattle.channel.specs.declared.state.Channel.{Channel}
use Rattle.channel.specs.declared.state.Event.TheVariants.{Capture, Release}
use Rattle.set_state.specs.declared.state.Desk.{Desk}
use Rattle.set_state.specs.declared.state.LineSet.{LineSet}
use Rattle.set_state.specs.Entry.{refusal_in}
use Rattle.set_state.specs.declared.state.LinkRequest.TheVariants.{TellsTime, TellsState}
use Rattle.set_state.specs.declared.state.Request.{Request}
use Rattle.set_state.specs.declared.state.Request.TheVariants.{OfLink, OnChannel, AnswersRing, Foreign}

-- What the rows go by beside the entry: whether there is a plan, its desks, and the channel that the entry names, if the plan has
-- it.
pub record Lookup : Type 0 where
  pub planned : Bool
  pub desks : List Desk
  pub count : ℕ
  pub found : Bool
  pub channel : Channel

abbrev pub lookup_in : LineSet → ℕ → Lookup
lookup_in s ch = record { planned = s.planned; desks = s.desks; count = s.size.desks; found = has_channel s ch; channel = channel_at s ch }

abbrev pub Test : Type 0
Test = Lookup → List ℕ → Reading → ReadEntry → Bool

-- ---- parts of the tests

abbrev pub is_kind : ℕ → ReadEntry → Bool
is_kind k x = eqb (entry_kind x) k

-- the kinds that come from a desk
abbrev pub from_desk : ReadEntry → Bool
from_desk x = is_kind 1 x || is_kind 2 x || is_kind 3 x

-- "one a desk sends (550411, 550421, 550600)", and 02 §1's 550419
abbrev pub desk_sends : ℕ → Bool
desk_sends i = eqb i 550411 || eqb i 550419 || eqb i 550421 || eqb i 550600

-- the code and the identifier that a telegram has, whether its body reads or not
abbrev pub code_is : ℕ → Reading → Bool
code_is k (Ok t) = eqb t.code k
code_is k (Err Header) = false
code_is k (Err (Identifier c i)) = eqb c k
code_is k (Err (Body c i)) = eqb c k

abbrev pub identifier_is : Reading → Bool
identifier_is (Ok t) = desk_sends (row_of t.message).id
identifier_is (Err Header) = false
identifier_is (Err (Identifier c i)) = false
identifier_is (Err (Body c i)) = desk_sends i

abbrev pub body_reads : Reading → Bool
body_reads (Ok t) = true
body_reads (Err e) = false

-- what desk d asks by telegram; a 550600 has order 1 to capture and 0 to release
abbrev pub asked_by : ℕ → Message → Request
asked_by d (TimeNotice m) = OfLink TellsTime
asked_by d (Answers m) = AnswersRing m
asked_by d (OperationAnswer m) = OfLink (TellsState m.state)
asked_by d TimeRequest = Foreign
asked_by d (BaseArrival m) = Foreign
asked_by d (RingNotice m) = Foreign
asked_by d (AnswerReply m) = Foreign
asked_by d OperationRequest = Foreign
asked_by d (Call m) = Foreign
asked_by d (CallerNotice m) = Foreign
asked_by d (CallResult m) = Foreign
asked_by d (CaptureRequest m) = OnChannel m.channel m.number (cond (eqb m.order 1) (Capture d) (Release d))
asked_by d (CaptureReply m) = Foreign
asked_by d (CaptureState m) = Foreign

abbrev pub asked_in : ℕ → Reading → Request
asked_in d (Ok t) = asked_by d t.message
asked_in d (Err e) = Foreign

-- "In phase 1 only 550411 is taken", "In phase 2 only 550421", "550600, press and cut need" phase 3; 02 §1: "a 550419 .. goes up to 12
-- as a 550600"
abbrev pub phase_of : Request → ℕ
phase_of (OfLink TellsTime) = 1
phase_of (OfLink (TellsState a)) = 2
phase_of (OnChannel ch n v) = 3
phase_of (AnswersRing m) = 3
phase_of Foreign = 3

-- what hangs on the channel and the number of a telegram that has to give its desk's own, or on a ring answer; z for any other
abbrev pub named : {A : Type 0} → A → (ℕ → Number → A) → (RingAnswer → A) → Request → A
named z f g (OfLink q) = z
named z f g (OnChannel ch n v) = f ch n
named z f g (AnswersRing m) = g m
named z f g Foreign = z

-- the channel that an entry names; a telegram about the link names none
abbrev pub channel_in : Request → ℕ
channel_in = named 0 (λ ch n. ch) (λ m. m.channel)

abbrev pub named_by : Request → ReadEntry → ℕ
named_by q x = cond (is_kind 1 x) (channel_in q) (entry_channel x)

-- "channel not in the plan, or desk not entitled"
abbrev pub may_use : Lookup → ℕ → Bool
may_use v d = v.found && is_in d v.channel.entitled

-- a mobile's number: "not 8 digits or the none-number"
abbrev pub is_caller : Option ℕ → Bool
is_caller (Some v) = not (eqb v 0)
is_caller None = false

abbrev pub number_in : Option ℕ → Number
number_in (Some v) = num v
number_in None = num 0

-- the desk that a mobile calls, by its place: of the first n desks the one with the called number
abbrev pub called_place : List Desk → ℕ → Option ℕ → ℕ
called_place ds n called = desk_place (number_in called).digits (take n ds)

-- "the channel has a holder, call, arrival or ring": it has none of them
abbrev pub is_idle : Channel → Bool
is_idle c = not (is_held c.holder) && not (is_open c.call) && not (is_present c.arrival) && not (is_ringing c)

-- "a desk by its place in the plan from 0"
abbrev pub desk_of : Lookup → ReadEntry → Desk
desk_of v x = get_or v.desks (entry_desk x) no_desk

-- ---- the rows, for an entry x of bytes e and, if it is a telegram, what the reader makes of it

-- "no plan, and kind is not 7"
abbrev pub row4 : Test
row4 v e r x = not v.planned && not (is_kind 7 x)

-- "plan present, and kind is 7"
abbrev pub row5 : Test
row5 v e r x = v.planned && is_kind 7 x

-- "plan breaks a rule above, its size included"
abbrev pub row6 : Test
row6 v e r x = is_kind 7 x && not (plan_ok (plan_in e))

-- "desk not in the plan"
abbrev pub row7 : Test
row7 v e r x = from_desk x && not (ltb (entry_desk x) v.count)

-- "under 16 bytes, not "DV", length field wrong, code not 0000 to 1023 or not the desk's"
abbrev pub row8 : Test
row8 v e r x = is_kind 1 x && not (code_is (desk_of v x).code r)

-- "identifier not in the table, or not one a desk sends"
abbrev pub row9 : Test
row9 v e r x = is_kind 1 x && not (identifier_is r)

-- "body size or a field's range wrong"
abbrev pub row10 : Test
row10 v e r x = is_kind 1 x && not (body_reads r)

-- "the desk's link is not in the phase needed"
abbrev pub row11 : Test
row11 v e r x = from_desk x && not (eqb (desk_of v x).link.phase (cond (is_kind 1 x) (phase_of (asked_in (entry_desk x) r)) 3))

-- "channel not in the plan, or desk not entitled"
abbrev pub row12 : Test
row12 v e r x =
    cond (is_kind 1 x) (not (named true (λ ch n. may_use v (entry_desk x)) (λ m. may_use v (entry_desk x)) (asked_in (entry_desk x) r)))
    (cond (is_kind 2 x || is_kind 3 x) (not (may_use v (entry_desk x)))
    (cond (is_kind 4 x || is_kind 5 x || is_kind 9 x || is_kind 10 x) (not v.found)
    false))

-- "550600 number not the desk's own; mobile's number not 8 digits or the none-number"; 02 §1: "13 also for both new numbers"
abbrev pub row13 : Test
row13 v e r x =
    cond (is_kind 1 x) (not (named true (λ ch n. eqb n.digits (desk_of v x).number.digits) (λ m. true) (asked_in (entry_desk x) r)))
    (cond (is_kind 4 x) (not (is_caller (entry_number x)))
    (cond (is_kind 9 x) (not (is_caller (entry_number x) && is_caller (entry_called x)))
    false))

-- "press or cut by a desk that doesn't hold the channel"
abbrev pub row14 : Test
row14 v e r x = (is_kind 2 x || is_kind 3 x) && not (held_by (entry_desk x) v.channel.holder)

-- "press on while on, off while off; mobile the same"; 02 §1: "Mobile on during a ring is 15."
abbrev pub row15 : Test
row15 v e r x =
    cond (is_kind 2 x) (eqb (entry_on x) (cond (is_pressed v.channel) 1 0))
    (cond (is_kind 4 x) (is_present v.channel.arrival || is_ringing v.channel)
    (cond (is_kind 5 x) (not (is_present v.channel.arrival))
    false))

-- 02 §1: "17, after 15: no running entitled desk has the called number, the channel has a holder, call, arrival or ring, or there is no
-- ring to cancel"
abbrev pub row17 : Test
row17 v e r x =
    cond (is_kind 9 x)
    (not (is_in (called_place v.desks v.count (entry_called x)) (listeners_of v.desks v.count v.channel) && is_idle v.channel))
    (cond (is_kind 10 x) (not (is_ringing v.channel))
    false)

abbrev pub table : List (ℕ × Test)
table =
    (4, row4) ∷ (5, row5) ∷ (6, row6) ∷ (7, row7) ∷ (8, row8) ∷ (9, row9) ∷ (10, row10) ∷ (11, row11) ∷ (12, row12) ∷ (13, row13)
    ∷ (14, row14) ∷ (15, row15) ∷ (17, row17) ∷ []

-- the first row that holds: "given exactly when no earlier one is"; 0 if none does
unfoldable pub first_of : List (ℕ × Test) → Lookup → List ℕ → Reading → ReadEntry → ℕ
first_of [] v e r x = 0
first_of (row ∷ rows) v e r x = cond (row.1 v e r x) row.0 (first_of rows v e r x)

-- the refusal of an entry but for 16, 0 if it is accepted
unfoldable pub refusal_of : LineSet → List ℕ → ReadEntry → ℕ
refusal_of s e x =
    let r : Reading = read_telegram (telegram_in e) in
    cond (eqb (refusal_in x) 0) (first_of table (lookup_in s (named_by (asked_in (entry_desk x) r) x)) e r x) (refusal_in x)
