-- What was told is ended: what a desk is told of a press, a mobile or a call begins and ends by turns.
use Rattle.std.specs.Prelude.{ℕ, List, [], ◌∷◌, Bool, false, ◌&&◌, ◌||◌, not, cond, ◌≡◌, eqb, Option, None, Some}
use Rattle.laws.specs.Table.{pick}
use Rattle.channel.specs.State.{only, is_in, is_present}
use Rattle.channel.specs.declared.state.Call.{Call}
use Rattle.channel.specs.declared.state.Arrival.{Arrival}
use Rattle.channel.specs.declared.state.Channel.{Channel}
use Rattle.channel.specs.declared.state.Event.{Event}
use Rattle.channel.specs.declared.state.Event.TheVariants.{Capture, Release, Cut, PressOn, PressOff, MobileOn, MobileOff, Ring, Cancel, RingAnswer, Tick, EndTalk, EndCall}
use Rattle.channel.specs.declared.state.Notice.{Notice}
use Rattle.channel.specs.declared.state.Notice.TheVariants.{PressAnswer, Incoming, BaseArrival, Call as CallNotice, PressNotice, CallerNotice, CaptureReply, CaptureState, RingNotice, AnswerReply, CallResult}
use Rattle.channel.specs.declared.state.Send.{Send}
use Rattle.line_rules.specs.Rules.{is_pressed, is_ringing}

-- what a notice is about, by a number; the first six begin and end
abbrev pub matter_of : Notice → ℕ
matter_of (PressAnswer on) = 1
matter_of (PressNotice k o) = 2
matter_of (Incoming on) = 3
matter_of (BaseArrival k b n o) = 4
matter_of (CallerNotice k b n o) = 5
matter_of (CallNotice k d b s t r) = 6
matter_of (CaptureReply r) = 7
matter_of (CaptureState h s) = 8
matter_of (RingNotice n) = 9
matter_of (AnswerReply r) = 10
matter_of (CallResult r) = 11

-- 1 for its start, 0 for its end
abbrev pub order_of : Notice → ℕ
order_of (PressAnswer on) = on
order_of (PressNotice k o) = o
order_of (Incoming on) = on
order_of (BaseArrival k b n o) = o
order_of (CallerNotice k b n o) = o
order_of (CallNotice k d b s t r) = t
order_of (CaptureReply r) = r
order_of (CaptureState h s) = s
order_of (RingNotice n) = 1
order_of (AnswerReply r) = r
order_of (CallResult r) = r

-- what desk B is told of a matter, in order
unfoldable pub orders_to : ℕ → ℕ → List Send → List ℕ
orders_to B x [] = []
orders_to B x (s ∷ ss) =
    cond (eqb (matter_of s.notice) x && is_in B s.recipients) (order_of s.notice ∷ orders_to B x ss) (orders_to B x ss)

abbrev pub told_of_press : ℕ → Option ℕ → Bool
told_of_press B None = false
told_of_press B (Some d) = is_in B (only d)

abbrev pub told_of_call : ℕ → Option Call → Bool
told_of_call B None = false
told_of_call B (Some k) = is_in B k.recipients

abbrev pub told_of_arrival : ℕ → Option Arrival → Bool
told_of_arrival B None = false
told_of_arrival B (Some a) = is_in B a.recipients

-- the incoming contact: a mobile talks or rings
abbrev pub told_of_mobile : ℕ → Channel → Bool
told_of_mobile B c = told_of_arrival B c.arrival || (is_ringing c && told_of_call B c.call)

-- whether a matter has begun for B and not ended
abbrev pub lasting : ℕ → ℕ → Channel → Bool
lasting B x c =
    pick x false
    ((1, told_of_press B c.presser)
    ∷ (2, told_of_press B c.presser)
    ∷ (3, told_of_mobile B c)
    ∷ (4, told_of_arrival B c.arrival)
    ∷ (5, told_of_arrival B c.arrival)
    ∷ (6, told_of_call B c.call)
    ∷ [])

-- orders that begin and end by turns, from what was to what is
abbrev pub ByTurns : Bool → List ℕ → Bool → Type 0
ByTurns was [] is = was ≡ is
ByTurns was (o ∷ os) is = (o ≡ cond was 0 1) × ByTurns (not was) os is

-- "press on while on, off while off; mobile the same" is refused with 15: what begins is new. A ring that is answered leaves the
-- incoming contact ON (02 sends no OFF), so that matter, 3, is not spoken of there. The two parts of a handover are spoken of together,
-- apart from this.
abbrev pub Begins : ℕ → Event → Channel → Type 0
Begins x (Capture d) c = Unit {0}
Begins x (Release d) c = Unit {0}
Begins x Cut c = Unit {0}
Begins x (PressOn d n) c = is_pressed c ≡ false
Begins x PressOff c = Unit {0}
Begins x (MobileOn b n) c = is_present c.arrival ≡ false
Begins x MobileOff c = Unit {0}
Begins x (Ring d b n) c = Unit {0}
Begins x Cancel c = Unit {0}
Begins x (RingAnswer d matched) c = x ≡ 3 → matched ≡ false
Begins x Tick c = Unit {0}
Begins x EndTalk c = ⊥
Begins x EndCall c = ⊥
