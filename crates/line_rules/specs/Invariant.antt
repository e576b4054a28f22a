-- What holds of a channel in every state that a feed from a new set brings about, and what it sends then.
use Rattle.std.specs.Prelude.{ℕ, ◌^◌, ◌≤◌, ◌<◌, List, true, false, ◌||◌, ◌&&◌, not, ◌⊎◌, ◌≡◌, leb, ltb, Option, None, Some}
use Rattle.laws.specs.Each.{Each}
use Rattle.fields.specs.Fields.{between}
use Rattle.telegram.specs.Telegram.{in_range}
use Rattle.telegram.specs.declared.message.Number.{Number}
use Rattle.channel.specs.State.{only, is_held, is_present, is_open}
use Rattle.channel.specs.declared.state.Call.{Call}
use Rattle.channel.specs.declared.state.Arrival.{Arrival}
use Rattle.channel.specs.declared.state.Channel.{Channel}
use Rattle.channel.specs.declared.state.Event.{Event}
use Rattle.channel.specs.declared.state.Event.TheVariants.{Capture, Release, Cut, PressOn, PressOff, MobileOn, MobileOff, Ring, Cancel, RingAnswer, Tick, EndTalk, EndCall}
use Rattle.channel.specs.declared.state.Notice.{Notice}
use Rattle.channel.specs.declared.state.Notice.TheVariants.{PressAnswer, Incoming, BaseArrival, Call as CallNotice, PressNotice, CallerNotice, CaptureReply, CaptureState, RingNotice, AnswerReply, CallResult}
use Rattle.channel.specs.declared.state.Send.{Send}
use Rattle.line_rules.specs.Rules.{Step, individual, up, is_pressed, is_ringing}
use Rattle.line_rules.specs.Notices.{Content, telegram, contact}

-- ---- numbers and codes in range

-- eight digits
abbrev pub NumberOk : Number → Type 0
NumberOk n = n.digits < 10 ^ 8

-- what the field of a base allows
abbrev pub BaseOk : ℕ → Type 0
BaseOk b = (leb b 29 || between 997 999 b) ≡ true

-- a general or an individual call, by its type's number, whatever the rules name it
abbrev pub KindOk : ℕ → Type 0
KindOk k = (k ≡ 1) ⊎ (k ≡ 3)

-- a call's type, direction, base and source
pub record TalkOk (kind direction base : ℕ) (n : Number) : Type 0 where
  pub kind-is : KindOk kind
  pub direction-low : 1 ≤ direction
  pub direction_high : direction ≤ 2
  pub base_ok : BaseOk base
  pub number_ok : NumberOk n

abbrev pub CallOk : Option Call → Type 0
CallOk None = Unit {0}
CallOk (Some k) = TalkOk k.kind k.direction k.base k.source

abbrev pub ArrivalOk : Option Arrival → Type 0
ArrivalOk None = Unit {0}
ArrivalOk (Some a) = TalkOk a.kind 2 a.base a.number

pub record InRange (c : Channel) : Type 0 where
  pub code_ok : c.code ≤ 99
  pub call_ok : CallOk c.call
  pub arrival-ok : ArrivalOk c.arrival

-- ---- timers and press

pub record Timed (c : Channel) : Type 0 where
  -- the quiet timer runs exactly when a call is open, nothing pressed, no arrival and no ring
  pub quiet_runs : ltb 0 c.quiet ≡ (is_open c.call && (not (is_pressed c) && (not (is_present c.arrival) && not (is_ringing c))))
  -- the release timer runs exactly when the channel is held
  pub release-runs : ltb 0 c.release ≡ is_held c.holder
  -- no timer is above its length
  pub quiet_most : c.quiet ≤ 10
  pub release-most : c.release ≤ 120
  pub ring-most : c.ring ≤ 15
  -- who presses is the holder, and a call is open
  pub presser_holds : is_pressed c ≡ true → c.presser ≡ c.holder
  pub pressed_open : is_pressed c ≡ true → is_open c.call ≡ true

-- ---- rings

-- an individual call from a mobile, told to one desk
abbrev pub RingCall : Option Call → Type 0
RingCall None = ⊥
RingCall (Some k) = (k.kind ≡ individual) × ((k.direction ≡ up) × ((called : ℕ) × (k.recipients ≡ only called)))

-- 02 §1: while the ring timer runs there is the ring's call, and nobody holds, presses or talks; so no other timer runs (`Timed`)
pub record Rung (c : Channel) : Type 0 where
  pub nobody-holds : c.holder ≡ None
  pub nobody_presses : c.presser ≡ None
  pub nobody-talks : c.arrival ≡ None
  pub ring-call : RingCall c.call

-- ---- all that holds of a channel

pub record ChannelOk (c : Channel) : Type 0 where
  pub is_in_range : InRange c
  pub timed : Timed c
  pub rung : is_ringing c ≡ true → Rung c

-- "the channel has" no "holder, call, arrival or ring"
pub record Idle (c : Channel) : Type 0 where
  pub free : c.holder ≡ None
  pub closed : c.call ≡ None
  pub absent : c.arrival ≡ None
  pub silent : is_ringing c ≡ false

-- what an accepted entry makes sure of before an event: numbers and a mobile's base in range, and that a press is the holder's
-- and new, that a cut is of a held channel, that a mobile rings on an idle channel, and that a ring is there to be ended
abbrev pub Fits : Event → Channel → Type 0
Fits (Capture d) c = Unit {0}
Fits (Release d) c = Unit {0}
Fits Cut c = is_held c.holder ≡ true
Fits (PressOn d n) c = NumberOk n × (c.holder ≡ Some d)
Fits PressOff c = is_pressed c ≡ true
Fits (MobileOn b n) c = (b ≤ 29) × NumberOk n × (is_ringing c ≡ false)
Fits MobileOff c = is_present c.arrival ≡ true
Fits (Ring d b n) c = (b ≤ 29) × NumberOk n × Idle c
Fits Cancel c = is_ringing c ≡ true
Fits (RingAnswer d matched) c = matched ≡ true → is_ringing c ≡ true
Fits Tick c = Unit {0}
Fits EndTalk c = Unit {0}
Fits EndCall c = Unit {0}

-- ---- what is sent

-- what the field of a reason allows, of those that the rules give
abbrev pub ReasonOk : ℕ → Type 0
ReasonOk r = (r ≤ 3) ⊎ (r ≡ 5)

abbrev pub NoticeOk : Notice → Type 0
NoticeOk (PressAnswer on) = Unit {0}
NoticeOk (Incoming on) = Unit {0}
NoticeOk (BaseArrival k b n o) = TalkOk k 2 b n × (o ≤ 1)
NoticeOk (CallNotice k d b s t r) = TalkOk k d b s × (t ≤ 1) × ReasonOk r
NoticeOk (PressNotice k o) = KindOk k × (o ≤ 1)
NoticeOk (CallerNotice k b n o) = TalkOk k 2 b n × (o ≤ 1)
NoticeOk (CaptureReply r) = r ≤ 1
NoticeOk (CaptureState h s) = s ≤ 1
NoticeOk (RingNotice n) = NumberOk n
NoticeOk (AnswerReply r) = r ≤ 1
NoticeOk (CallResult r) = r ≤ 1

abbrev pub SendOk : Send → Type 0
SendOk s = NoticeOk s.notice

abbrev pub SendsOk : List Send → Type 0
SendsOk = Each SendOk

pub record StepOk (st : Step) : Type 0 where
  pub next-ok : ChannelOk st.next
  pub sends-ok : SendsOk st.sends

-- a telegram whose every field is in its range
abbrev pub ContentOk : Content → Type 0
ContentOk (telegram m) = in_range m ≡ true
ContentOk (contact k ch on) = Unit {0}
