-- What desk B may see of a channel and of what it sends: `hide B` puts the none-number in the place of the number of each call
-- and arrival that B was not told of.
use Rattle.std.specs.Prelude.{ℕ, List, map, Bool, true, false, Option, None, Some}
use Rattle.telegram.specs.Telegram.{num}
use Rattle.telegram.specs.declared.message.Number.{Number}
use Rattle.channel.specs.State.{is_in}
use Rattle.line_rules.specs.Rules.{Step, step, to}
use Rattle.channel.specs.declared.state.Call.{Call}
use Rattle.channel.specs.declared.state.Arrival.{Arrival}
use Rattle.channel.specs.declared.state.Channel.{Channel}
use Rattle.channel.specs.declared.state.Notice.{Notice}
use Rattle.channel.specs.declared.state.Notice.TheVariants.{PressAnswer, Incoming, BaseArrival, Call as CallNotice, PressNotice, CallerNotice, CaptureReply, CaptureState, RingNotice, AnswerReply, CallResult}
use Rattle.channel.specs.declared.state.Send.{Send}

-- a number that is hidden unless seen
unfoldable pub veil : Bool → Number → Number
veil true n = n
veil false n = num 0

module _ (B : ℕ) where
  abbrev pub hide_call : Option Call → Option Call
  hide_call None = None
  hide_call (Some k) =
      Some (record { kind = k.kind; direction = k.direction; recipients = k.recipients; base = k.base; source = veil (is_in B k.recipients) k.source })

  abbrev pub hide_arrival : Option Arrival → Option Arrival
  hide_arrival None = None
  hide_arrival (Some a) =
      Some (record { kind = a.kind; recipients = a.recipients; base = a.base; number = veil (is_in B a.recipients) a.number })

  abbrev pub hide : Channel → Channel
  hide c =
      record { code = c.code; entitled = c.entitled; holder = c.holder; presser = c.presser; quiet = c.quiet; release = c.release; ring = c.ring; call = hide_call c.call; arrival = hide_arrival c.arrival }

  abbrev pub hide_notice : Bool → Notice → Notice
  hide_notice t (PressAnswer on) = PressAnswer on
  hide_notice t (Incoming on) = Incoming on
  hide_notice t (BaseArrival k b n o) = BaseArrival k b (veil t n) o
  hide_notice t (CallNotice k d b s st r) = CallNotice k d b (veil t s) st r
  hide_notice t (PressNotice k o) = PressNotice k o
  hide_notice t (CallerNotice k b n o) = CallerNotice k b (veil t n) o
  hide_notice t (CaptureReply r) = CaptureReply r
  hide_notice t (CaptureState h s) = CaptureState h s
  hide_notice t (RingNotice n) = RingNotice (veil t n)
  hide_notice t (AnswerReply r) = AnswerReply r
  hide_notice t (CallResult r) = CallResult r

  abbrev pub hide_send : Send → Send
  hide_send s = to s.recipients (hide_notice (is_in B s.recipients) s.notice)

  abbrev pub hide_sends : List Send → List Send
  hide_sends = map hide_send

  abbrev pub hide_step : Step → Step
  hide_step st = step (hide st.next) (hide_sends st.sends)
