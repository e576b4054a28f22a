-- 01, the end of Line rules, and 02 §1: what a notice says to a desk, as a contact or as a telegram.
use Rattle.std.specs.Prelude.{ℕ, cond, eqb}
use Rattle.telegram.specs.Telegram.{num}
use Rattle.telegram.specs.declared.message.Number.{Number}
use Rattle.telegram.specs.declared.message.Message.{Message}
use Rattle.telegram.specs.declared.message.Message.TheVariants.{BaseArrival, RingNotice, AnswerReply, Call, CallerNotice, CallResult, CaptureReply, CaptureState}
use Rattle.line_rules.specs.Rules.{individual, down, up}
use Rattle.channel.specs.declared.state.Notice.{Notice}
use Rattle.channel.specs.declared.state.Notice.TheVariants.{PressAnswer, Incoming, BaseArrival as Arrived, Call as CallNotice, PressNotice, CallerNotice as Talks, CaptureReply as Reply, CaptureState as State, RingNotice as Rung, AnswerReply as Taken, CallResult as Result}

-- "1 and a telegram .., or 2 and a contact (1 press answer or 2 incoming; channel; on)"
pub data Content : Type 0 where
  telegram : Message → Content
  contact : ℕ → ℕ → ℕ → Content

-- What a notice about a channel says to a desk with its own number. "A 550473 carries the call's base, type .., media 0, direction
-- and source, destination the none-number"; "a press's 550477 is down, with base 999 and its desk's own number"; a 550651 has "the
-- holder's number for the holder and the none-number for all others". 02 §1: "the fields and filling of all four new telegrams, are
-- document 000's": type 3, the mobile's number as source, the called desk's own as destination.
abbrev pub content_for : ℕ → Number → ℕ → Notice → Content
content_for desk own ch (PressAnswer on) = contact 1 ch on
content_for desk own ch (Incoming on) = contact 2 ch on
content_for desk own ch (Arrived k b n o) = telegram (BaseArrival (record { channel = ch; base = b; kind = k; number = n; order = o }))
content_for desk own ch (CallNotice k d b s t r) =
    telegram (Call (record { channel = ch; base = b; kind = k; media = 0; direction = d; start = t; reason = r; source = s; destination = num 0 }))
content_for desk own ch (PressNotice k o) =
    telegram (CallerNotice (record { channel = ch; base = 999; kind = k; direction = down; number = own; order = o }))
content_for desk own ch (Talks k b n o) =
    telegram (CallerNotice (record { channel = ch; base = b; kind = k; direction = up; number = n; order = o }))
content_for desk own ch (Reply r) = telegram (CaptureReply (record { channel = ch; result = r }))
content_for desk own ch (State h s) =
    telegram (CaptureState (record { channel = ch; number = cond (eqb h desk) own (num 0); state = s }))
content_for desk own ch (Rung n) = telegram (RingNotice (record { channel = ch; kind = individual; source = n; destination = own }))
content_for desk own ch (Taken r) = telegram (AnswerReply (record { channel = ch; result = r }))
content_for desk own ch (Result r) = telegram (CallResult (record { channel = ch; kind = individual; result = r; destination = own }))
