-- What a record says, and what of it is made once for all desks that it goes to.
use Rattle.std.specs.Prelude.{ℕ, ◌+◌, List, cond, eqb, replicate}
use Rattle.std.proofs.lemmas.List.Edits.{sets}
use Rattle.numerals.specs.Digits.{digits_of}
use Rattle.telegram.specs.Telegram.{telegram_of, num}
use Rattle.telegram.specs.declared.message.Number.{Number}
use Rattle.telegram.specs.declared.message.Message.TheVariants.{TimeRequest as AskTime, OperationRequest as AskOperation}
use Rattle.telegram_forms.specs.Forms.{padded}
use Rattle.line_rules.specs.Notices.{Content, telegram, contact, content_for}
use Rattle.channel.specs.declared.state.Notice.TheVariants.{PressAnswer, Incoming, BaseArrival, Call, PressNotice, CallerNotice, CaptureReply, CaptureState, RingNotice, AnswerReply, CallResult}
use Rattle.channel.specs.declared.state.Send.{Send}
use Rattle.set_state.specs.State.{own_of}
use Rattle.set_rules.specs.Records.{Delivery}
use Rattle.set_state.specs.declared.state.Desk.{Desk}
use Rattle.bodies.specs.declared.body.Body.{Body}
use Rattle.bodies.specs.declared.body.Body.TheVariants.{About, TimeRequest, OperationRequest}
use Rattle.bodies.specs.declared.shape.Own.{Own}
use Rattle.bodies.specs.declared.shape.Own.TheVariants.{Nobody, Everyone, Holder}
use Rattle.bodies.specs.declared.shape.Shape.{Shape}
use Rattle.bodies.specs.declared.shape.Shape.TheVariants.{Contact, Telegram}

-- what a body says to a desk with its own number
abbrev pub body_for : ℕ → Number → Body → Content
body_for d own (About ch n) = content_for d own ch n
body_for d own TimeRequest = telegram AskTime
body_for d own OperationRequest = telegram AskOperation

-- one body to the desks of a set
abbrev pub delivery : List Desk → ℕ → Body → Delivery
delivery ds m b = record { recipients = m; content = λ d. body_for d (own_of ds d) b }

-- one send of a channel
abbrev pub delivery_of : List Desk → ℕ → Send → Delivery
delivery_of ds ch s = delivery ds s.recipients (About ch s.notice)

-- ---- what is made once for all desks

-- what a record with a body holds, with the size of the whole record
abbrev pub shape_of : Body → Shape
shape_of (About ch (PressAnswer on)) = Contact 1 ch on
shape_of (About ch (Incoming on)) = Contact 2 ch on
shape_of (About ch (BaseArrival k b n o)) = Telegram Nobody 37
shape_of (About ch (Call k d b s t r)) = Telegram Nobody 51
shape_of (About ch (PressNotice k o)) = Telegram (Everyone 24) 38
shape_of (About ch (CallerNotice k b n o)) = Telegram Nobody 38
shape_of (About ch (CaptureReply r)) = Telegram Nobody 25
shape_of (About ch (CaptureState h s)) = Telegram (Holder h) 34
shape_of (About ch (RingNotice n)) = Telegram (Everyone 30) 43
shape_of (About ch (AnswerReply r)) = Telegram Nobody 25
shape_of (About ch (CallResult r)) = Telegram (Everyone 22) 35
shape_of TimeRequest = Telegram Nobody 21
shape_of OperationRequest = Telegram Nobody 21

abbrev pub size_in : Shape → ℕ
size_in (Contact k ch on) = 8
size_in (Telegram o size) = size

abbrev pub content_form : Content → List ℕ
content_form (telegram m) = padded (telegram_of 0 m)
content_form (contact k ch on) = replicate 46 0

-- a body's telegram, under code 0 and with the none-number for an own number; a contact has none
abbrev pub form_of : Body → List ℕ
form_of b = content_form (body_for 0 (num 0) b)

-- the own number is eight digits from a place on: 24 in a 550477, 30 in a 550468, 22 in a 550480, and 20 in a 550651
abbrev pub numbered_for : Own → ℕ → Number → List ℕ → List ℕ
numbered_for Nobody d own t = t
numbered_for (Everyone at) d own t = sets t at (digits_of 8 own.digits)
numbered_for (Holder h) d own t = cond (eqb h d) (sets t 20 (digits_of 8 own.digits)) t

abbrev pub own_end : Own → ℕ
own_end Nobody = 0
own_end (Everyone at) = at + 8
own_end (Holder h) = 28
