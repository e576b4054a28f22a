-- Records as they read: what stands among the bytes written, and what the rules name.
use Rattle.std.specs.Prelude.{ℕ, zero, suc, List, [], ◌∷◌, ◌++◌, map, ◌&&◌, cond, eqb, length, drop, get_or, Ok, Err}
use Rattle.telegram.specs.Telegram.{read_telegram}
use Rattle.telegram.specs.declared.message.Message.{Message}
use Rattle.telegram.specs.declared.message.Message.TheVariants.{TimeNotice, RingAnswer, OperationAnswer, TimeRequest, BaseArrival, RingNotice, AnswerReply, OperationRequest, Call, CallerNotice, CallResult, CaptureRequest, CaptureReply, CaptureState}
use Rattle.telegram.specs.Telegram.{Reading}
use Rattle.channel.specs.State.{is_in}
use Rattle.line_rules.specs.Notices.{Content, telegram, contact}
use Rattle.set_state.specs.State.{no_desk}
use Rattle.frames.specs.Bytes.{byte}
use Rattle.set_state.specs.declared.state.Desk.{Desk}
use Rattle.set_rules.specs.Records.{Delivery}
use Rattle.set_rules.specs.Feeds.{records_in}

-- what a record is: a telegram to a desk, under a code; a contact to a desk, with its kind, channel and on; or neither
pub data Letter : Type 0 where
  says : ℕ → ℕ → Message → Letter
  rings : ℕ → ℕ → ℕ → ℕ → Letter
  unread : Letter

-- ---- among bytes

abbrev pub said_to : ℕ → Reading → Letter
said_to d (Ok t) = says d t.code t.message
said_to d (Err e) = unread

-- "length .., version 1, desk, then 1 and a telegram under that desk's code, or 2 and a contact (..; channel; on)"
abbrev pub read_record : List ℕ → Letter
read_record r =
    cond (eqb (byte r 2) 1)
    (cond (eqb (byte r 4) 1) (said_to (byte r 3) (read_telegram (drop 5 r)))
    (cond (eqb (byte r 4) 2 && eqb (length r) 8) (rings (byte r 3) (byte r 5) (byte r 6) (byte r 7)) unread))
    unread

abbrev pub letters_in : List ℕ → List Letter
letters_in bs = map read_record (records_in bs)

-- ---- as the rules name them

-- to a desk, under its code
abbrev pub letter_for : List Desk → ℕ → Content → Letter
letter_for ds d (telegram m) = says d (get_or ds d no_desk).code m
letter_for ds d (contact k ch on) = rings d k ch on

-- "each record goes to every desk of the set, lowest desk first", from a place on
unfoldable pub letters_to : ℕ → ℕ → List Desk → Delivery → List Letter
letters_to zero d ds v = []
letters_to (suc k) d ds v = cond (is_in d v.recipients) (letter_for ds d (v.content d) ∷ []) [] ++ letters_to k (suc d) ds v

unfoldable pub letters_of : List Desk → List Delivery → List Letter
letters_of ds [] = []
letters_of ds (v ∷ vs) = letters_to 8 0 ds v ++ letters_of ds vs

-- ---- what a telegram names

-- its channel, if it names one
abbrev pub channel_named : Message → List ℕ
channel_named (TimeNotice m) = []
channel_named (RingAnswer m) = m.channel ∷ []
channel_named (OperationAnswer m) = []
channel_named TimeRequest = []
channel_named (BaseArrival m) = m.channel ∷ []
channel_named (RingNotice m) = m.channel ∷ []
channel_named (AnswerReply m) = m.channel ∷ []
channel_named OperationRequest = []
channel_named (Call m) = m.channel ∷ []
channel_named (CallerNotice m) = m.channel ∷ []
channel_named (CallResult m) = m.channel ∷ []
channel_named (CaptureRequest m) = m.channel ∷ []
channel_named (CaptureReply m) = m.channel ∷ []
channel_named (CaptureState m) = m.channel ∷ []
