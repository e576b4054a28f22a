-- 01, Telegrams: the table, what bytes read as, and how a message is written.
use Rattle.std.specs.Prelude.{ℕ, ◌+◌, List, [], ◌∷◌, ◌++◌, Bool, ◌&&◌, cond, leb, eqb, length, take, drop, get_or, Some, None, Result, Ok, Err}
use Rattle.numerals.specs.Digits.{digits_of, all_digits, value_of}
use Rattle.fields.specs.Fields.{Field, length4, code, channel, base, call_type, direction, reason, len, number, flag, year, month, day, hour, minute, second, body_ok, values_in, all_in, bytes_of, body_size}
use Rattle.telegram.specs.declared.message.Number.{Number}
use Rattle.telegram.specs.declared.message.Ring.{Ring}
use Rattle.telegram.specs.declared.message.Reply.{Reply}
use Rattle.telegram.specs.declared.message.Message.{Message}
use Rattle.telegram.specs.declared.message.Message.TheVariants.{TimeNotice, RingAnswer, OperationAnswer, TimeRequest, BaseArrival, RingNotice, AnswerReply, OperationRequest, Call, CallerNotice, CallResult, CaptureRequest, CaptureReply, CaptureState}
use Rattle.telegram.specs.declared.message.Telegram.{Telegram}
use Rattle.telegram.specs.declared.message.ReadError.{ReadError}
use Rattle.telegram.specs.declared.message.ReadError.TheVariants.{Header, Identifier, Body}
use Rattle.telegram.specs.declared.message.WriteError.{WriteError}
use Rattle.telegram.specs.declared.message.WriteError.TheVariants.{OutOfRange, NoRoom}

-- ---- the table

-- A row: the identifier, the body's fields in their order, and the message that their numbers make.
pub record Row : Type 0 where
  pub id : ℕ
  pub body : List Field
  pub make : List ℕ → Message

abbrev pub row : ℕ → List Field → (List ℕ → Message) → Row
row i fs f = record { id = i; body = fs; make = f }

abbrev pub num : ℕ → Number
num n = record { digits = n }

-- the i-th number of a body, from 0
abbrev pub nth : List ℕ → ℕ → ℕ
nth v i = get_or v i 0

-- "550411 time notice: YYYYMMDDhhmmss"
abbrev pub time_notice : Row
time_notice = row 550411 (year ∷ month ∷ day ∷ hour ∷ minute ∷ second ∷ [])
    (λ v. TimeNotice (record { year = nth v 0; month = nth v 1; day = nth v 2; hour = nth v 3; minute = nth v 4; second = nth v 5 }))

-- what a ring notice and the answer to it say, byte for byte the same
abbrev pub ring_body : List Field
ring_body = channel ∷ call_type ∷ len ∷ number ∷ len ∷ number ∷ []

abbrev pub ring_of : List ℕ → Ring
ring_of v = record { channel = nth v 0; kind = nth v 1; source = num (nth v 3); destination = num (nth v 5) }

-- what an answer reply and a capture reply say, the same too
abbrev pub reply_body : List Field
reply_body = channel ∷ flag ∷ []

abbrev pub reply_of : List ℕ → Reply
reply_of v = record { channel = nth v 0; result = nth v 1 }

-- "550419 ring answer: CH, type, len, source, len, destination" (02 §1, filled as document 000 has it)
abbrev pub ring_answer : Row
ring_answer = row 550419 ring_body (λ v. RingAnswer (ring_of v))

-- "550421 operation answer: system, state"
abbrev pub operation_answer : Row
operation_answer = row 550421 (flag ∷ flag ∷ []) (λ v. OperationAnswer (record { system = nth v 0; state = nth v 1 }))

-- "550461 time request: none"
abbrev pub time_request : Row
time_request = row 550461 [] (λ v. TimeRequest)

-- "550464 base arrival: CH, base, type, number, order"
abbrev pub base_arrival : Row
base_arrival = row 550464 (channel ∷ base ∷ call_type ∷ number ∷ flag ∷ [])
    (λ v. BaseArrival (record { channel = nth v 0; base = nth v 1; kind = nth v 2; number = num (nth v 3); order = nth v 4 }))

-- "550468 ring notice: CH, type, len, source, len, destination" (02 §1, filled as document 000 has it)
abbrev pub ring_notice : Row
ring_notice = row 550468 ring_body (λ v. RingNotice (ring_of v))

-- "550469 answer reply: CH, result" (02 §1, filled as document 000 has it)
abbrev pub answer_reply : Row
answer_reply = row 550469 reply_body (λ v. AnswerReply (reply_of v))

-- "550471 operation request: none"
abbrev pub operation_request : Row
operation_request = row 550471 [] (λ v. OperationRequest)

-- "550473 call start/end: CH, base, type, media, direction, start, reason, len, source, len, destination"
abbrev pub call : Row
call = row 550473 (channel ∷ base ∷ call_type ∷ flag ∷ direction ∷ flag ∷ reason ∷ len ∷ number ∷ len ∷ number ∷ [])
    (λ v. Call (record { channel = nth v 0; base = nth v 1; kind = nth v 2; media = nth v 3; direction = nth v 4; start = nth v 5; reason = nth v 6; source = num (nth v 8); destination = num (nth v 10) }))

-- "550477 caller notice: CH, base, type, direction, number, order"
abbrev pub caller_notice : Row
caller_notice = row 550477 (channel ∷ base ∷ call_type ∷ direction ∷ number ∷ flag ∷ [])
    (λ v. CallerNotice (record { channel = nth v 0; base = nth v 1; kind = nth v 2; direction = nth v 3; number = num (nth v 4); order = nth v 5 }))

-- "550480 call result: CH, type, result, len, destination" (02 §1, filled as document 000 has it)
abbrev pub call_result : Row
call_result = row 550480 (channel ∷ call_type ∷ flag ∷ len ∷ number ∷ [])
    (λ v. CallResult (record { channel = nth v 0; kind = nth v 1; result = nth v 2; destination = num (nth v 4) }))

-- "550600 capture request: CH, len, number, order"
abbrev pub capture_request : Row
capture_request = row 550600 (channel ∷ len ∷ number ∷ flag ∷ [])
    (λ v. CaptureRequest (record { channel = nth v 0; number = num (nth v 2); order = nth v 3 }))

-- "550650 capture reply: CH, result"
abbrev pub capture_reply : Row
capture_reply = row 550650 reply_body (λ v. CaptureReply (reply_of v))

-- "550651 capture state: CH, len, number, state"
abbrev pub capture_state : Row
capture_state = row 550651 (channel ∷ len ∷ number ∷ flag ∷ [])
    (λ v. CaptureState (record { channel = nth v 0; number = num (nth v 2); state = nth v 3 }))

abbrev pub table : List Row
table =
    time_notice ∷ ring_answer ∷ operation_answer ∷ time_request ∷ base_arrival ∷ ring_notice ∷ answer_reply ∷ operation_request ∷ call
    ∷ caller_notice ∷ call_result ∷ capture_request ∷ capture_reply ∷ capture_state ∷ []

-- ---- reading

-- a message under an organisation code, or why bytes read as none
abbrev pub Reading : Type 0
Reading = Result Telegram ReadError

abbrev pub under : ℕ → Message → Telegram
under c m = record { code = c; message = m }

-- the length and the organisation code that a header gives
abbrev pub heading : List ℕ → List ℕ
heading s = values_in (length4 ∷ code ∷ []) (take 8 (drop 2 s))

-- 8: "under 16 bytes, not "DV", length field wrong, code not 0000 to 1023"
unfoldable pub header_ok : List ℕ → Bool
header_ok s =
    leb 16 (length s)
    && eqb (get_or s 0 0) 68
    && eqb (get_or s 1 0) 86
    && body_ok (length4 ∷ code ∷ []) 0 0 (take 8 (drop 2 s))
    && eqb (nth (heading s) 0) (length s)

-- 10: "body size or a field's range wrong"
abbrev pub read_row : Row → ℕ → List ℕ → Reading
read_row r c b = cond (body_ok r.body 0 0 b) (Ok (under c (r.make (values_in r.body b)))) (Err (Body c r.id))

-- 9: "identifier not in the table"
abbrev pub read_in : List Row → ℕ → ℕ → List ℕ → Reading
read_in [] c i b = Err (Identifier c (Some i))
read_in (r ∷ rs) c i b = cond (eqb i r.id) (read_row r c b) (read_in rs c i b)

abbrev pub read_identified : ℕ → List ℕ → Reading
read_identified c s =
    cond (all_digits (take 6 (drop 10 s))) (read_in table c (value_of (take 6 (drop 10 s))) (drop 16 s)) (Err (Identifier c None))

-- what any bytes read as
unfoldable pub read_telegram : List ℕ → Reading
read_telegram s = cond (header_ok s) (read_identified (nth (heading s) 1) s) (Err Header)

-- ---- writing

-- a message's row and its body's numbers
abbrev pub row_of : Message → Row
row_of (TimeNotice m) = time_notice
row_of (RingAnswer m) = ring_answer
row_of (OperationAnswer m) = operation_answer
row_of TimeRequest = time_request
row_of (BaseArrival m) = base_arrival
row_of (RingNotice m) = ring_notice
row_of (AnswerReply m) = answer_reply
row_of OperationRequest = operation_request
row_of (Call m) = call
row_of (CallerNotice m) = caller_notice
row_of (CallResult m) = call_result
row_of (CaptureRequest m) = capture_request
row_of (CaptureReply m) = capture_reply
row_of (CaptureState m) = capture_state

abbrev pub values_of : Message → List ℕ
values_of (TimeNotice m) = m.year ∷ m.month ∷ m.day ∷ m.hour ∷ m.minute ∷ m.second ∷ []
values_of (RingAnswer m) = m.channel ∷ m.kind ∷ 8 ∷ m.source.digits ∷ 8 ∷ m.destination.digits ∷ []
values_of (OperationAnswer m) = m.system ∷ m.state ∷ []
values_of TimeRequest = []
values_of (BaseArrival m) = m.channel ∷ m.base ∷ m.kind ∷ m.number.digits ∷ m.order ∷ []
values_of (RingNotice m) = m.channel ∷ m.kind ∷ 8 ∷ m.source.digits ∷ 8 ∷ m.destination.digits ∷ []
values_of (AnswerReply m) = m.channel ∷ m.result ∷ []
values_of OperationRequest = []
values_of (Call m) =
    m.channel ∷ m.base ∷ m.kind ∷ m.media ∷ m.direction ∷ m.start ∷ m.reason ∷ 8 ∷ m.source.digits ∷ 8 ∷ m.destination.digits ∷ []
values_of (CallerNotice m) = m.channel ∷ m.base ∷ m.kind ∷ m.direction ∷ m.number.digits ∷ m.order ∷ []
values_of (CallResult m) = m.channel ∷ m.kind ∷ m.result ∷ 8 ∷ m.destination.digits ∷ []
values_of (CaptureRequest m) = m.channel ∷ 8 ∷ m.number.digits ∷ m.order ∷ []
values_of (CaptureReply m) = m.channel ∷ m.result ∷ []
values_of (CaptureState m) = m.channel ∷ 8 ∷ m.number.digits ∷ m.state ∷ []

-- "length of the whole telegram"
abbrev pub size_of : Message → ℕ
size_of m = 16 + body_size (row_of m).body

-- "Header, 16 bytes: "DV"; length of the whole telegram, 4 digits; organisation code, 4 digits; identifier, 6 digits. Then the body"
abbrev pub headed : ℕ → ℕ → ℕ → List ℕ → List ℕ
headed n c i b = 68 ∷ 86 ∷ digits_of 4 n ++ (digits_of 4 c ++ (digits_of 6 i ++ b))

unfoldable pub telegram_of : ℕ → Message → List ℕ
telegram_of c m = headed (size_of m) c (row_of m).id (bytes_of (row_of m).body (values_of m))

-- each number can stand in its field
abbrev pub in_range : Message → Bool
in_range m = all_in (row_of m).body 0 0 (values_of m)

abbrev pub sendable : ℕ → Message → Bool
sendable c m = leb c 1023 && in_range m

-- "The writer gives 10 for a value out of range, then 16": its answer at a buffer's length
abbrev pub Written : Type 0
Written = Result ℕ WriteError

unfoldable pub write_answer : ℕ → Message → ℕ → Written
write_answer c m n = cond (sendable c m) (cond (leb (size_of m) n) (Ok (size_of m)) (Err NoRoom)) (Err OutOfRange)

-- bytes at the front of a buffer: "bytes past a written telegram stay as they were"
abbrev pub over : List ℕ → List ℕ → List ℕ
over bs buffer = bs ++ drop (length bs) buffer

-- the buffer after the writer: "each refusal leaves the buffer untouched"
unfoldable pub write_into : ℕ → Message → List ℕ → List ℕ
write_into c m buffer = cond (sendable c m && leb (size_of m) (length buffer)) (over (telegram_of c m) buffer) buffer

-- ---- 01's numbers and values for the answers

abbrev pub refusal_of : ReadError → ℕ
refusal_of Header = 8
refusal_of (Identifier c i) = 9
refusal_of (Body c i) = 10

abbrev pub read_refusal : Reading → ℕ
read_refusal (Ok t) = 0
read_refusal (Err e) = refusal_of e

abbrev pub write_refusal : Written → ℕ
write_refusal (Ok n) = 0
write_refusal (Err OutOfRange) = 10
write_refusal (Err NoRoom) = 16

-- "Each refusal returns count 0"
abbrev pub write_count : Written → ℕ
write_count (Ok n) = n
write_count (Err e) = 0
