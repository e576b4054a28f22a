-- The reader's steps: what the header says; then whether the table has the identifier, and its row. They serve the contracts of the
-- reader's inner functions. `proofs/StepLaws.antt` shows that those by the table together are `read_in`, and the contract of `read`
-- cites `read_telegram` alone.
use Rattle.std.specs.Prelude.{ℕ, List, [], ◌∷◌, cond, eqb, Option, Some, None}
use Rattle.telegram.specs.Telegram.{Row, time_notice, ring_answer, operation_answer, time_request, base_arrival, ring_notice, answer_reply, operation_request, call, caller_notice, call_result, capture_request, capture_reply, capture_state, nth, heading, header_ok}
use Rattle.telegram_reader.specs.declared.reader.Identifier.{Identifier}
use Rattle.telegram_reader.specs.declared.reader.Identifier.TheVariants.{TimeNotice, RingAnswer, OperationAnswer, TimeRequest, BaseArrival, RingNotice, AnswerReply, OperationRequest, Call, CallerNotice, CallResult, CaptureRequest, CaptureReply, CaptureState}

-- the organisation code, if all is right with the header
abbrev pub header_of : List ℕ → Option ℕ
header_of s = cond (header_ok s) (Some (nth (heading s) 1)) None

-- the identifiers, in the order of the table, and the row of each
abbrev pub identifiers : List Identifier
identifiers =
    TimeNotice ∷ RingAnswer ∷ OperationAnswer ∷ TimeRequest ∷ BaseArrival ∷ RingNotice ∷ AnswerReply ∷ OperationRequest ∷ Call ∷ CallerNotice ∷ CallResult ∷ CaptureRequest ∷ CaptureReply ∷ CaptureState ∷ []

abbrev pub row_for : Identifier → Row
row_for TimeNotice = time_notice
row_for RingAnswer = ring_answer
row_for OperationAnswer = operation_answer
row_for TimeRequest = time_request
row_for BaseArrival = base_arrival
row_for RingNotice = ring_notice
row_for AnswerReply = answer_reply
row_for OperationRequest = operation_request
row_for Call = call
row_for CallerNotice = caller_notice
row_for CallResult = call_result
row_for CaptureRequest = capture_request
row_for CaptureReply = capture_reply
row_for CaptureState = capture_state

abbrev pub known_in : List Identifier → ℕ → Option Identifier
known_in [] i = None
known_in (k ∷ ks) i = cond (eqb i (row_for k).id) (Some k) (known_in ks i)
