-- How long telegrams are.
-- Assumes nothing.
use mathlib.Core.Path.{◌≡◌, refl}
use native.Mathlib.Omega.{arith}
use lib.Dec.{lit≤}
use lib.ListN.{length, length-append}
use Rattle.numerals.proofs.Kept.{length_digits}
use Rattle.fields.proofs.Kept.{length-bytes}
use Rattle.telegram.specs.Telegram.{row_of, values_of, telegram_of}
use Rattle.telegram.specs.Promises.{Sized, AtMost46}
use Rattle.telegram.specs.declared.message.Message.{Message}
use Rattle.telegram.specs.declared.message.Message.TheVariants.{TimeNotice, RingAnswer, OperationAnswer, TimeRequest, BaseArrival, RingNotice, AnswerReply, OperationRequest, Call, CallerNotice, CallResult, CaptureRequest, CaptureReply, CaptureState}

-- the longest is a call start or end
pub size-most : AtMost46
size-most (TimeNotice m) = lit≤ tt
size-most (RingAnswer m) = lit≤ tt
size-most (OperationAnswer m) = lit≤ tt
size-most TimeRequest = lit≤ tt
size-most (BaseArrival m) = lit≤ tt
size-most (RingNotice m) = lit≤ tt
size-most (AnswerReply m) = lit≤ tt
size-most OperationRequest = lit≤ tt
size-most (Call m) = lit≤ tt
size-most (CallerNotice m) = lit≤ tt
size-most (CallResult m) = lit≤ tt
size-most (CaptureRequest m) = lit≤ tt
size-most (CaptureReply m) = lit≤ tt
size-most (CaptureState m) = lit≤ tt

-- a body has a number for each field
counts : (m : Message) → length (row_of m).body ≡ length (values_of m)
counts (TimeNotice m) = refl
counts (RingAnswer m) = refl
counts (OperationAnswer m) = refl
counts TimeRequest = refl
counts (BaseArrival m) = refl
counts (RingNotice m) = refl
counts (AnswerReply m) = refl
counts OperationRequest = refl
counts (Call m) = refl
counts (CallerNotice m) = refl
counts (CallResult m) = refl
counts (CaptureRequest m) = refl
counts (CaptureReply m) = refl
counts (CaptureState m) = refl

-- a telegram is as long as it says
pub length-telegram : Sized
unfolding telegram_of
length-telegram c m = simp (length-append, length_digits, length-bytes (row_of m).body (values_of m) (counts m)) (omega arith)
