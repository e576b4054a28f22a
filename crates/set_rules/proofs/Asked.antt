-- What a telegram asks: of a channel, a capture or a release by its desk; and an answer that matches finds a ring.
-- Assumes nothing.
use Prim.Native.Nat.{ℕ}
use mathlib.Core.Bool.{true}
use mathlib.Core.Path.{◌≡◌}
use lib.Dec.{eqb}
use Rattle.std.specs.Prelude.{Ok, Err}
use Rattle.laws.proofs.Tests.{both, either}
use Rattle.telegram.specs.declared.message.Number.{Number}
use Rattle.telegram.specs.declared.message.Ring.{Ring as RingAnswer}
use Rattle.telegram.specs.declared.message.Message.{Message}
use Rattle.telegram.specs.declared.message.Message.TheVariants.{TimeNotice, RingAnswer as Answers, OperationAnswer, TimeRequest, BaseArrival, RingNotice, AnswerReply, OperationRequest, Call, CallerNotice, CallResult, CaptureRequest, CaptureReply, CaptureState}
use Rattle.telegram.specs.Telegram.{Reading}
use Rattle.channel.specs.declared.state.Channel.{Channel}
use Rattle.channel.specs.declared.state.Event.{Event}
use Rattle.channel.specs.declared.state.Event.TheVariants.{Capture, Release}
use Rattle.line_rules.specs.Rules.{is_ringing}
use Rattle.set_state.specs.declared.state.Request.{Request}
use Rattle.set_state.specs.declared.state.Request.TheVariants.{OfLink, OnChannel, AnswersRing, Foreign}
use Rattle.set_rules.specs.Refusals.{asked_by, asked_in}
use Rattle.set_rules.specs.SetRules.{answers_ring}

-- what holds of the event that a telegram asks for
abbrev pub OnEvent : (Event → Type 0) → Request → Type 0
OnEvent P (OfLink q) = Unit {0}
OnEvent P (OnChannel ch n v) = P v
OnEvent P (AnswersRing m) = Unit {0}
OnEvent P Foreign = Unit {0}

module _ (P : Event → Type 0) (d : ℕ) (captures : P (Capture d)) (releases : P (Release d)) where
  asked_by_lem : (m : Message) → OnEvent P (asked_by d m)
  asked_by_lem (TimeNotice m) = tt
  asked_by_lem (Answers m) = tt
  asked_by_lem (OperationAnswer m) = tt
  asked_by_lem TimeRequest = tt
  asked_by_lem (BaseArrival m) = tt
  asked_by_lem (RingNotice m) = tt
  asked_by_lem (AnswerReply m) = tt
  asked_by_lem OperationRequest = tt
  asked_by_lem (Call m) = tt
  asked_by_lem (CallerNotice m) = tt
  asked_by_lem (CallResult m) = tt
  asked_by_lem (CaptureRequest m) = either P (eqb m.order 1) (Capture d) (Release d) captures releases
  asked_by_lem (CaptureReply m) = tt
  asked_by_lem (CaptureState m) = tt

  pub asked_in_lem : (r : Reading) → OnEvent P (asked_in d r)
  asked_in_lem (Ok t) = asked_by_lem t.message
  asked_in_lem (Err e) = tt

pub answer-rings : (d : ℕ) (own : Number) (m : RingAnswer) (c : Channel) → answers_ring d own m c ≡ true → is_ringing c ≡ true
answer-rings d own m c h =
    let destination = both _ _ h in
    let source = both _ _ destination.0 in
    let called = both _ _ source.0 in
    (both (is_ringing c) _ called.0).0
