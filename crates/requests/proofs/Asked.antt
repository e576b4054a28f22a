-- What an entry asks: the rows 7 to 11 as the code asks them.
-- Assumes nothing.
use Prim.Native.Nat.{ℕ}
use mathlib.Core.List.{List}
use mathlib.Core.Bool.{Bool, true, false, ◌&&◌, not, cond}
use mathlib.Core.Path.{◌≡◌, refl, sym, ◌∙◌}
use native.Mathlib.Omega.{arith}
use lib.Dec.{eqb, leb, ltb}
use lib.ListN.{length, drop, drop_of_length-le}
use borrow.Author.Tests.{lt-ltb, leb-false, ltb-true}
use Rattle.std.specs.Prelude.{Option, Result, Ok, Err}
use Rattle.telegram.specs.Telegram.{row_of}
use Rattle.telegram.specs.declared.message.Message.{Message}
use Rattle.telegram.specs.declared.message.Message.TheVariants.{TimeNotice, RingAnswer, OperationAnswer, TimeRequest, BaseArrival, RingNotice, AnswerReply, OperationRequest, Call, CallerNotice, CallResult, CaptureRequest, CaptureReply, CaptureState}
use Rattle.telegram.specs.Telegram.{Reading}
use Rattle.telegram.specs.declared.message.ReadError.TheVariants.{Header, Identifier, Body}
use Rattle.telegram.specs.declared.message.Number.{Number}
use Rattle.channel.specs.declared.state.Event.TheVariants.{MobileOff as GoesOff}
use Rattle.set_state.specs.declared.state.Desk.{Desk}
use Rattle.set_state.specs.declared.state.Entry.{Entry}
use Rattle.set_state.specs.declared.state.Entry.TheVariants.{Telegram as Letter, Press, Cut, MobileOn, MobileOff, Tick, Plan, Handover, MobileCall, MobileCancel}
use Rattle.set_rules.specs.Entries.{entry_kind}
use Rattle.set_rules.specs.Refusals.{is_kind, from_desk, desk_sends, code_is, identifier_is, body_reads, asked_by, asked_in, phase_of}
use Rattle.set_state.specs.declared.state.Request.{Request}
use Rattle.set_state.specs.declared.state.Request.TheVariants.{OfLink as LinkIs, OnChannel as ChannelIs, AnswersRing as RingIs, Foreign}
use Rattle.telegram_requests.specs.Asking.{asking, telegram_asked}
use Rattle.telegram_requests.specs.declared.request.Asked.{Asked}
use Rattle.telegram_requests.specs.declared.request.Asked.TheVariants.{OfLink, OfLine}
use Rattle.telegram_requests.specs.declared.request.LineRequest.TheVariants.{OnChannel, AnswersRing}
use Rattle.requests.specs.Asking.{in_phase, event_of, unless}
use Rattle.requests.specs.Promises.{ForeignRefused}

-- a desk that is there, or none that is asked for
pub desk_there : (t : Bool) (n d : ℕ) → (t && leb n d) ≡ false → (t && not (ltb d n)) ≡ false
desk_there true n d h = rw (lt-ltb d n (leb-false n d h)) refl
desk_there false n d h = refl

-- from the fifth byte on, or from the end of fewer
pub past_five : (e : List ℕ) → drop (cond (ltb (length e) 5) (length e) 5) e ≡ drop 5 e
past_five e = go (ltb (length e) 5) refl
  where
    go : (t : Bool) → ltb (length e) 5 ≡ t → drop (cond (ltb (length e) 5) (length e) 5) e ≡ drop 5 e
    go true k = rw k (drop_of_length-le e {i = length e} (omega arith) ∙ sym (drop_of_length-le e {i = 5} (omega (arith, ltb-true (length e) 5 k))))
    go false k = rw k refl

-- a desk sends what asks for something
asks : Request → Bool
asks (LinkIs q) = true
asks (ChannelIs ch n v) = true
asks (RingIs m) = true
asks Foreign = false

sent-asks : (d : ℕ) (m : Message) → desk_sends (row_of m).id ≡ asks (asked_by d m)
unfolding asks
sent-asks d (TimeNotice m) = refl
sent-asks d (RingAnswer m) = refl
sent-asks d (OperationAnswer m) = refl
sent-asks d TimeRequest = refl
sent-asks d (BaseArrival m) = refl
sent-asks d (RingNotice m) = refl
sent-asks d (AnswerReply m) = refl
sent-asks d OperationRequest = refl
sent-asks d (Call m) = refl
sent-asks d (CallerNotice m) = refl
sent-asks d (CallResult m) = refl
sent-asks d (CaptureRequest m) = refl
sent-asks d (CaptureReply m) = refl
sent-asks d (CaptureState m) = refl

-- what is asked, by a test of the phase
in_time : (t : Bool) (a : Result Asked ℕ) → cond t a (Err 11) ≡ unless (cond (not t) 11 0) a
in_time true a = refl
in_time false a = refl

-- a request, and the phase that it needs
phase_form : (phase : ℕ) (q : Request)
    → in_phase phase (asking q) ≡ unless (cond (not (asks q)) 9 (cond (not (eqb phase (phase_of q))) 11 0)) (asking q)
unfolding asks
phase_form phase (LinkIs q) = in_time (eqb phase (phase_of (LinkIs q))) (Ok (OfLink q))
phase_form phase (ChannelIs ch n v) = in_time (eqb phase 3) (Ok (OfLine (OnChannel ch n v)))
phase_form phase (RingIs m) = in_time (eqb phase 3) (Ok (OfLine (AnswersRing m)))
phase_form phase Foreign = refl

-- a telegram that does not read: whether its code is right, and whether a desk sends its identifier
unread_form : (t u : Bool) → ◌≡◌ {A = Result Asked ℕ} (Err (cond t (cond u 10 9) 8)) (unless (cond (not t) 8 (cond (not u) 9 10)) (Err 9))
unread_form true true = refl
unread_form true false = refl
unread_form false u = refl

unread_refused : (t u : Bool) → ◌≡◌ {A = ℕ} (cond (not t) 8 (cond (not u) 9 10)) 0 → ⊥
unread_refused true true h = omega arith
unread_refused true false h = omega arith
unread_refused false u h = omega arith

-- the rows 8 to 11 of a telegram
pub telegram_form : (d k phase : ℕ) (r : Reading)
    → in_phase phase (telegram_asked d k r)
    ≡ unless
    (cond (not (code_is k r)) 8
    (cond (not (identifier_is r)) 9 (cond (not (body_reads r)) 10 (cond (not (eqb phase (phase_of (asked_in d r)))) 11 0))))
    (asking (asked_in d r))
telegram_form d k phase (Ok r) = go (eqb r.code k)
  where
    go : (t : Bool)
        → in_phase phase (cond t (asking (asked_by d r.message)) (Err 8))
        ≡ unless
        (cond (not t) 8 (cond (not (desk_sends (row_of r.message).id)) 9 (cond (not (eqb phase (phase_of (asked_by d r.message)))) 11 0)))
        (asking (asked_by d r.message))
    go true = rw (sent-asks d r.message) (phase_form phase (asked_by d r.message))
    go false = refl
telegram_form d k phase (Err Header) = refl
telegram_form d k phase (Err (Identifier c i)) = unread_form (eqb c k) false
telegram_form d k phase (Err (Body c i)) = unread_form (eqb c k) (desk_sends i)

pub foreign_refused : ForeignRefused
unfolding asks
foreign_refused d k phase (Ok r) f z = go (eqb r.code k) (rw (sent-asks d r.message, f) at z)
  where
    go : (t : Bool) → ◌≡◌ {A = ℕ} (cond (not t) 8 (cond (not (asks Foreign)) 9 (cond (not (eqb phase 3)) 11 0))) 0 → ⊥
    go true h = omega arith
    go false h = omega arith
foreign_refused d k phase (Err Header) f z = unread_refused false false z
foreign_refused d k phase (Err (Identifier c i)) f z = unread_refused (eqb c k) false z
foreign_refused d k phase (Err (Body c i)) f z = unread_refused (eqb c k) (desk_sends i) z

-- ---- kinds that no arm of a match names

pub no_telegram : (x : Entry) → ((d : ℕ) → x ≡ Letter d → ⊥) → false ≡ is_kind 1 (Ok x)
unfolding entry_kind
no_telegram (Letter d) p = absurd (p d refl)
no_telegram (Press d ch on) p = refl
no_telegram (Cut d ch) p = refl
no_telegram (MobileOn ch b n) p = refl
no_telegram (MobileOff ch) p = refl
no_telegram Tick p = refl
no_telegram Plan p = refl
no_telegram Handover p = refl
no_telegram (MobileCall ch b n m) p = refl
no_telegram (MobileCancel ch) p = refl

pub no_desk_asks : (x : Entry) → ((d : ℕ) → x ≡ Letter d → ⊥) → ((d ch on : ℕ) → x ≡ Press d ch on → ⊥) → ((d ch : ℕ) → x ≡ Cut d ch → ⊥) → false ≡ from_desk (Ok x)
unfolding entry_kind
no_desk_asks (Letter d) p q r = absurd (p d refl)
no_desk_asks (Press d ch on) p q r = absurd (q d ch on refl)
no_desk_asks (Cut d ch) p q r = absurd (r d ch refl)
no_desk_asks (MobileOn ch b n) p q r = refl
no_desk_asks (MobileOff ch) p q r = refl
no_desk_asks Tick p q r = refl
no_desk_asks Plan p q r = refl
no_desk_asks Handover p q r = refl
no_desk_asks (MobileCall ch b n m) p q r = refl
no_desk_asks (MobileCancel ch) p q r = refl

pub off_else : (ds : List Desk) (n : ℕ) (own : Number) (x : Entry)
    → ((d ch on : ℕ) → x ≡ Press d ch on → ⊥) → ((d ch : ℕ) → x ≡ Cut d ch → ⊥) → ((ch b : ℕ) (k : Option ℕ) → x ≡ MobileOn ch b k → ⊥)
    → ((ch b : ℕ) (k m : Option ℕ) → x ≡ MobileCall ch b k m → ⊥) → ((ch : ℕ) → x ≡ MobileCancel ch → ⊥) → GoesOff ≡ event_of ds n (Ok x) own
unfolding entry_kind
off_else ds n own (Letter d) p q r s t = refl
off_else ds n own (Press d ch on) p q r s t = absurd (p d ch on refl)
off_else ds n own (Cut d ch) p q r s t = absurd (q d ch refl)
off_else ds n own (MobileOn ch b k) p q r s t = absurd (r ch b k refl)
off_else ds n own (MobileOff ch) p q r s t = refl
off_else ds n own Tick p q r s t = refl
off_else ds n own Plan p q r s t = refl
off_else ds n own Handover p q r s t = refl
off_else ds n own (MobileCall ch b k m) p q r s t = absurd (s ch b k m refl)
off_else ds n own (MobileCancel ch) p q r s t = absurd (t ch refl)
