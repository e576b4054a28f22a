-- A channel in range stays in range, and so is what it sends.
-- Assumes nothing.
use Prim.Native.Nat.{ℕ, ◌^◌, ◌≤◌}
use mathlib.Core.List.{[], ◌++◌}
use mathlib.Core.Bool.{Bool, true, false, ◌||◌, cond}
use mathlib.Core.Logic.{inl, inr}
use mathlib.Core.Path.{◌≡◌, refl}
use native.Mathlib.Omega.{arith}
use lib.Dec.{eqb, leb, ltb}
use borrow.Author.Tests.{le-leb, lt-ltb, leb-true}
use Rattle.std.specs.Prelude.{Option, None, Some}
use Rattle.laws.proofs.Each.{each_append}
use Rattle.laws.proofs.Tests.{both, by_test, either}
use Rattle.fields.specs.Fields.{all_in}
use Rattle.telegram.specs.Telegram.{num}
use Rattle.telegram.specs.declared.message.Number.{Number}
use Rattle.telegram.specs.declared.message.Message.TheVariants.{CaptureReply as Reply, CaptureState as State}
use Rattle.channel.specs.State.{is_held, held_by, is_present}
use Rattle.line_rules.specs.Rules.{Step, step, sent_if, happens, capture, capture_at, cut, release, press_on, press_off, mobile_on, mobile_off, ring, unanswered, answered, ring_answer, tick, tick_ring, tick_idle, tick_quiet, tick_release, freed, end_talk, end_call, is_pressed, is_ringing, opened_by, opening_sends, call_sends, end_of, kind_of, press_off_sends, press_call, mobile_call, ring_call, mobile_off_sends, ring_off_sends, freed_sends, mobile_recipients}
use Rattle.line_rules.specs.Notices.{telegram}
use Rattle.channel.specs.declared.state.Call.{Call}
use Rattle.channel.specs.declared.state.Arrival.{Arrival}
use Rattle.channel.specs.declared.state.Channel.{Channel}
use Rattle.channel.specs.declared.state.Event.{Event}
use Rattle.channel.specs.declared.state.Event.TheVariants.{Capture, Release, Cut, PressOn, PressOff, MobileOn, MobileOff, Ring, Cancel, RingAnswer, Tick, EndTalk, EndCall}
use Rattle.channel.specs.declared.state.Notice.TheVariants.{PressAnswer, Incoming, BaseArrival, Call as CallNotice, PressNotice, CallerNotice, CaptureReply, CaptureState, RingNotice, AnswerReply, CallResult}
use Rattle.line_rules.specs.Invariant.{NumberOk, BaseOk, KindOk, ReasonOk, TalkOk, CallOk, ArrivalOk, InRange, Fits, NoticeOk, SendOk, SendsOk, ContentOk}
use Rattle.line_rules.specs.Promises.{SaysInRange}

-- ---- what a notice in range says

below : (b : ℕ) → BaseOk b → ltb b (10 ^ 3) ≡ true
below b h =
    by_test (leb b 29)
    (λ k. lt-ltb b (10 ^ 3) (omega (arith, leb-true b 29 k)))
    (λ k. lt-ltb b (10 ^ 3) (omega (arith, leb-true b 999 (both (leb 997 b) (leb b 999) (rw k at h)).1)))

-- a planned channel's code stands in its field
channel_in_lem : (ch : ℕ) → ch ≤ 99 → (ltb ch (10 ^ 3) ≡ true) × (leb ch 99 ≡ true)
channel_in_lem ch h = (lt-ltb ch (10 ^ 3) (omega arith), le-leb ch 99 h)

-- a small number stands in a field of one digit
digit_in : (v top : ℕ) → v ≤ top → top ≤ 9 → (ltb v (10 ^ 1) ≡ true) × (leb v top ≡ true)
digit_in v top h k = (lt-ltb v (10 ^ 1) (omega arith), le-leb v top h)

-- so does a call's type
kind_in : (k : ℕ) → KindOk k → (ltb k (10 ^ 1) ≡ true) × ((leb 1 k ≡ true) × (leb k 3 ≡ true))
kind_in k (inl e) = rw e (refl, (refl, refl))
kind_in k (inr e) = rw e (refl, (refl, refl))

reason_in : (r : ℕ) → ReasonOk r → (ltb r (10 ^ 2) ≡ true) × ((leb r 3 || eqb r 5 || eqb r 9) ≡ true)
reason_in r (inl l) = (lt-ltb r (10 ^ 2) (omega arith), rw (le-leb r 3 l) refl)
reason_in r (inr e) = rw e (refl, refl)

-- a channel and a result: both telegrams that have just these
reply_in_lem : (ch r : ℕ) → ch ≤ 99 → r ≤ 1 → ContentOk (telegram (Reply (record { channel = ch; result = r })))
unfolding all_in
reply_in_lem ch r h k =
    let c = channel_in_lem ch h in
    let j = digit_in r 1 k (omega arith) in
    simp (c.0, c.1, j.0, j.1)

abbrev StateOk : ℕ → ℕ → Number → Type 0
StateOk ch s n = ContentOk (telegram (State (record { channel = ch; number = n; state = s })))

pub says_in_range : SaysInRange
unfolding all_in
says_in_range d own ch (PressAnswer on) g h k = tt
says_in_range d own ch (Incoming on) g h k = tt
says_in_range d own ch (BaseArrival kd b n o) g h k =
    let t = k.0 in
    let c = channel_in_lem ch h in
    let i = kind_in kd t.kind-is in
    let j = digit_in o 1 k.1 (omega arith) in
    simp (c.0, c.1, below b t.base_ok, t.base_ok, i.0, i.1.0, i.1.1, lt-ltb n.digits (10 ^ 8) t.number_ok, j.0, j.1)
says_in_range d own ch (CallNotice kd di b s st r) g h k =
    let t = k.0 in
    let c = channel_in_lem ch h in
    let i = kind_in kd t.kind-is in
    let w = digit_in di 2 t.direction_high (omega arith) in
    let j = digit_in st 1 k.1 (omega arith) in
    let q = reason_in r k.2 in
    simp (c.0, c.1, below b t.base_ok, t.base_ok, i.0, i.1.0, i.1.1, w.0, w.1, le-leb 1 di t.direction-low, j.0, j.1, q.0, q.1, lt-ltb s.digits (10 ^ 8) t.number_ok)
says_in_range d own ch (PressNotice kd o) g h k =
    let c = channel_in_lem ch h in
    let i = kind_in kd k.0 in
    let j = digit_in o 1 k.1 (omega arith) in
    simp (c.0, c.1, i.0, i.1.0, i.1.1, lt-ltb own.digits (10 ^ 8) g, j.0, j.1)
says_in_range d own ch (CallerNotice kd b n o) g h k =
    let t = k.0 in
    let c = channel_in_lem ch h in
    let i = kind_in kd t.kind-is in
    let j = digit_in o 1 k.1 (omega arith) in
    simp (c.0, c.1, below b t.base_ok, t.base_ok, i.0, i.1.0, i.1.1, lt-ltb n.digits (10 ^ 8) t.number_ok, j.0, j.1)
says_in_range d own ch (CaptureReply r) g h k = reply_in_lem ch r h k
says_in_range d own ch (CaptureState h' s) g h k =
    let c = channel_in_lem ch h in
    let j = digit_in s 1 k (omega arith) in
    let ok : (x : Number) → NumberOk x → StateOk ch s x = λ x b. simp (c.0, c.1, lt-ltb x.digits (10 ^ 8) b, j.0, j.1) in
    either (StateOk ch s) (eqb h' d) own (num 0) (ok own g) (ok (num 0) (omega arith))
says_in_range d own ch (RingNotice n) g h k =
    let c = channel_in_lem ch h in
    simp (c.0, c.1, lt-ltb n.digits (10 ^ 8) k, lt-ltb own.digits (10 ^ 8) g)
says_in_range d own ch (AnswerReply r) g h k = reply_in_lem ch r h k
says_in_range d own ch (CallResult r) g h k =
    let c = channel_in_lem ch h in
    let j = digit_in r 1 k (omega arith) in
    simp (c.0, c.1, j.0, j.1, lt-ltb own.digits (10 ^ 8) g)

-- ---- what a rule sends, and the channel after it

pub record Ranged (st : Step) : Type 0 where
  pub next-ok : InRange st.next
  pub sends-ok : SendsOk st.sends

module _ (e : ℕ) (c : Channel) (ok : InRange c) where
  -- the type of the talk in a call
  kind_ok : (k : Option Call) → CallOk k → KindOk (kind_of k)
  kind_ok None o = inl refl
  kind_ok (Some k) o = o.kind-is

  call_sends_ok : (t r : ℕ) → t ≤ 1 → ReasonOk r → (k : Option Call) → CallOk k → SendsOk (call_sends t r k)
  call_sends_ok t r l h None o = tt
  call_sends_ok t r l h (Some k) o = ((o, l, h), tt)

  end_ok : (r : ℕ) → ReasonOk r → (k : Option Call) → CallOk k → SendsOk (end_of r k)
  end_ok r h = call_sends_ok 0 r (omega arith) h

  press_off_ok : (p : Option ℕ) → SendsOk (press_off_sends p c.call)
  press_off_ok None = tt
  press_off_ok (Some d) = (tt, ((kind_ok c.call ok.call_ok, omega arith), tt))

  off-ok : (a : Option Arrival) → ArrivalOk a → SendsOk (mobile_off_sends a)
  off-ok None o = tt
  off-ok (Some a) o = (tt, ((o, omega arith), ((o, omega arith), tt)))

  ring_off_ok : (k : Option Call) → SendsOk (ring_off_sends k)
  ring_off_ok None = tt
  ring_off_ok (Some k) = (tt, (omega arith, tt))

  freed-ok : SendsOk (freed_sends e c)
  freed-ok = (omega arith, tt)

  -- a channel that has the code, call and arrival of c
  kept : (c' : Channel) → c'.code ≡ c.code → c'.call ≡ c.call → c'.arrival ≡ c.arrival → InRange c'
  kept c' p q r = record { code_ok = rw p ok.code_ok; call_ok = rw q ok.call_ok; arrival-ok = rw r ok.arrival-ok }

  plain_ok : Ranged (step c [])
  plain_ok = record { next-ok = ok; sends-ok = tt }

  reply-ok : (t : Bool) (d : ℕ) → NoticeOk (CaptureReply (cond t 0 1))
  reply-ok true d = omega arith
  reply-ok false d = omega arith

  capture_at-ok : (h : Option ℕ) (d : ℕ) → Ranged (capture_at h e d c)
  capture_at-ok None d =
      either Ranged (is_ringing c) _ _
      (record { next-ok = ok; sends-ok = (omega arith, tt) })
      (record { next-ok = kept _ refl refl refl; sends-ok = (omega arith, (omega arith, tt)) })
  capture_at-ok (Some h) d = record { next-ok = ok; sends-ok = (reply-ok (eqb h d) d, tt) }

  capture-ok : (d : ℕ) → Ranged (capture e d c)
  unfolding capture
  capture-ok d = capture_at-ok c.holder d

  cut_ok : Ranged (cut e c)
  unfolding cut
  cut_ok = record {
    next-ok = record { code_ok = ok.code_ok; call_ok = tt; arrival-ok = ok.arrival-ok };
    sends-ok =
        each_append SendOk (press_off_sends c.presser c.call) (end_of 1 c.call ++ freed_sends e c) (press_off_ok c.presser)
        (each_append SendOk (end_of 1 c.call) (freed_sends e c) (end_ok 1 (inl (omega arith)) c.call ok.call_ok) freed-ok);
  }

  release-ok : (d : ℕ) → Ranged (release e d c)
  unfolding release
  release-ok d =
      either Ranged (held_by d c.holder) _ _
      (record { next-ok = cut_ok.next-ok; sends-ok = (omega arith, cut_ok.sends-ok) })
      (record { next-ok = ok; sends-ok = (omega arith, tt) })

  -- a call that may have been opened, and its start
  opened-ok : (k : Option Call) (new : Call) → CallOk k → CallOk (Some new) → CallOk (opened_by k new)
  opened-ok None new o p = p
  opened-ok (Some k) new o p = o

  opening_ok : (k : Option Call) (new : Call) → CallOk (Some new) → SendsOk (opening_sends k new)
  opening_ok None new p = call_sends_ok 1 0 (omega arith) (inl (omega arith)) (Some new) p
  opening_ok (Some k) new p = tt

  press_on-ok : (d : ℕ) (n : Number) → NumberOk n → Ranged (press_on d n c)
  unfolding press_on
  press_on-ok d n g =
      let own : CallOk (Some (press_call d n)) = record { kind-is = inl refl; direction-low = omega arith; direction_high = omega arith; base_ok = refl; number_ok = g } in
      record {
        next-ok = record { code_ok = ok.code_ok; call_ok = opened-ok c.call (press_call d n) ok.call_ok own; arrival-ok = ok.arrival-ok };
        sends-ok = (tt, each_append SendOk (opening_sends c.call (press_call d n)) _ (opening_ok c.call (press_call d n) own) ((kind_ok c.call ok.call_ok, omega arith), tt));
      }

  press_off-ok : Ranged (press_off c)
  unfolding press_off
  press_off-ok = record { next-ok = kept _ refl refl refl; sends-ok = press_off_ok c.presser }

  -- what a mobile says, of either type
  mobile-talk : (k : ℕ) → KindOk k → (b : ℕ) (n : Number) → b ≤ 29 → NumberOk n → TalkOk k 2 b n
  mobile-talk k o b n h g = record { kind-is = o; direction-low = omega arith; direction_high = omega arith; base_ok = rw (le-leb b 29 h); number_ok = g }

  mobile_on-ok : (b : ℕ) (n : Number) → b ≤ 29 → NumberOk n → Ranged (mobile_on e b n c)
  unfolding mobile_on
  mobile_on-ok b n h g =
      let t = mobile-talk _ (kind_ok c.call ok.call_ok) b n h g in
      let new = mobile_call (mobile_recipients c.holder e) b n in
      let o : CallOk (Some new) = mobile-talk _ (inl refl) b n h g in
      record {
        next-ok = record { code_ok = ok.code_ok; call_ok = opened-ok c.call new ok.call_ok o; arrival-ok = t };
        sends-ok = (tt, ((t, omega arith), each_append SendOk (opening_sends c.call new) _ (opening_ok c.call new o) ((t, omega arith), tt)));
      }

  mobile_off-ok : Ranged (mobile_off c)
  unfolding mobile_off
  mobile_off-ok = record { next-ok = record { code_ok = ok.code_ok; call_ok = ok.call_ok; arrival-ok = tt }; sends-ok = off-ok c.arrival ok.arrival-ok }

  ring-ok : (d b : ℕ) (n : Number) → b ≤ 29 → NumberOk n → Ranged (ring d b n c)
  unfolding ring
  ring-ok d b n h g =
      let o : CallOk (Some (ring_call d b n)) = mobile-talk _ (inr refl) b n h g in
      record {
        next-ok = record { code_ok = ok.code_ok; call_ok = o; arrival-ok = ok.arrival-ok };
        sends-ok = (tt, (g, call_sends_ok 1 0 (omega arith) (inl (omega arith)) (Some (ring_call d b n)) o));
      }

  unanswered-ok : (reason : ℕ) → ReasonOk reason → Ranged (unanswered reason c)
  unfolding unanswered
  unanswered-ok reason r = record {
    next-ok = record { code_ok = ok.code_ok; call_ok = tt; arrival-ok = ok.arrival-ok };
    sends-ok = each_append SendOk (ring_off_sends c.call) (end_of reason c.call) (ring_off_ok c.call) (end_ok reason r c.call ok.call_ok);
  }

  answered-ok : (d : ℕ) → Ranged (answered e d c)
  unfolding answered
  answered-ok d = record { next-ok = kept _ refl refl refl; sends-ok = (omega arith, (omega arith, (omega arith, tt))) }

  ring_answer-ok : (d : ℕ) (matched : Bool) → Ranged (ring_answer e d matched c)
  unfolding ring_answer
  ring_answer-ok d matched = either Ranged matched _ _ (answered-ok d) (record { next-ok = ok; sends-ok = (omega arith, tt) })

  tick_quiet-ok : Ranged (tick_quiet c)
  unfolding tick_quiet
  tick_quiet-ok =
      either Ranged (leb c.quiet 1) _ _
      (record { next-ok = record { code_ok = ok.code_ok; call_ok = tt; arrival-ok = ok.arrival-ok }; sends-ok = end_ok 3 (inl (omega arith)) c.call ok.call_ok })
      (record { next-ok = kept _ refl refl refl; sends-ok = tt })

  tick_release-ok : Ranged (tick_release e c)
  unfolding tick_release
  tick_release-ok =
      either Ranged (leb c.release 1) _ _ (record { next-ok = kept _ refl refl refl; sends-ok = freed-ok }) (record { next-ok = kept _ refl refl refl; sends-ok = tt })

  tick_idle-ok : Ranged (tick_idle e c)
  unfolding tick_idle
  tick_idle-ok = either Ranged (ltb 0 c.quiet) _ _ tick_quiet-ok (either Ranged (is_held c.holder) _ _ tick_release-ok plain_ok)

  tick_ring-ok : Ranged (tick_ring c)
  unfolding tick_ring
  tick_ring-ok =
      either Ranged (leb c.ring 1) _ _ (unanswered-ok 5 (inr refl)) (record { next-ok = kept _ refl refl refl; sends-ok = tt })

  tick-ok : Ranged (tick e c)
  unfolding tick
  tick-ok =
      either Ranged (is_ringing c) _ _ tick_ring-ok
      (either Ranged (is_pressed c) _ _ plain_ok (either Ranged (is_present c.arrival) _ _ plain_ok tick_idle-ok))

  freed_in_range : InRange (freed c)
  freed_in_range = record { code_ok = ok.code_ok; call_ok = tt; arrival-ok = tt }

  end_talk-ok : Ranged (end_talk c)
  unfolding end_talk
  end_talk-ok = record {
    next-ok = freed_in_range;
    sends-ok = each_append SendOk (press_off_sends c.presser c.call) _ (press_off_ok c.presser) (off-ok c.arrival ok.arrival-ok);
  }

  end_call-ok : Ranged (end_call e c)
  unfolding end_call
  end_call-ok = record {
    next-ok = freed_in_range;
    sends-ok =
        each_append SendOk (sent_if (is_ringing c) (ring_off_sends c.call)) _ (either SendsOk (is_ringing c) _ _ (ring_off_ok c.call) tt)
        (each_append SendOk (end_of 2 c.call) _ (end_ok 2 (inl (omega arith)) c.call ok.call_ok) (either SendsOk (is_held c.holder) _ _ freed-ok tt));
  }

  pub happens_ranged : (v : Event) → Fits v c → Ranged (happens v e c)
  unfolding happens
  happens_ranged (Capture d) h = capture-ok d
  happens_ranged (Release d) h = release-ok d
  happens_ranged Cut h = cut_ok
  happens_ranged (PressOn d n) h = press_on-ok d n h.0
  happens_ranged PressOff h = press_off-ok
  happens_ranged (MobileOn b n) h = mobile_on-ok b n h.0 h.1
  happens_ranged MobileOff h = mobile_off-ok
  happens_ranged (Ring d b n) h = ring-ok d b n h.0 h.1
  happens_ranged Cancel h = unanswered-ok 2 (inl (omega arith))
  happens_ranged (RingAnswer d matched) h = ring_answer-ok d matched
  happens_ranged Tick h = tick-ok
  happens_ranged EndTalk h = end_talk-ok
  happens_ranged EndCall h = end_call-ok
