-- While a mobile rings nobody holds, presses or talks, whatever happens: so what needs one of these does not happen in a ring.
-- Assumes nothing.
use Prim.Native.Nat.{ℕ}
use mathlib.Core.Bool.{Bool, true, false, false≢true}
use mathlib.Core.Path.{◌≡◌, refl, sym, ap, ◌∙◌}
use lib.Dec.{leb, ltb}
use Rattle.std.specs.Prelude.{Option, None, Some}
use Rattle.laws.proofs.Tests.{by_test, either, by_branch}
use Rattle.telegram.specs.declared.message.Number.{Number}
use Rattle.channel.specs.State.{is_held, held_by, is_present}
use Rattle.line_rules.specs.Rules.{Step, happens, capture, capture_at, cut, release, press_on, press_off, mobile_on, mobile_off, ring, unanswered, answered, ring_answer, tick, tick_ring, tick_idle, tick_quiet, tick_release, end_talk, end_call, is_pressed, is_ringing}
use Rattle.line_rules.specs.Invariant.{Timed, Rung, Idle, Fits}
use Rattle.channel.specs.declared.state.Channel.{Channel}
use Rattle.channel.specs.declared.state.Event.{Event}
use Rattle.channel.specs.declared.state.Event.TheVariants.{Capture, Release, Cut, PressOn, PressOff, MobileOn, MobileOff, Ring, Cancel, RingAnswer, Tick, EndTalk, EndCall}

-- a test cannot hold and fail
pub clash : {A : Type 0} {t : Bool} → t ≡ false → t ≡ true → A
clash f p = absurd (false≢true (sym f ∙ p))

-- ---- what does not happen in a ring

module _ (c : Channel) (rung : is_ringing c ≡ true → Rung c) where
  silent_if : (t : Bool) → (Rung c → t ≡ false) → t ≡ true → is_ringing c ≡ false
  silent_if t f p = by_test (is_ringing c) (λ r. clash (f (rung r)) p) (λ r. r)

  pub held-silent : is_held c.holder ≡ true → is_ringing c ≡ false
  held-silent = silent_if _ (λ r. ap is_held r.nobody-holds)

  pub pressed_silent : is_pressed c ≡ true → is_ringing c ≡ false
  pressed_silent = silent_if _ (λ r. ap is_held r.nobody_presses)

  pub talk-silent : is_present c.arrival ≡ true → is_ringing c ≡ false
  talk-silent = silent_if _ (λ r. ap is_present r.nobody-talks)

-- ---- what happens to a ring

abbrev NextRung : Step → Type 0
NextRung st = is_ringing st.next ≡ true → Rung st.next

nobody : (p : Option ℕ) → is_held p ≡ false → p ≡ None
nobody None e = refl
nobody (Some d) e = clash e refl

module _ (e : ℕ) (c : Channel) (ok : Timed c) (rung : is_ringing c ≡ true → Rung c) where
  capture_at-rung : (h : Option ℕ) (d : ℕ) → NextRung (capture_at h e d c)
  capture_at-rung None d = by_branch NextRung (is_ringing c) _ _ (λ r. rung) clash
  capture_at-rung (Some h) d = rung

  capture-rung : (d : ℕ) → NextRung (capture e d c)
  unfolding capture
  capture-rung d = capture_at-rung c.holder d

  cut-rung : is_held c.holder ≡ true → NextRung (cut e c)
  unfolding cut
  cut-rung h = clash (held-silent c rung h)

  held : (p : Option ℕ) (d : ℕ) → held_by d p ≡ true → is_held p ≡ true
  held None d h = h
  held (Some p) d h = refl

  release-rung : (d : ℕ) → NextRung (release e d c)
  unfolding release
  release-rung d = by_branch NextRung (held_by d c.holder) _ _ (λ h. cut-rung (held c.holder d h)) (λ h. rung)

  -- nobody presses on a free channel
  free-unpressed : c.holder ≡ None → c.presser ≡ None
  free-unpressed h = by_test (is_pressed c) (λ p. ok.presser_holds p ∙ h) (nobody c.presser)

  ring-rung : (d b : ℕ) (n : Number) → Idle c → NextRung (ring d b n c)
  unfolding ring
  ring-rung d b n h r = record {
    nobody-holds = h.free;
    nobody_presses = free-unpressed h.free;
    nobody-talks = h.absent;
    ring-call = (refl, (refl, (d, refl)));
  }

  unanswered-rung : (reason : ℕ) → NextRung (unanswered reason c)
  unfolding unanswered
  unanswered-rung reason = clash refl

  answered-rung : (d : ℕ) → NextRung (answered e d c)
  unfolding answered
  answered-rung d = clash refl

  ring_answer-rung : (d : ℕ) (matched : Bool) → NextRung (ring_answer e d matched c)
  unfolding ring_answer
  ring_answer-rung d matched = by_branch NextRung matched _ _ (λ m. answered-rung d) (λ m. rung)

  tick_ring-rung : is_ringing c ≡ true → NextRung (tick_ring c)
  unfolding tick_ring
  tick_ring-rung h =
      by_branch NextRung (leb c.ring 1) _ _
      (λ l. unanswered-rung 5)
      (λ l r. record {
        nobody-holds = (rung h).nobody-holds;
        nobody_presses = (rung h).nobody_presses;
        nobody-talks = (rung h).nobody-talks;
        ring-call = (rung h).ring-call;
      })

  -- no other timer touches the ring's
  abbrev SameRing : Step → Type 0
  SameRing st = st.next.ring ≡ c.ring

  tick_idle-ring : SameRing (tick_idle e c)
  unfolding tick_idle tick_quiet tick_release
  tick_idle-ring =
      either SameRing (ltb 0 c.quiet) _ _
      (either SameRing (leb c.quiet 1) _ _ refl refl)
      (either SameRing (is_held c.holder) _ _ (either SameRing (leb c.release 1) _ _ refl refl) refl)

  tick-rung : NextRung (tick e c)
  unfolding tick
  tick-rung =
      by_branch NextRung (is_ringing c) _ _ tick_ring-rung
      (λ s. by_branch NextRung (is_pressed c) _ _ (λ p. rung)
      (λ p. by_branch NextRung (is_present c.arrival) _ _ (λ a. rung) (λ a. clash (ap (ltb 0) tick_idle-ring ∙ s))))

  pub happens-rung : (v : Event) → Fits v c → NextRung (happens v e c)
  unfolding happens press_on press_off mobile_on mobile_off end_talk end_call
  happens-rung (Capture d) h = capture-rung d
  happens-rung (Release d) h = release-rung d
  happens-rung Cut h = cut-rung h
  happens-rung (PressOn d n) h = clash (held-silent c rung (ap is_held h.1))
  happens-rung PressOff h = clash (pressed_silent c rung h)
  happens-rung (MobileOn b n) h = clash h.2
  happens-rung MobileOff h = clash (talk-silent c rung h)
  happens-rung (Ring d b n) h = ring-rung d b n h.2
  happens-rung Cancel h = unanswered-rung 2
  happens-rung (RingAnswer d matched) h = ring_answer-rung d matched
  happens-rung Tick h = tick-rung
  happens-rung EndTalk h = clash refl
  happens-rung EndCall h = clash refl
