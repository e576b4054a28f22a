-- The timers of a channel run exactly when they should and never above their lengths, and a press is the holder's, whatever happens.
-- Assumes nothing.
use Prim.Native.Nat.{ℕ, ◌-◌, ◌≤◌}
use mathlib.Core.Bool.{Bool, true, false, ◌&&◌, not, cond, and-false}
use mathlib.Core.Path.{◌≡◌, refl, sym, ap, ◌∙◌}
use native.Mathlib.Omega.{arith}
use lib.Dec.{leb, ltb}
use borrow.Author.Tests.{leb-false, lt-ltb}
use Rattle.std.specs.Prelude.{Option, None, Some}
use Rattle.laws.proofs.Tests.{either, by_branch}
use Rattle.telegram.specs.declared.message.Number.{Number}
use Rattle.channel.specs.State.{free_channel, is_held, held_by, is_present, is_open}
use Rattle.line_rules.specs.Rules.{Step, happens, capture, capture_at, cut, release, press_on, press_off, mobile_on, mobile_off, ring, unanswered, answered, ring_answer, tick, tick_ring, tick_idle, tick_quiet, tick_release, end_talk, end_call, quiet_time, release_time, is_pressed, is_ringing}
use Rattle.line_rules.specs.Invariant.{Timed, RingCall, Rung, Idle, Fits}
use Rattle.line_rules.proofs.Rings.{clash, pressed_silent, talk-silent}
use Rattle.channel.specs.declared.state.Call.{Call}
use Rattle.channel.specs.declared.state.Channel.{Channel}
use Rattle.channel.specs.declared.state.Event.{Event}
use Rattle.channel.specs.declared.state.Event.TheVariants.{Capture, Release, Cut, PressOn, PressOff, MobileOn, MobileOff, Ring, Cancel, RingAnswer, Tick, EndTalk, EndCall}

abbrev NextTimed : Step → Type 0
NextTimed st = Timed st.next

pub free-timed : (code entitled : ℕ) → Timed (free_channel code entitled)
free-timed code entitled = record {
  quiet_runs = refl;
  release-runs = refl;
  quiet_most = omega arith;
  release-most = omega arith;
  ring-most = omega arith;
  presser_holds = clash refl;
  pressed_open = clash refl;
}

module _ (e : ℕ) (c : Channel) (ok : Timed c) (rung : is_ringing c ≡ true → Rung c) where
  -- who presses holds
  holds : is_pressed c ≡ true → is_held c.holder ≡ true
  holds p = ap is_held (sym (ok.presser_holds p)) ∙ p

  capture_at-timed : (h : Option ℕ) (d : ℕ) → c.holder ≡ h → NextTimed (capture_at h e d c)
  capture_at-timed None d q =
      by_branch NextTimed (is_ringing c) _ _ (λ r. ok)
      (λ r. record {
        quiet_runs = ok.quiet_runs;
        release-runs = refl;
        quiet_most = ok.quiet_most;
        release-most = omega arith;
        ring-most = ok.ring-most;
        presser_holds = λ p. clash (ap is_held q) (holds p);
        pressed_open = ok.pressed_open;
      })
  capture_at-timed (Some h) d q = ok

  capture-timed : (d : ℕ) → NextTimed (capture e d c)
  unfolding capture
  capture-timed d = capture_at-timed c.holder d refl

  cut-timed : NextTimed (cut e c)
  unfolding cut
  cut-timed = record {
    quiet_runs = refl;
    release-runs = refl;
    quiet_most = omega arith;
    release-most = omega arith;
    ring-most = ok.ring-most;
    presser_holds = clash refl;
    pressed_open = clash refl;
  }

  release-timed : (d : ℕ) → NextTimed (release e d c)
  unfolding release
  release-timed d = by_branch NextTimed (held_by d c.holder) _ _ (λ e. cut-timed) (λ e. ok)

  press_on-timed : (d : ℕ) (n : Number) → c.holder ≡ Some d → NextTimed (press_on d n c)
  unfolding press_on
  press_on-timed d n h = record {
    quiet_runs = refl;
    release-runs = sym (ap is_held h);
    quiet_most = omega arith;
    release-most = omega arith;
    ring-most = ok.ring-most;
    presser_holds = λ p. sym h;
    pressed_open = λ p. refl;
  }

  let_go : (a : Bool) → is_pressed c ≡ true → is_present c.arrival ≡ a
      → ltb 0 (cond a c.quiet quiet_time) ≡ (is_open c.call && (true && (not a && not (is_ringing c))))
  let_go true h e = ok.quiet_runs ∙ rw h refl
  let_go false h e = sym (rw (ok.pressed_open h, pressed_silent c rung h) refl)

  -- the quiet timer, as it was or started
  quiet_low : (t : Bool) → cond t c.quiet quiet_time ≤ 10
  quiet_low t = either (λ q. q ≤ 10) t c.quiet quiet_time ok.quiet_most (omega arith)

  press_off-timed : is_pressed c ≡ true → NextTimed (press_off c)
  unfolding press_off
  press_off-timed h = record {
    quiet_runs = let_go (is_present c.arrival) h refl;
    release-runs = sym (holds h);
    quiet_most = quiet_low (is_present c.arrival);
    release-most = omega arith;
    ring-most = ok.ring-most;
    presser_holds = clash refl;
    pressed_open = clash refl;
  }

  -- the release timer after a mobile on or off
  reset : (t : Bool) → is_held c.holder ≡ t → ltb 0 (cond t release_time c.release) ≡ t
  reset true e = refl
  reset false e = ok.release-runs ∙ e

  release-low : (t : Bool) → cond t release_time c.release ≤ 120
  release-low t = either (λ r. r ≤ 120) t release_time c.release (omega arith) ok.release-most

  mobile_on-timed : (b : ℕ) (n : Number) → NextTimed (mobile_on e b n c)
  unfolding mobile_on
  mobile_on-timed b n = record {
    quiet_runs = sym (and-false _);
    release-runs = reset (is_held c.holder) refl;
    quiet_most = omega arith;
    release-most = release-low (is_held c.holder);
    ring-most = ok.ring-most;
    presser_holds = ok.presser_holds;
    pressed_open = λ p. refl;
  }

  after-talk : (q : ℕ) → ltb 0 q ≡ true → (k p : Bool) → is_open c.call ≡ k → is_pressed c ≡ p
      → ltb 0 (cond k (cond p c.quiet q) c.quiet) ≡ (k && (not p && true))
  after-talk q r true true e h = ok.quiet_runs ∙ rw (e, h) refl
  after-talk q r true false e h = r
  after-talk q r false p e h = ok.quiet_runs ∙ rw e refl

  mobile_off-timed : is_ringing c ≡ false → NextTimed (mobile_off c)
  unfolding mobile_off
  mobile_off-timed r = record {
    quiet_runs = after-talk _ refl (is_open c.call) (is_pressed c) refl refl ∙ sym (rw r refl);
    release-runs = reset (is_held c.holder) refl;
    quiet_most = either (λ q. q ≤ 10) (is_open c.call) _ c.quiet (quiet_low (is_pressed c)) ok.quiet_most;
    release-most = release-low (is_held c.holder);
    ring-most = ok.ring-most;
    presser_holds = ok.presser_holds;
    pressed_open = ok.pressed_open;
  }

  ring-timed : (d b : ℕ) (n : Number) → Idle c → NextTimed (ring d b n c)
  unfolding ring
  ring-timed d b n h = record {
    quiet_runs = ok.quiet_runs ∙ simp (h.closed, and-false);
    release-runs = ok.release-runs;
    quiet_most = ok.quiet_most;
    release-most = ok.release-most;
    ring-most = omega arith;
    presser_holds = ok.presser_holds;
    pressed_open = λ p. refl;
  }

  unpressed : Rung c → is_pressed c ≡ false
  unpressed r = ap is_held r.nobody_presses

  -- in a ring the quiet timer does not run
  unquiet : is_ringing c ≡ true → ltb 0 c.quiet ≡ false
  unquiet r = ok.quiet_runs ∙ simp (r, and-false)

  unanswered-timed : (reason : ℕ) → is_ringing c ≡ true → NextTimed (unanswered reason c)
  unfolding unanswered
  unanswered-timed reason r = record {
    quiet_runs = unquiet r;
    release-runs = ok.release-runs;
    quiet_most = ok.quiet_most;
    release-most = ok.release-most;
    ring-most = omega arith;
    presser_holds = ok.presser_holds;
    pressed_open = clash (unpressed (rung r));
  }

  rung_open : (k : Option Call) → RingCall k → is_open k ≡ true
  rung_open None h = absurd h
  rung_open (Some k) h = refl

  answered-timed : (d : ℕ) → is_ringing c ≡ true → NextTimed (answered e d c)
  unfolding answered
  answered-timed d r = record {
    quiet_runs = sym (rw (rung_open c.call (rung r).ring-call, unpressed (rung r), ap is_present (rung r).nobody-talks) refl);
    release-runs = refl;
    quiet_most = omega arith;
    release-most = omega arith;
    ring-most = omega arith;
    presser_holds = clash (unpressed (rung r));
    pressed_open = clash (unpressed (rung r));
  }

  ring_answer-timed : (d : ℕ) (matched : Bool) → (matched ≡ true → is_ringing c ≡ true) → NextTimed (ring_answer e d matched c)
  unfolding ring_answer
  ring_answer-timed d matched h = by_branch NextTimed matched _ _ (λ m. answered-timed d (h m)) (λ m. ok)

  less : (q : ℕ) → leb q 1 ≡ false → ltb 0 (q - 1) ≡ true
  less q h = lt-ltb 0 (q - 1) (omega (arith, leb-false q 1 h))

  runs : (q : ℕ) → leb q 1 ≡ false → ltb 0 q ≡ true
  runs q h = lt-ltb 0 q (omega (arith, leb-false q 1 h))

  tick_quiet-timed : is_pressed c ≡ false → NextTimed (tick_quiet c)
  unfolding tick_quiet
  tick_quiet-timed h =
      by_branch NextTimed (leb c.quiet 1) _ _
      (λ e. record {
        quiet_runs = refl;
        release-runs = ok.release-runs;
        quiet_most = omega arith;
        release-most = ok.release-most;
        ring-most = ok.ring-most;
        presser_holds = clash h;
        pressed_open = clash h;
      })
      (λ e. record {
        quiet_runs = less c.quiet e ∙ sym (runs c.quiet e) ∙ ok.quiet_runs;
        release-runs = ok.release-runs;
        quiet_most = omega (arith, ok.quiet_most);
        release-most = ok.release-most;
        ring-most = ok.ring-most;
        presser_holds = ok.presser_holds;
        pressed_open = ok.pressed_open;
      })

  tick_release-timed : is_pressed c ≡ false → NextTimed (tick_release e c)
  unfolding tick_release
  tick_release-timed h =
      by_branch NextTimed (leb c.release 1) _ _
      (λ e. record {
        quiet_runs = ok.quiet_runs;
        release-runs = refl;
        quiet_most = ok.quiet_most;
        release-most = omega arith;
        ring-most = ok.ring-most;
        presser_holds = clash h;
        pressed_open = clash h;
      })
      (λ e. record {
        quiet_runs = ok.quiet_runs;
        release-runs = less c.release e ∙ sym (runs c.release e) ∙ ok.release-runs;
        quiet_most = ok.quiet_most;
        release-most = omega (arith, ok.release-most);
        ring-most = ok.ring-most;
        presser_holds = ok.presser_holds;
        pressed_open = ok.pressed_open;
      })

  tick_idle-timed : is_pressed c ≡ false → NextTimed (tick_idle e c)
  unfolding tick_idle
  tick_idle-timed h =
      by_branch NextTimed (ltb 0 c.quiet) _ _ (λ e. tick_quiet-timed h) (λ e. by_branch NextTimed (is_held c.holder) _ _ (λ g. tick_release-timed h) (λ g. ok))

  tick_ring-timed : is_ringing c ≡ true → NextTimed (tick_ring c)
  unfolding tick_ring
  tick_ring-timed r =
      by_branch NextTimed (leb c.ring 1) _ _
      (λ l. unanswered-timed 5 r)
      (λ l. record {
        quiet_runs = ok.quiet_runs ∙ rw (less c.ring l, r) refl;
        release-runs = ok.release-runs;
        quiet_most = ok.quiet_most;
        release-most = ok.release-most;
        ring-most = omega (arith, ok.ring-most);
        presser_holds = ok.presser_holds;
        pressed_open = ok.pressed_open;
      })

  tick-timed : NextTimed (tick e c)
  unfolding tick
  tick-timed =
      by_branch NextTimed (is_ringing c) _ _ tick_ring-timed
      (λ r. by_branch NextTimed (is_pressed c) _ _ (λ e. ok) (λ e. by_branch NextTimed (is_present c.arrival) _ _ (λ g. ok) (λ g. tick_idle-timed e)))

  pub happens-timed : (v : Event) → Fits v c → NextTimed (happens v e c)
  unfolding happens end_talk end_call
  happens-timed (Capture d) h = capture-timed d
  happens-timed (Release d) h = release-timed d
  happens-timed Cut h = cut-timed
  happens-timed (PressOn d n) h = press_on-timed d n h.1
  happens-timed PressOff h = press_off-timed h
  happens-timed (MobileOn b n) h = mobile_on-timed b n
  happens-timed MobileOff h = mobile_off-timed (talk-silent c rung h)
  happens-timed (Ring d b n) h = ring-timed d b n h.2
  happens-timed Cancel h = unanswered-timed 2 h
  happens-timed (RingAnswer d matched) h = ring_answer-timed d matched h
  happens-timed Tick h = tick-timed
  happens-timed EndTalk h = free-timed c.code c.entitled
  happens-timed EndCall h = free-timed c.code c.entitled
