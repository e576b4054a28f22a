-- A holding lasts unless what may end it comes.
-- Assumes nothing.
use Prim.Native.Nat.{ℕ}
use mathlib.Core.Bool.{Bool, true, false, cond, true≢false}
use mathlib.Core.Logic.{◌⊎◌, inl, inr}
use mathlib.Core.Path.{◌≡◌, refl, sym, ap, ◌∙◌}
use lib.Dec.{leb, ltb}
use borrow.Author.Tests.{eqb-true, leb-true}
use Rattle.std.specs.Prelude.{Some}
use Rattle.laws.proofs.Tests.{either}
use Rattle.channel.specs.State.{is_held, held_by, is_present}
use Rattle.line_rules.specs.Rules.{Step, happens, capture, release, press_on, press_off, mobile_on, mobile_off, ring, unanswered, ring_answer, tick, tick_ring, tick_idle, tick_quiet, tick_release, is_pressed, is_ringing}
use Rattle.line_rules.specs.Invariant.{ChannelOk, Fits}
use Rattle.line_rules.specs.Promises.{Ends, HoldingLasts}
use Rattle.line_rules.proofs.Rings.{held-silent}
use Rattle.channel.specs.declared.state.Channel.{Channel}
use Rattle.channel.specs.declared.state.Event.TheVariants.{Capture, Release, Cut, PressOn, PressOff, MobileOn, MobileOff, Ring, Cancel, RingAnswer, Tick, EndTalk, EndCall}

module _ (e : ℕ) (c : Channel) (d : ℕ) (h : c.holder ≡ Some d) where
  -- desk d holds after a step, or what may end it has come
  abbrev Lasts : Type 0 → Step → Type 0
  Lasts E st = (st.next.holder ≡ Some d) ⊎ E

  -- a step that a test ends, where the test holds only if that has come
  lasts_unless : (E : Type 0) (t : Bool) (a b : Step) → (t ≡ true → E) → b.next.holder ≡ Some d → Lasts E (cond t a b)
  lasts_unless E true a b p q = inr (p refl)
  lasts_unless E false a b p q = inl q

  capture_lasts : (d' : ℕ) → Lasts ⊥ (capture e d' c)
  unfolding capture
  capture_lasts d' = inl (rw h refl)

  release_lasts : (d' : ℕ) → Lasts (d' ≡ d) (release e d' c)
  unfolding release
  release_lasts d' = lasts_unless (d' ≡ d) (held_by d' c.holder) _ _ (λ k. sym (eqb-true d d' (rw h at k))) h

  tick_lasts : Lasts (Ends Tick c d) (tick e c)
  unfolding tick tick_ring unanswered tick_idle tick_quiet tick_release
  tick_lasts =
      let L = Lasts (Ends Tick c d) in
      either L (is_ringing c) _ _ (either L (leb c.ring 1) _ _ (inl h) (inl h))
      (either L (is_pressed c) _ _ (inl h)
      (either L (is_present c.arrival) _ _ (inl h)
      (either L (ltb 0 c.quiet) _ _
      (either L (leb c.quiet 1) _ _ (inl h) (inl h))
      (either L (is_held c.holder) _ _ (lasts_unless (Ends Tick c d) (leb c.release 1) _ _ (leb-true c.release 1) h) (inl h)))))

  -- a ring that is answered is on a channel that nobody holds
  ring_answer_lasts : ChannelOk c → (d' : ℕ) (matched : Bool) → Fits (RingAnswer d' matched) c → Lasts ⊥ (ring_answer e d' matched c)
  unfolding ring_answer
  ring_answer_lasts ok d' matched f =
      lasts_unless ⊥ matched _ _ (λ m. true≢false (sym (f m) ∙ held-silent c ok.rung (ap is_held h))) h

pub holding_lasts : HoldingLasts
unfolding happens press_on press_off mobile_on mobile_off ring unanswered
holding_lasts (Capture d') e c d f ok h = capture_lasts e c d h d'
holding_lasts (Release d') e c d f ok h = release_lasts e c d h d'
holding_lasts Cut e c d f ok h = inr tt
holding_lasts (PressOn d' n) e c d f ok h = inl h
holding_lasts PressOff e c d f ok h = inl h
holding_lasts (MobileOn b n) e c d f ok h = inl h
holding_lasts MobileOff e c d f ok h = inl h
holding_lasts (Ring d' b n) e c d f ok h = inl h
holding_lasts Cancel e c d f ok h = inl h
holding_lasts (RingAnswer d' matched) e c d f ok h = ring_answer_lasts e c d h ok d' matched f
holding_lasts Tick e c d f ok h = tick_lasts e c d h
holding_lasts EndTalk e c d f ok h = inr tt
holding_lasts EndCall e c d f ok h = inr tt
