-- A channel keeps its code and its entitled desks, whatever happens.
-- Assumes nothing.
use Prim.Native.Nat.{ℕ}
use mathlib.Core.Bool.{Bool}
use mathlib.Core.Path.{◌≡◌, refl}
use lib.Dec.{leb, ltb}
use Rattle.std.specs.Prelude.{Option, None, Some}
use Rattle.laws.proofs.Tests.{either}
use Rattle.channel.specs.State.{is_held, held_by, is_present}
use Rattle.line_rules.specs.Rules.{Step, happens, capture, capture_at, cut, release, press_on, press_off, mobile_on, mobile_off, ring, unanswered, answered, ring_answer, tick, tick_ring, tick_idle, tick_quiet, tick_release, end_talk, end_call, is_pressed, is_ringing}
use Rattle.line_rules.specs.Promises.{KeepsPlace}
use Rattle.channel.specs.declared.state.Channel.{Channel}
use Rattle.channel.specs.declared.state.Event.TheVariants.{Capture, Release, Cut, PressOn, PressOff, MobileOn, MobileOff, Ring, Cancel, RingAnswer, Tick, EndTalk, EndCall}

module _ (e : ℕ) (c : Channel) where
  abbrev Keeps : Step → Type 0
  Keeps st = (st.next.code ≡ c.code) × (st.next.entitled ≡ c.entitled)

  capture_at_keeps : (h : Option ℕ) (d : ℕ) → Keeps (capture_at h e d c)
  capture_at_keeps None d = either Keeps (is_ringing c) _ _ (refl, refl) (refl, refl)
  capture_at_keeps (Some h) d = (refl, refl)

  release_keeps : (d : ℕ) → Keeps (release e d c)
  unfolding release cut
  release_keeps d = either Keeps (held_by d c.holder) _ _ (refl, refl) (refl, refl)

  ring_answer_keeps : (d : ℕ) (matched : Bool) → Keeps (ring_answer e d matched c)
  unfolding ring_answer answered
  ring_answer_keeps d matched = either Keeps matched _ _ (refl, refl) (refl, refl)

  tick_keeps : Keeps (tick e c)
  unfolding tick tick_ring unanswered tick_idle tick_quiet tick_release
  tick_keeps =
      either Keeps (is_ringing c) _ _ (either Keeps (leb c.ring 1) _ _ (refl, refl) (refl, refl))
      (either Keeps (is_pressed c) _ _ (refl, refl)
      (either Keeps (is_present c.arrival) _ _ (refl, refl)
      (either Keeps (ltb 0 c.quiet) _ _
      (either Keeps (leb c.quiet 1) _ _ (refl, refl) (refl, refl))
      (either Keeps (is_held c.holder) _ _ (either Keeps (leb c.release 1) _ _ (refl, refl) (refl, refl)) (refl, refl)))))

pub keeps_place : KeepsPlace
unfolding happens capture cut press_on press_off mobile_on mobile_off ring unanswered end_talk end_call
keeps_place (Capture d) e c = capture_at_keeps e c c.holder d
keeps_place (Release d) e c = release_keeps e c d
keeps_place Cut e c = (refl, refl)
keeps_place (PressOn d n) e c = (refl, refl)
keeps_place PressOff e c = (refl, refl)
keeps_place (MobileOn b n) e c = (refl, refl)
keeps_place MobileOff e c = (refl, refl)
keeps_place (Ring d b n) e c = (refl, refl)
keeps_place Cancel e c = (refl, refl)
keeps_place (RingAnswer d matched) e c = ring_answer_keeps e c d matched
keeps_place Tick e c = tick_keeps e c
keeps_place EndTalk e c = (refl, refl)
keeps_place EndCall e c = (refl, refl)
