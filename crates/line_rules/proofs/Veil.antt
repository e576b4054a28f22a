-- A rule goes by what is left of the channel when the numbers that B may not learn are hidden.
-- Assumes nothing.
use Prim.Native.Nat.{ℕ}
use mathlib.Core.List.{List, [], map-append}
use mathlib.Core.Bool.{Bool, true, false}
use mathlib.Core.Path.{◌≡◌, refl, ap}
use Rattle.std.specs.Prelude.{Option, None, Some}
use Rattle.laws.proofs.Tests.{cond_of}
use Rattle.telegram.specs.declared.message.Number.{Number}
use Rattle.channel.specs.State.{only, is_in, is_present, is_open}
use Rattle.line_rules.specs.Rules.{Step, step, opened_by, opening_sends, end_of, kind_of, press_off_sends, mobile_off_sends, ring_off_sends, capture_at, capture, cut, release, press_on, press_off, mobile_recipients, mobile_call, mobile_on, mobile_off, ring, unanswered, answered, ring_answer, tick_quiet, tick_release, tick_idle, tick_ring, tick, end_talk, end_call, happens}
use Rattle.line_rules.specs.Veil.{veil, hide_call, hide_arrival, hide, hide_send, hide_sends, hide_step}
use Rattle.channel.specs.declared.state.Call.{Call}
use Rattle.channel.specs.declared.state.Arrival.{Arrival}
use Rattle.channel.specs.declared.state.Channel.{Channel}
use Rattle.channel.specs.declared.state.Event.{Event}
use Rattle.channel.specs.declared.state.Event.TheVariants.{Capture, Release, Cut, PressOn, PressOff, MobileOn, MobileOff, Ring, Cancel, RingAnswer, Tick, EndTalk, EndCall}
use Rattle.channel.specs.declared.state.Send.{Send}

veil_twice : (t : Bool) (n : Number) → veil t (veil t n) ≡ veil t n
unfolding veil
veil_twice true n = refl
veil_twice false n = refl

module _ (B : ℕ) where
  -- ---- each choice goes by what is left of a call or an arrival

  call_twice : (k : Option Call) → hide_call B (hide_call B k) ≡ hide_call B k
  call_twice None = refl
  call_twice (Some k) = rw (veil_twice (is_in B k.recipients) k.source) refl

  arrival_twice : (a : Option Arrival) → hide_arrival B (hide_arrival B a) ≡ hide_arrival B a
  arrival_twice None = refl
  arrival_twice (Some a) = rw (veil_twice (is_in B a.recipients) a.number) refl

  pub hide_twice : (c : Channel) → hide B (hide B c) ≡ hide B c
  hide_twice c = simp (call_twice, arrival_twice) refl

  pub open_hide : (k : Option Call) → is_open (hide_call B k) ≡ is_open k
  open_hide None = refl
  open_hide (Some k) = refl

  kind-hide : (k : Option Call) → kind_of (hide_call B k) ≡ kind_of k
  kind-hide None = refl
  kind-hide (Some k) = refl

  press_off_hide : (p : Option ℕ) (k : Option Call) → press_off_sends p (hide_call B k) ≡ press_off_sends p k
  press_off_hide None k = refl
  press_off_hide (Some d) k = rw (kind-hide k)

  pub present_hide : (a : Option Arrival) → is_present (hide_arrival B a) ≡ is_present a
  present_hide None = refl
  present_hide (Some a) = refl

  opened-hide : (k : Option Call) (new : Call) → hide_call B (opened_by (hide_call B k) new) ≡ hide_call B (opened_by k new)
  opened-hide None new = refl
  opened-hide (Some k) new = call_twice (Some k)

  opening_hide : (k : Option Call) (new : Call) → opening_sends (hide_call B k) new ≡ opening_sends k new
  opening_hide None new = refl
  opening_hide (Some k) new = refl

  end_hide : (r : ℕ) (k : Option Call) → hide_sends B (end_of r (hide_call B k)) ≡ hide_sends B (end_of r k)
  end_hide r None = refl
  end_hide r (Some k) = simp veil_twice refl

  off-hide : (a : Option Arrival) → hide_sends B (mobile_off_sends (hide_arrival B a)) ≡ hide_sends B (mobile_off_sends a)
  off-hide None = refl
  off-hide (Some a) = simp veil_twice refl

  ring_off_hide : (k : Option Call) → ring_off_sends (hide_call B k) ≡ ring_off_sends k
  ring_off_hide None = refl
  ring_off_hide (Some k) = refl

  -- ---- the rules, one by one

  still-hide : (c : Channel) (ss : List Send) → hide_step B (step (hide B c) ss) ≡ hide_step B (step c ss)
  still-hide c ss = simp (call_twice, arrival_twice) refl

  capture_at-hide : (h : Option ℕ) (e : ℕ) (d : ℕ) (c : Channel) → hide_step B (capture_at h e d (hide B c)) ≡ hide_step B (capture_at h e d c)
  capture_at-hide None e d c = simp (cond_of (hide_step B), call_twice, arrival_twice) refl
  capture_at-hide (Some h) e d c = simp (call_twice, arrival_twice) refl

  capture-hide : (e : ℕ) (d : ℕ) (c : Channel) → hide_step B (capture e d (hide B c)) ≡ hide_step B (capture e d c)
  unfolding capture
  capture-hide e d c = capture_at-hide c.holder e d c

  cut-hide : (e : ℕ) (c : Channel) → hide_step B (cut e (hide B c)) ≡ hide_step B (cut e c)
  unfolding cut
  cut-hide e c = simp (map-append (hide_send B), press_off_hide, end_hide, arrival_twice) refl

  press_on-hide : (d : ℕ) (n : Number) (c : Channel) → hide_step B (press_on d n (hide B c)) ≡ hide_step B (press_on d n c)
  unfolding press_on
  press_on-hide d n c = simp (kind-hide, opening_hide, opened-hide, arrival_twice) refl

  press_off-hide : (c : Channel) → hide_step B (press_off (hide B c)) ≡ hide_step B (press_off c)
  unfolding press_off
  press_off-hide c = simp (press_off_hide, present_hide, call_twice, arrival_twice) refl

  mobile_on-hide : (e : ℕ) (b : ℕ) (n : Number) (c : Channel) → hide_step B (mobile_on e b n (hide B c)) ≡ hide_step B (mobile_on e b n c)
  unfolding mobile_on
  mobile_on-hide e b n c = simp (kind-hide, opening_hide, opened-hide) refl

  mobile_off-hide : (c : Channel) → hide_step B (mobile_off (hide B c)) ≡ hide_step B (mobile_off c)
  unfolding mobile_off
  mobile_off-hide c = simp (open_hide, off-hide, call_twice) refl

  ring-hide : (d b : ℕ) (n : Number) (c : Channel) → hide_step B (ring d b n (hide B c)) ≡ hide_step B (ring d b n c)
  unfolding ring
  ring-hide d b n c = simp arrival_twice refl

  unanswered-hide : (r : ℕ) (c : Channel) → hide_step B (unanswered r (hide B c)) ≡ hide_step B (unanswered r c)
  unfolding unanswered
  unanswered-hide r c = simp (map-append (hide_send B), ring_off_hide, end_hide, arrival_twice) refl

  answered-hide : (e d : ℕ) (c : Channel) → hide_step B (answered e d (hide B c)) ≡ hide_step B (answered e d c)
  unfolding answered
  answered-hide e d c = simp (call_twice, arrival_twice) refl

  ring_answer-hide : (e d : ℕ) (matched : Bool) (c : Channel) → hide_step B (ring_answer e d matched (hide B c)) ≡ hide_step B (ring_answer e d matched c)
  unfolding ring_answer
  ring_answer-hide e d matched c = simp (cond_of (hide_step B), answered-hide e d c, still-hide c) refl

  tick_quiet-hide : (c : Channel) → hide_step B (tick_quiet (hide B c)) ≡ hide_step B (tick_quiet c)
  unfolding tick_quiet
  tick_quiet-hide c = simp (cond_of (hide_step B), end_hide, call_twice, arrival_twice) refl

  tick_release-hide : (e : ℕ) (c : Channel) → hide_step B (tick_release e (hide B c)) ≡ hide_step B (tick_release e c)
  unfolding tick_release
  tick_release-hide e c = simp (cond_of (hide_step B), call_twice, arrival_twice) refl

  tick_idle-hide : (e : ℕ) (c : Channel) → hide_step B (tick_idle e (hide B c)) ≡ hide_step B (tick_idle e c)
  unfolding tick_idle
  tick_idle-hide e c = simp (cond_of (hide_step B), tick_quiet-hide c, tick_release-hide e c, still-hide c []) refl

  tick_ring-hide : (c : Channel) → hide_step B (tick_ring (hide B c)) ≡ hide_step B (tick_ring c)
  unfolding tick_ring
  tick_ring-hide c = simp (cond_of (hide_step B), unanswered-hide 5 c, call_twice, arrival_twice) refl

  tick-hide : (e : ℕ) (c : Channel) → hide_step B (tick e (hide B c)) ≡ hide_step B (tick e c)
  unfolding tick
  tick-hide e c = simp (cond_of (hide_step B), present_hide, tick_ring-hide c, tick_idle-hide e c, still-hide c []) refl

  end_talk-hide : (c : Channel) → hide_step B (end_talk (hide B c)) ≡ hide_step B (end_talk c)
  unfolding end_talk
  end_talk-hide c = simp (map-append (hide_send B), press_off_hide, off-hide) refl

  end_call-hide : (e : ℕ) (c : Channel) → hide_step B (end_call e (hide B c)) ≡ hide_step B (end_call e c)
  unfolding end_call
  end_call-hide e c = simp (map-append (hide_send B), cond_of (hide_sends B), ring_off_hide, end_hide) refl

  release-hide : (e : ℕ) (d : ℕ) (c : Channel) → hide_step B (release e d (hide B c)) ≡ hide_step B (release e d c)
  unfolding release
  release-hide e d c =
      let k = cut-hide e c in
      let n : hide B (cut e (hide B c)).next ≡ hide B (cut e c).next = ap (λ (st : Step). st.next) k in
      let s : hide_sends B (cut e (hide B c)).sends ≡ hide_sends B (cut e c).sends = ap (λ (st : Step). st.sends) k in
      simp (cond_of (hide_step B), n, s, call_twice, arrival_twice) refl

  -- A rule goes by what is left of the channel.
  pub happens-hide : (v : Event) (e : ℕ) (c : Channel) → hide_step B (happens v e (hide B c)) ≡ hide_step B (happens v e c)
  unfolding happens
  happens-hide (Capture d) e c = capture-hide e d c
  happens-hide (Release d) e c = release-hide e d c
  happens-hide Cut e c = cut-hide e c
  happens-hide (PressOn d n) e c = press_on-hide d n c
  happens-hide PressOff e c = press_off-hide c
  happens-hide (MobileOn b n) e c = mobile_on-hide e b n c
  happens-hide MobileOff e c = mobile_off-hide c
  happens-hide (Ring d b n) e c = ring-hide d b n c
  happens-hide Cancel e c = unanswered-hide 2 c
  happens-hide (RingAnswer d matched) e c = ring_answer-hide e d matched c
  happens-hide Tick e c = tick-hide e c
  happens-hide EndTalk e c = end_talk-hide c
  happens-hide EndCall e c = end_call-hide e c

  -- ---- a mobile's number is hidden from B where its recipients lack B

  opened-number : (k : Option Call) (m b : ℕ) (n n' : Number) → is_in B m ≡ false → hide_call B (opened_by k (mobile_call m b n)) ≡ hide_call B (opened_by k (mobile_call m b n'))
  unfolding veil
  opened-number None m b n n' h = rw h refl
  opened-number (Some k) m b n n' h = refl

  opening_number : (k : Option Call) (m b : ℕ) (n n' : Number) → is_in B m ≡ false → hide_sends B (opening_sends k (mobile_call m b n)) ≡ hide_sends B (opening_sends k (mobile_call m b n'))
  unfolding veil
  opening_number None m b n n' h = rw h refl
  opening_number (Some k) m b n n' h = refl

  pub number_hidden : (e : ℕ) (b : ℕ) (n n' : Number) (c : Channel) → is_in B (mobile_recipients c.holder e) ≡ false
      → hide_step B (mobile_on e b n c) ≡ hide_step B (mobile_on e b n' c)
  unfolding mobile_on veil
  number_hidden e b n n' c h =
      let m = mobile_recipients c.holder e in
      let o = opened-number c.call m b n n' h in
      let s = opening_number c.call m b n n' h in
      simp (map-append (hide_send B)) (simp (o, s, h) refl)

  -- a ring goes to the called desk alone
  pub ring_hidden : (d b : ℕ) (n n' : Number) (c : Channel) → is_in B (only d) ≡ false → hide_step B (ring d b n c) ≡ hide_step B (ring d b n' c)
  unfolding ring veil
  ring_hidden d b n n' c h = simp h refl
