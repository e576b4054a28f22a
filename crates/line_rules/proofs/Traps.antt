-- What shuts out 01's traps on the bench, its case of ten and 130 ticks, and whom a ring goes to (02 §1).
-- Assumes nothing.
use Prim.Native.Nat.{ℕ}
use mathlib.Core.List.{List, [], ◌∷◌, ◌++◌, append-nil}
use mathlib.Core.Bool.{Bool, true, false, false≢true}
use mathlib.Core.Logic.{inl, inr}
use mathlib.Core.Path.{◌≡◌, refl, ap, ◌∙◌}
use lib.Dec.{ltb, leb}
use lib.ListN.{replicate}
use Rattle.std.specs.Prelude.{Option, None, Some}
use Rattle.laws.specs.Each.{Each}
use Rattle.laws.proofs.Each.{each_append}
use Rattle.laws.proofs.Tests.{either}
use Rattle.telegram.specs.declared.message.Number.{Number}
use Rattle.channel.specs.State.{only, is_held, held_by, holder_place, is_present, is_open}
use Rattle.line_rules.specs.Rules.{Step, to, sent_if, call_sends, opening_sends, end_of, press_off_sends, mobile_off_sends, ring_off_sends, freed_sends, capture, capture_at, cut, release, press_on, press_call, press_off, mobile_on, mobile_recipients, mobile_call, mobile_off, ring, unanswered, answered, ring_answer, tick, tick_ring, tick_idle, tick_quiet, tick_release, is_pressed, is_ringing, end_talk, end_call, happens}
use Rattle.line_rules.specs.Promises.{GoesTo, OnToTheHolder, OffToTheTold, ToldAreKept, IsAbout, Concerned, AboutTheHolder, NumberForTheHolder, ArrivalOutlivesACut, OneTimerAtATime, TenAndAHundredAndThirty, quietly, by_ticks, RingToTheCalled, RingEndToTheCalled, FourteenAndTheFifteenth, ring_ticks, CancelIsTheSame, HandoverCancels}
use Rattle.channel.specs.declared.state.Call.{Call}
use Rattle.channel.specs.declared.state.Send.{Send}
use Rattle.channel.specs.declared.state.Arrival.{Arrival}
use Rattle.channel.specs.declared.state.Channel.{Channel}
use Rattle.channel.specs.declared.state.Event.TheVariants.{Capture, Release, Cut, PressOn, PressOff, MobileOn, MobileOff, Ring, Cancel, RingAnswer, Tick, EndTalk, EndCall}
use Rattle.channel.specs.declared.state.Notice.TheVariants.{CaptureState}

pub off_to_the_told : OffToTheTold
unfolding mobile_off
off_to_the_told c a e = rw e

opening_to : (k : Option Call) (m b : ℕ) (n : Number) → Each (GoesTo m) (opening_sends k (mobile_call m b n))
opening_to None m b n = (refl, tt)
opening_to (Some k) m b n = tt

pub on_to_the_holder : OnToTheHolder
unfolding mobile_on
on_to_the_holder e b n c d h =
    let m = mobile_recipients c.holder e in
    let q : m ≡ only d = rw h in
    let o : Each (GoesTo (only d)) (opening_sends c.call (mobile_call m b n)) = rw q (opening_to c.call (only d) b n) in
    (q, (q, each_append (GoesTo (only d)) (opening_sends c.call (mobile_call m b n)) _ o (q, tt)))

pub told_are_kept : ToldAreKept
unfolding mobile_on
told_are_kept e b n c =
    let m = mobile_recipients c.holder e in
    (refl, (refl, each_append (GoesTo m) (opening_sends c.call (mobile_call m b n)) _ (opening_to c.call m b n) (refl, tt)))

-- ---- whom a 550651 is about

module _ (P : ℕ → Type 0) where
  abbrev Said : List Send → Type 0
  Said = Each (IsAbout P)

  abbrev Tells : Step → Type 0
  Tells st = Said st.sends

  about_call : (t r : ℕ) (k : Option Call) → Said (call_sends t r k)
  about_call t r None = tt
  about_call t r (Some k) = (tt, tt)

  about_opening : (k : Option Call) (new : Call) → Said (opening_sends k new)
  about_opening None new = about_call 1 0 (Some new)
  about_opening (Some k) new = tt

  about_press_off : (p : Option ℕ) (k : Option Call) → Said (press_off_sends p k)
  about_press_off None k = tt
  about_press_off (Some h) k = (tt, (tt, tt))

  about_off : (a : Option Arrival) → Said (mobile_off_sends a)
  about_off None = tt
  about_off (Some a) = (tt, (tt, (tt, tt)))

  about_press_on : (d : ℕ) (n : Number) (c : Channel) → Tells (press_on d n c)
  unfolding press_on
  about_press_on d n c = (tt, each_append (IsAbout P) (opening_sends c.call (press_call d n)) _ (about_opening c.call (press_call d n)) (tt, tt))

  about_mobile_on : (e b : ℕ) (n : Number) (c : Channel) → Tells (mobile_on e b n c)
  unfolding mobile_on
  about_mobile_on e b n c =
      let new = mobile_call (mobile_recipients c.holder e) b n in
      (tt, (tt, each_append (IsAbout P) (opening_sends c.call new) _ (about_opening c.call new) (tt, tt)))

  about_ring_off : (k : Option Call) → Said (ring_off_sends k)
  about_ring_off None = tt
  about_ring_off (Some k) = (tt, (tt, tt))

  about_unanswered : (r : ℕ) (c : Channel) → Tells (unanswered r c)
  unfolding unanswered
  about_unanswered r c = each_append (IsAbout P) (ring_off_sends c.call) _ (about_ring_off c.call) (about_call 0 r c.call)

  about_end_talk : (c : Channel) → Tells (end_talk c)
  unfolding end_talk
  about_end_talk c = each_append (IsAbout P) (press_off_sends c.presser c.call) _ (about_press_off c.presser c.call) (about_off c.arrival)

  -- what frees the channel is about its holder
  module _ (e : ℕ) (c : Channel) (holder : P (holder_place c.holder)) where
    about_cut : Tells (cut e c)
    unfolding cut
    about_cut =
        each_append (IsAbout P) (press_off_sends c.presser c.call) _ (about_press_off c.presser c.call)
        (each_append (IsAbout P) (end_of 1 c.call) (freed_sends e c) (about_call 0 1 c.call) (holder, tt))

    about_release : (d : ℕ) → Tells (release e d c)
    unfolding release
    about_release d = either Tells (held_by d c.holder) _ _ (tt, about_cut) (tt, tt)

    about_tick : Tells (tick e c)
    unfolding tick tick_ring tick_idle tick_quiet tick_release
    about_tick =
        either Tells (is_ringing c) _ _ (either Tells (leb c.ring 1) _ _ (about_unanswered 5 c) tt)
        (either Tells (is_pressed c) _ _ tt
        (either Tells (is_present c.arrival) _ _ tt
        (either Tells (ltb 0 c.quiet) _ _
        (either Tells (leb c.quiet 1) _ _ (about_call 0 3 c.call) tt)
        (either Tells (is_held c.holder) _ _ (either Tells (leb c.release 1) _ _ (holder, tt) tt) tt))))

    about_end_call : Tells (end_call e c)
    unfolding end_call
    about_end_call =
        each_append (IsAbout P) (sent_if (is_ringing c) (ring_off_sends c.call)) _ (either Said (is_ringing c) _ _ (about_ring_off c.call) tt)
        (each_append (IsAbout P) (end_of 2 c.call) _ (about_call 0 2 c.call) (either Said (is_held c.holder) _ _ (holder, tt) tt))

about_capture : (h : Option ℕ) (e d : ℕ) (c : Channel) → Tells (Concerned (Capture d) c) (capture_at h e d c)
about_capture None e d c = either (Tells (Concerned (Capture d) c)) (is_ringing c) _ _ (tt, tt) (tt, (inr (inl refl), tt))
about_capture (Some h) e d c = (tt, tt)

about_answer : (e d : ℕ) (matched : Bool) (c : Channel) → Tells (Concerned (RingAnswer d matched) c) (ring_answer e d matched c)
unfolding ring_answer answered
about_answer e d true c = (tt, (tt, (inr (inr refl), tt)))
about_answer e d false c = (tt, tt)

pub about_the_holder : AboutTheHolder
unfolding happens capture press_off mobile_off ring
about_the_holder (Capture d) e c = about_capture c.holder e d c
about_the_holder (Release d) e c = about_release _ e c (inl refl) d
about_the_holder Cut e c = about_cut _ e c (inl refl)
about_the_holder (PressOn d n) e c = about_press_on _ d n c
about_the_holder PressOff e c = about_press_off _ c.presser c.call
about_the_holder (MobileOn b n) e c = about_mobile_on _ e b n c
about_the_holder MobileOff e c = about_off _ c.arrival
about_the_holder (Ring d b n) e c = (tt, (tt, (tt, tt)))
about_the_holder Cancel e c = about_unanswered _ 2 c
about_the_holder (RingAnswer d matched) e c = about_answer e d matched c
about_the_holder Tick e c = about_tick _ e c (inl refl)
about_the_holder EndTalk e c = about_end_talk _ c
about_the_holder EndCall e c = about_end_call _ e c (inl refl)

pub number_for_the_holder : NumberForTheHolder
number_for_the_holder desk channel holder state own h = rw h

pub arrival_outlives_a_cut : ArrivalOutlivesACut
unfolding cut
arrival_outlives_a_cut e c = refl

-- a step that leaves the release timer at r
abbrev Leaves : ℕ → Step → Type 0
Leaves r st = st.next.release ≡ r

quiet_keeps : (c : Channel) → Leaves c.release (tick_quiet c)
unfolding tick_quiet
quiet_keeps c = either (Leaves c.release) (leb c.quiet 1) _ _ refl refl

idle_keeps : (e : ℕ) (c : Channel) → ltb 0 c.quiet ≡ true → Leaves c.release (tick_idle e c)
unfolding tick_idle
idle_keeps e c q = rw q (quiet_keeps c)

pub one_timer_at_a_time : OneTimerAtATime
unfolding tick tick_ring unanswered
one_timer_at_a_time e c q =
    let kept = Leaves c.release in
    either kept (is_ringing c) _ _ (either kept (leb c.ring 1) _ _ refl refl)
    (either kept (is_pressed c) _ _ refl (either kept (is_present c.arrival) _ _ refl (idle_keeps e c q)))

-- ---- 130 ticks

-- 130 ticks of a held channel with an open call, no press and no arrival
ticking : (e code entitled d : ℕ) (k : Call)
    → by_ticks 130 e (quietly code entitled d (Some k))
    ≡ replicate 9 ([], (true, true))
    ++ ((end_of 3 (Some k), (false, true)) ∷ replicate 119 ([], (false, true)) ++ ((to e (CaptureState d 0) ∷ [], (false, false)) ∷ []))
unfolding quietly by_ticks tick tick_idle tick_quiet tick_release
ticking e code entitled d k = refl

pub ten_and_a_hundred_and_thirty : TenAndAHundredAndThirty
unfolding quietly press_off
ten_and_a_hundred_and_thirty e c d h a o r =
    let q : (press_off c).next ≡ quietly c.code c.entitled d c.call = rw (h, a, r) in
    ap (by_ticks 130 e) q ∙ go c.call o ∙ rw h
  where
    go : (k : Option Call) → is_open k ≡ true
        → by_ticks 130 e (quietly c.code c.entitled d k)
        ≡ replicate 9 ([], (true, true))
        ++ ((end_of 3 k, (false, true)) ∷ replicate 119 ([], (false, true)) ++ ((to e (CaptureState d 0) ∷ [], (false, false)) ∷ []))
    go None i = absurd (false≢true i)
    go (Some k) i = ticking e c.code c.entitled d k

-- ---- rings

pub ring_to_the_called : RingToTheCalled
unfolding ring
ring_to_the_called d b n c = ((refl, (refl, (refl, tt))), refl)

pub ring_end_to_the_called : RingEndToTheCalled
unfolding unanswered
ring_end_to_the_called reason c k e = rw e (refl, (refl, (refl, tt)))

pub fourteen_and_the_fifteenth : FourteenAndTheFifteenth
unfolding ring ring_ticks tick tick_ring unanswered
fourteen_and_the_fifteenth e d b n c = refl

pub cancel_is_the_same : CancelIsTheSame
unfolding happens ring unanswered
cancel_is_the_same e d b n c = refl

pub handover_cancels : HandoverCancels
unfolding happens end_talk end_call unanswered
handover_cancels e c ok q =
    let r = ok.rung q in
    rw (r.nobody_presses, r.nobody-talks, r.nobody-holds, q) (simp append-nil refl)
