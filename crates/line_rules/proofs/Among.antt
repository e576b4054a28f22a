-- Only listening desks are told of a channel, and each number only to desks that it is for, whatever happens.
-- Assumes nothing.
use Prim.Native.Nat.{ℕ}
use mathlib.Core.List.{List, ◌++◌}
use mathlib.Core.Bool.{Bool}
use mathlib.Core.Logic.{inl, inr}
use mathlib.Core.Path.{◌≡◌, refl, sym, ap, ◌∙◌}
use lib.Dec.{eqb, leb, ltb}
use Rattle.std.specs.Prelude.{Option, None, Some}
use Rattle.laws.specs.Each.{Each}
use Rattle.laws.proofs.Each.{each_append}
use Rattle.laws.proofs.Tests.{either}
use Rattle.telegram.specs.Telegram.{num}
use Rattle.telegram.specs.declared.message.Number.{Number}
use Rattle.channel.specs.State.{only, is_held, held_by, is_present}
use Rattle.line_rules.specs.Rules.{step, sent_if, happens, capture, capture_at, cut, release, press_on, press_off, mobile_on, mobile_off, ring, unanswered, answered, ring_answer, tick, tick_ring, tick_idle, tick_quiet, tick_release, end_talk, end_call, is_pressed, is_ringing, opened_by, opening_sends, call_sends, end_of, press_off_sends, press_call, mobile_call, mobile_off_sends, ring_off_sends, freed_sends, mobile_recipients}
use Rattle.channel.specs.declared.state.Call.{Call}
use Rattle.channel.specs.declared.state.Arrival.{Arrival}
use Rattle.channel.specs.declared.state.Channel.{Channel}
use Rattle.channel.specs.declared.state.Send.{Send}
use Rattle.channel.specs.declared.state.Event.{Event}
use Rattle.channel.specs.declared.state.Event.TheVariants.{Capture, Release, Cut, PressOn, PressOff, MobileOn, MobileOff, Ring, Cancel, RingAnswer, Tick, EndTalk, EndCall}
use Rattle.channel.specs.declared.state.Notice.TheVariants.{PressAnswer, Incoming, BaseArrival, Call as CallNotice, PressNotice, CallerNotice, CaptureReply, CaptureState, RingNotice, AnswerReply, CallResult}
use Rattle.line_rules.specs.Invariant.{Timed, Fits}
use Rattle.line_rules.specs.Among.{Around, Listens, AllListen, ForDesk, Told, HolderListens, CallTold, ArrivalTold, Among, FitsAmong, SendTold, StepAmong}
use Rattle.line_rules.specs.Promises.{FreeIsAmong, SaysForDesk}
use Rattle.line_rules.proofs.Masks.{only-is}

pub free_is_among : FreeIsAmong
free_is_among w code entitled = record { holder_listens = tt; call-told = tt; arrival-told = tt }

pub says_for_desk : SaysForDesk
says_for_desk w c m ch d (PressAnswer on) t i = tt
says_for_desk w c m ch d (Incoming on) t i = tt
says_for_desk w c m ch d (BaseArrival k b n o) t i = (t.learn d i, tt)
says_for_desk w c m ch d (CallNotice k d' b s st r) t i = (t.learn d i, (inl refl, tt))
says_for_desk w c m ch d (PressNotice k o) t i = (inr (inl refl), tt)
says_for_desk w c m ch d (CallerNotice k b n o) t i = (t.learn d i, tt)
says_for_desk w c m ch d (CaptureReply r) t i = tt
says_for_desk w c m ch d (CaptureState h s) t i = (either (ForDesk w d) (eqb h d) (w.own d) (num 0) (inr (inl refl)) (inl refl), tt)
says_for_desk w c m ch d (RingNotice n) t i = (t.learn d i, (inr (inl refl), tt))
says_for_desk w c m ch d (AnswerReply r) t i = tt
says_for_desk w c m ch d (CallResult r) t i = (inr (inl refl), tt)

module _ (w : Around) (e : ℕ) (c : Channel) (listen : AllListen w c e) (timed : Timed c) (ok : Among w c) where
  abbrev SendsTold : List Send → Type 0
  SendsTold = Each (SendTold w c)

  -- ---- a channel with the entitled desks of c

  told_in : (c' : Channel) → c'.entitled ≡ c.entitled → (m : ℕ) (n : Number) → Told w c m n → Told w c' m n
  told_in c' q m n t = record { listen = λ d i. rw q (t.listen d i); learn = t.learn }

  holder_in : (c' : Channel) → c'.entitled ≡ c.entitled → (h : Option ℕ) → HolderListens w c h → HolderListens w c' h
  holder_in c' q None l = tt
  holder_in c' q (Some d) l = rw q l

  call_in : (c' : Channel) → c'.entitled ≡ c.entitled → (k : Option Call) → CallTold w c k → CallTold w c' k
  call_in c' q None t = tt
  call_in c' q (Some k) t = told_in c' q k.recipients k.source t

  arrival_in_lem : (c' : Channel) → c'.entitled ≡ c.entitled → (a : Option Arrival) → ArrivalTold w c a → ArrivalTold w c' a
  arrival_in_lem c' q None t = tt
  arrival_in_lem c' q (Some a) t = told_in c' q a.recipients a.number t

  -- a step, by what it leaves and what it sends
  left : (c' : Channel) (ss : List Send) → c'.entitled ≡ c.entitled
      → HolderListens w c c'.holder → CallTold w c c'.call → ArrivalTold w c c'.arrival → SendsTold ss
      → StepAmong w c (step c' ss)
  left c' ss q h k a s = record {
    next-among = record { holder_listens = holder_in c' q c'.holder h; call-told = call_in c' q c'.call k; arrival-told = arrival_in_lem c' q c'.arrival a };
    sends-told = s;
  }

  plain-among : (ss : List Send) → SendsTold ss → StepAmong w c (step c ss)
  plain-among ss s = record { next-among = ok; sends-told = s }

  -- ---- who is told

  -- a listening desk alone
  alone : (d : ℕ) → Listens w c d → AllListen w c (only d)
  alone d l d' i = rw (only-is d' d i) l

  holder_alone : (d : ℕ) → c.holder ≡ Some d → AllListen w c (only d)
  holder_alone d q = alone d (rw q at ok.holder_listens)

  call_sends_told : (t r : ℕ) (k : Option Call) → CallTold w c k → SendsTold (call_sends t r k)
  call_sends_told t r None o = tt
  call_sends_told t r (Some k) o = (o, tt)

  -- who presses is the holder
  press_off_told : (p : Option ℕ) → c.presser ≡ p → SendsTold (press_off_sends p c.call)
  press_off_told None q = tt
  press_off_told (Some d) q =
      let l = holder_alone d (sym (timed.presser_holds (ap is_held q)) ∙ q) in
      (l, (l, tt))

  off-told : (a : Option Arrival) → ArrivalTold w c a → SendsTold (mobile_off_sends a)
  off-told None t = tt
  off-told (Some a) t = (t.listen, (t, (t, tt)))

  ring_off_told : (k : Option Call) → CallTold w c k → SendsTold (ring_off_sends k)
  ring_off_told None t = tt
  ring_off_told (Some k) t = (t.listen, (t.listen, tt))

  freed-told : SendsTold (freed_sends e c)
  freed-told = (listen, tt)

  opened-told : (k : Option Call) (new : Call) → CallTold w c k → CallTold w c (Some new) → CallTold w c (opened_by k new)
  opened-told None new o p = p
  opened-told (Some k) new o p = o

  opening_told : (k : Option Call) (new : Call) → CallTold w c (Some new) → SendsTold (opening_sends k new)
  opening_told None new p = call_sends_told 1 0 (Some new) p
  opening_told (Some k) new p = tt

  -- ---- the rules

  capture_at-among : (h : Option ℕ) (d : ℕ) → Listens w c d → StepAmong w c (capture_at h e d c)
  capture_at-among None d l =
      either (StepAmong w c) (is_ringing c) _ _
      (plain-among _ (alone d l, tt))
      (left _ _ refl l ok.call-told ok.arrival-told (alone d l, (listen, tt)))
  capture_at-among (Some h) d l = plain-among _ (alone d l, tt)

  capture-among : (d : ℕ) → Listens w c d → StepAmong w c (capture e d c)
  unfolding capture
  capture-among d l = capture_at-among c.holder d l

  cut-among : StepAmong w c (cut e c)
  unfolding cut
  cut-among =
      left _ _ refl tt tt ok.arrival-told
      (each_append (SendTold w c) (press_off_sends c.presser c.call) (end_of 1 c.call ++ freed_sends e c) (press_off_told c.presser refl)
      (each_append (SendTold w c) (end_of 1 c.call) (freed_sends e c) (call_sends_told 0 1 c.call ok.call-told) freed-told))

  release-among : (d : ℕ) → Listens w c d → StepAmong w c (release e d c)
  unfolding release
  release-among d l =
      let k = cut-among in
      either (StepAmong w c) (held_by d c.holder) _ _
      (record { next-among = k.next-among; sends-told = (alone d l, k.sends-told) })
      (plain-among _ (alone d l, tt))

  press_on-among : (d : ℕ) (n : Number) → c.holder ≡ Some d → n ≡ w.own d → StepAmong w c (press_on d n c)
  unfolding press_on
  press_on-among d n q g =
      let l = holder_alone d q in
      let own : CallTold w c (Some (press_call d n)) = record { listen = l; learn = λ d' i. inr (inl (g ∙ ap w.own (sym (only-is d' d i)))) } in
      left _ _ refl ok.holder_listens (opened-told c.call (press_call d n) ok.call-told own) ok.arrival-told
      (l, each_append (SendTold w c) (opening_sends c.call (press_call d n)) _ (opening_told c.call (press_call d n) own) (l, tt))

  press_off-among : StepAmong w c (press_off c)
  unfolding press_off
  press_off-among = left _ _ refl ok.holder_listens ok.call-told ok.arrival-told (press_off_told c.presser refl)

  mobile-listen : (h : Option ℕ) → c.holder ≡ h → AllListen w c (mobile_recipients h e)
  mobile-listen None q = listen
  mobile-listen (Some d) q = holder_alone d q

  mobile_on-among : (b : ℕ) (n : Number) → w.mobile n → StepAmong w c (mobile_on e b n c)
  unfolding mobile_on
  mobile_on-among b n g =
      let m = mobile_recipients c.holder e in
      let t : Told w c m n = record { listen = mobile-listen c.holder refl; learn = λ d i. inr (inr g) } in
      left _ _ refl ok.holder_listens (opened-told c.call (mobile_call m b n) ok.call-told t) t
      (t.listen, (t, each_append (SendTold w c) (opening_sends c.call (mobile_call m b n)) _ (opening_told c.call (mobile_call m b n) t) (t, tt)))

  mobile_off-among : StepAmong w c (mobile_off c)
  unfolding mobile_off
  mobile_off-among = left _ _ refl ok.holder_listens ok.call-told tt (off-told c.arrival ok.arrival-told)

  ring-among : (d b : ℕ) (n : Number) → Listens w c d → w.mobile n → StepAmong w c (ring d b n c)
  unfolding ring
  ring-among d b n l g =
      let t : Told w c (only d) n = record { listen = alone d l; learn = λ d' i. inr (inr g) } in
      left _ _ refl ok.holder_listens t ok.arrival-told (t.listen, (t, (t, tt)))

  unanswered-among : (r : ℕ) → StepAmong w c (unanswered r c)
  unfolding unanswered
  unanswered-among r =
      left _ _ refl ok.holder_listens tt ok.arrival-told
      (each_append (SendTold w c) (ring_off_sends c.call) _ (ring_off_told c.call ok.call-told) (call_sends_told 0 r c.call ok.call-told))

  ring_answer-among : (d : ℕ) (matched : Bool) → Listens w c d → StepAmong w c (ring_answer e d matched c)
  unfolding ring_answer answered
  ring_answer-among d matched l =
      either (StepAmong w c) matched _ _
      (left _ _ refl l ok.call-told ok.arrival-told (alone d l, (alone d l, (listen, tt))))
      (plain-among _ (alone d l, tt))

  tick_ring-among : StepAmong w c (tick_ring c)
  unfolding tick_ring
  tick_ring-among =
      either (StepAmong w c) (leb c.ring 1) _ _ (unanswered-among 5) (left _ _ refl ok.holder_listens ok.call-told ok.arrival-told tt)

  tick_quiet-among : StepAmong w c (tick_quiet c)
  unfolding tick_quiet
  tick_quiet-among =
      either (StepAmong w c) (leb c.quiet 1) _ _
      (left _ _ refl ok.holder_listens tt ok.arrival-told (call_sends_told 0 3 c.call ok.call-told))
      (left _ _ refl ok.holder_listens ok.call-told ok.arrival-told tt)

  tick_release-among : StepAmong w c (tick_release e c)
  unfolding tick_release
  tick_release-among =
      either (StepAmong w c) (leb c.release 1) _ _
      (left _ _ refl tt ok.call-told ok.arrival-told freed-told)
      (left _ _ refl ok.holder_listens ok.call-told ok.arrival-told tt)

  tick-among : StepAmong w c (tick e c)
  unfolding tick tick_idle
  tick-among =
      let P = StepAmong w c in
      either P (is_ringing c) _ _ tick_ring-among
      (either P (is_pressed c) _ _ (plain-among _ tt)
      (either P (is_present c.arrival) _ _ (plain-among _ tt)
      (either P (ltb 0 c.quiet) _ _ tick_quiet-among (either P (is_held c.holder) _ _ tick_release-among (plain-among _ tt)))))

  end_talk-among : StepAmong w c (end_talk c)
  unfolding end_talk
  end_talk-among =
      left _ _ refl tt tt tt
      (each_append (SendTold w c) (press_off_sends c.presser c.call) _ (press_off_told c.presser refl) (off-told c.arrival ok.arrival-told))

  end_call-among : StepAmong w c (end_call e c)
  unfolding end_call
  end_call-among =
      left _ _ refl tt tt tt
      (each_append (SendTold w c) (sent_if (is_ringing c) (ring_off_sends c.call)) _
      (either SendsTold (is_ringing c) _ _ (ring_off_told c.call ok.call-told) tt)
      (each_append (SendTold w c) (end_of 2 c.call) _ (call_sends_told 0 2 c.call ok.call-told) (either SendsTold (is_held c.holder) _ _ freed-told tt)))

  pub happens-among : (v : Event) → Fits v c → FitsAmong w v c → StepAmong w c (happens v e c)
  unfolding happens
  happens-among (Capture d) h g = capture-among d g
  happens-among (Release d) h g = release-among d g
  happens-among Cut h g = cut-among
  happens-among (PressOn d n) h g = press_on-among d n h.1 g
  happens-among PressOff h g = press_off-among
  happens-among (MobileOn b n) h g = mobile_on-among b n g
  happens-among MobileOff h g = mobile_off-among
  happens-among (Ring d b n) h g = ring-among d b n g.0 g.1
  happens-among Cancel h g = unanswered-among 2
  happens-among (RingAnswer d matched) h g = ring_answer-among d matched g
  happens-among Tick h g = tick-among
  happens-among EndTalk h g = end_talk-among
  happens-among EndCall h g = end_call-among
