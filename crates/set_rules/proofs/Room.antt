-- No entry sends more than `room_enough` bytes, whatever the feed before: how many desks are told, how many bytes each record takes,
-- and then a bound for each kind of entry. A handover sends most.
-- Assumes nothing.
use Prim.Native.Nat.{ℕ, zero, suc, ◌+◌, ◌*◌, ◌/◌, ◌%◌, ◌≤◌, ◌<◌}
use mathlib.Core.List.{List, [], ◌∷◌, ◌++◌}
use mathlib.Core.Bool.{Bool, true, false, false≢true}
use mathlib.Core.Path.{◌≡◌, refl, sym, ◌∙◌}
use native.Mathlib.Omega.{arith}
use native.Mathlib.Nat.{le_trans, suc-mul, zero-add, mul-le-mul_right}
use lib.Count.{ones_in}
use lib.Dec.{eqb, leb, ltb}
use lib.ListN.{length, length-take, take, get_or, get_or-eq_default}
use borrow.Author.Tests.{eqb-false, leb-false, ltb-false, ltb-true}
use Rattle.std.specs.Prelude.{Option, None, Some, Ok, Err}
use Rattle.laws.specs.Each.{Each}
use Rattle.laws.proofs.Each.{◌▹◌, each_at, each_both, each_map, each_take}
use Rattle.laws.proofs.Table.{pick_each}
use Rattle.laws.proofs.Tests.{both, by_test, either}
use Rattle.telegram.specs.Telegram.{read_telegram}
use Rattle.telegram.specs.declared.message.Number.{Number}
use Rattle.telegram.specs.Telegram.{Reading}
use Rattle.channel.specs.State.{only, first_desks, is_in, is_held, held_by, is_present}
use Rattle.channel.specs.declared.state.Call.{Call}
use Rattle.channel.specs.declared.state.Arrival.{Arrival}
use Rattle.channel.specs.declared.state.Channel.{Channel}
use Rattle.channel.specs.declared.state.Event.{Event}
use Rattle.channel.specs.declared.state.Event.TheVariants.{Capture, Release, Cut, PressOn, PressOff, MobileOn, MobileOff, Ring, Cancel, RingAnswer, Tick, EndTalk, EndCall}
use Rattle.channel.specs.declared.state.Notice.TheVariants.{PressAnswer, Incoming, BaseArrival, PressNotice, CallerNotice}
use Rattle.channel.specs.declared.state.Send.{Send}
use Rattle.line_rules.specs.Rules.{Step, is_ringing, happens, capture, capture_at, cut, release, press_on, press_off, mobile_on, mobile_off, ring, unanswered, answered, ring_answer, tick, tick_ring, tick_idle, tick_quiet, tick_release, end_talk, end_call, is_pressed, opening_sends, call_sends, end_of, press_off_sends, press_call, mobile_call, mobile_off_sends, ring_off_sends, freed_sends, mobile_recipients, sent_if, kind_of, to}
use Rattle.line_rules.specs.Invariant.{ChannelOk, Rung}
use Rattle.line_rules.specs.Among.{AllListen, CallTold, ArrivalTold, Among}
use Rattle.line_rules.proofs.Kept.{only-other}
use Rattle.set_state.specs.State.{new_set, no_desk, no_channel, is_running, listeners_of, channels_of, place_in, channel_at}
use Rattle.frames.specs.Bytes.{byte}
use Rattle.set_state.proofs.Kept.{listeners_exactly}
use Rattle.set_state.specs.declared.state.Desk.{Desk}
use Rattle.set_state.specs.declared.state.LineSet.{LineSet}
use Rattle.set_state.specs.Entry.{refusal_in}
use Rattle.set_state.specs.declared.state.LinkRequest.TheVariants.{TellsTime, TellsState}
use Rattle.set_state.specs.declared.state.Request.{Request}
use Rattle.set_state.specs.declared.state.Request.TheVariants.{OfLink, OnChannel, AnswersRing, Foreign}
use Rattle.set_rules.specs.Entries.{read_entry, measured, payload, payload_ok, telegram_in, plan_in, entry_kind, entry_desk, entry_channel, ReadEntry}
use Rattle.set_rules.specs.Plan.{set_of}
use Rattle.set_rules.specs.Refusals.{Lookup, Test, asked_in, first_of, table, refusal_of}
use Rattle.set_rules.specs.Records.{delivered, space_of}
use Rattle.set_rules.specs.SetRules.{Effect, on_channel, sends_of, tick_sends, end_sends, on_tick, on_handover, on_plan, answers_in, on_request, ways, accepted_by, accepted}
use Rattle.set_rules.specs.Feeds.{Item, outcome_of, step_of, after}
use Rattle.set_rules.specs.RecordLaws.{OfKind}
use Rattle.set_rules.specs.Invariant.{Shaped, around_of}
use Rattle.set_rules.specs.Promises.{room_enough, Roomy, Brings}
use Rattle.set_rules.proofs.Answers.{space-append}
use Rattle.set_rules.proofs.Rows.{payload_of_kind}
use Rattle.set_rules.proofs.Readable.{always_ok}
use Rattle.set_rules.proofs.Shape.{always_shaped}
use Rattle.set_rules.proofs.Told.{always_among}

-- ---- how many desks a set has

-- a set of some of the first n desks
ones_most : (k n m : ℕ) → ((d : ℕ) → is_in d m ≡ true → d < n) → ones_in k m ≤ n
unfolding ones_in is_in
ones_most zero n m h = omega arith
ones_most (suc k) zero m h =
    let z = by_test (eqb (m % 2) 1) (λ p. absurd (omega (arith, h 0 p))) (λ p. eqb-false (m % 2) 1 p) in
    let rest = ones_most k 0 (m / 2) (λ d i. absurd (omega (arith, h (suc d) i))) in
    omega (arith, z, rest)
ones_most (suc k) (suc n) m h =
    let rest = ones_most k n (m / 2) (λ d i. omega (arith, h (suc d) i)) in
    omega (arith, rest)

-- any set, by its places
ones_places : (k m : ℕ) → ones_in k m ≤ k
unfolding ones_in
ones_places zero m = omega arith
ones_places (suc k) m = omega (arith, ones_places k (m / 2))

-- a set of no desk but d
ones_one : (k d m : ℕ) → ((j : ℕ) → (d ≡ j → ⊥) → is_in j m ≡ false) → ones_in k m ≤ 1
unfolding ones_in is_in
ones_one zero d m h = omega arith
ones_one (suc k) zero m h =
    let rest = ones_most k 0 (m / 2) (λ j i. absurd (false≢true (sym (h (suc j) (λ p. omega (arith, p))) ∙ i))) in
    omega (arith, rest)
ones_one (suc k) (suc d) m h =
    let z = eqb-false (m % 2) 1 (h 0 (λ p. omega (arith, p))) in
    let rest = ones_one k d (m / 2) (λ j n. h (suc j) (λ p. n (omega (arith, p)))) in
    omega (arith, z, rest)

one_desk : (d : ℕ) → ones_in 8 (only d) ≤ 1
one_desk d = ones_one 8 d (only d) (λ j n. only-other j d n)

-- ---- the space that sends take

-- what a handover sends of one channel, at most
abbrev per_channel : ℕ
per_channel = 718

-- the sets kept in a channel have at most four desks, and while a mobile rings there is nothing else to end
abbrev CallFew : Option Call → Type 0
CallFew None = Unit {0}
CallFew (Some k) = ones_in 8 k.recipients ≤ 4

abbrev ArrivalFew : Option Arrival → Type 0
ArrivalFew None = Unit {0}
ArrivalFew (Some a) = ones_in 8 a.recipients ≤ 4

record Few (c : Channel) : Type 0 where
  call-few : CallFew c.call
  arrival-few : ArrivalFew c.arrival
  rung : is_ringing c ≡ true → Rung c

module _ (ds : List Desk) (ch : ℕ) where
  unfoldable takes : List Send → ℕ
  takes ss = space_of (delivered ds ch ss)

  abbrev Within : ℕ → Step → Type 0
  Within n st = takes st.sends ≤ n

  takes-append : (ss ts : List Send) → takes (ss ++ ts) ≡ takes ss + takes ts
  unfolding takes delivered space_of
  takes-append [] ts = sym (zero-add (takes ts))
  takes-append (s ∷ ss) ts = let e = takes-append ss ts in omega arith

  nothing-takes : (n : ℕ) → takes [] ≤ n
  unfolding takes delivered space_of
  nothing-takes n = omega arith

  -- 550473: 51 bytes
  call-takes : (t r : ℕ) (k : Option Call) → CallFew k → takes (call_sends t r k) ≤ 204
  unfolding takes delivered space_of
  call-takes t r None f = omega arith
  call-takes t r (Some k) f = omega (arith, f)

  -- a contact of 8 bytes, and 550477: 38
  press_off_takes : (p : Option ℕ) (k : Option Call) → takes (press_off_sends p k) ≤ 46
  unfolding takes delivered space_of
  press_off_takes None k = omega arith
  press_off_takes (Some d) k = omega (arith, one_desk d)

  -- a contact, 550464 and 550477: 8, 37 and 38
  mobile_off_takes : (a : Option Arrival) → ArrivalFew a → takes (mobile_off_sends a) ≤ 332
  unfolding takes delivered space_of
  mobile_off_takes None f = omega arith
  mobile_off_takes (Some a) f = omega (arith, f)

  -- a contact and 550480: 8 and 35
  ring_off_takes : (k : Option Call) → CallFew k → takes (ring_off_sends k) ≤ 172
  unfolding takes delivered space_of
  ring_off_takes None f = omega arith
  ring_off_takes (Some k) f = omega (arith, f)

  module _ (e : ℕ) (listeners : ones_in 8 e ≤ 4) (c : Channel) (few : Few c) where
    -- 550651: 34 bytes
    freed-takes : takes (freed_sends e c) ≤ 136
    unfolding takes delivered space_of
    freed-takes = omega (arith, listeners)

    -- ---- what each rule sends at most

    -- 550650: 25 bytes
    capture-takes : (d : ℕ) → takes (capture e d c).sends ≤ 161
    unfolding capture takes delivered space_of
    capture-takes d = go c.holder
      where
        go : (h : Option ℕ) → takes (capture_at h e d c).sends ≤ 161
        go None = either (Within 161) (is_ringing c) _ _ (omega (arith, one_desk d)) (omega (arith, one_desk d, listeners))
        go (Some h) = omega (arith, one_desk d)

    cut-takes : takes (cut e c).sends ≤ 386
    unfolding cut
    cut-takes =
        let p = takes-append (press_off_sends c.presser c.call) (end_of 1 c.call ++ freed_sends e c) in
        let q = takes-append (end_of 1 c.call) (freed_sends e c) in
        omega (arith, p, q, press_off_takes c.presser c.call, call-takes 0 1 c.call few.call-few, freed-takes)

    release-takes : (d : ℕ) → takes (release e d c).sends ≤ 411
    unfolding release takes delivered space_of
    release-takes d =
        either (Within 411) (held_by d c.holder) _ _
        (omega (arith, one_desk d, cut-takes))
        (omega (arith, one_desk d))

    press_on-takes : (d : ℕ) (n : Number) → takes (press_on d n c).sends ≤ 97
    unfolding press_on takes delivered space_of
    press_on-takes d n = go c.call
      where
        go : (k : Option Call) → takes (to (only d) (PressAnswer 1) ∷ opening_sends k (press_call d n) ++ (to (only d) (PressNotice (kind_of k) 1) ∷ [])) ≤ 97
        go None = omega (arith, one_desk d)
        go (Some k) = omega (arith, one_desk d)

    press_off-takes : takes (press_off c).sends ≤ 46
    unfolding press_off
    press_off-takes = press_off_takes c.presser c.call

    mobile-few : (h : Option ℕ) → ones_in 8 (mobile_recipients h e) ≤ 4
    mobile-few None = listeners
    mobile-few (Some d) = omega (arith, one_desk d)

    mobile_on-takes : (b : ℕ) (n : Number) → takes (mobile_on e b n c).sends ≤ 536
    unfolding mobile_on takes delivered space_of
    mobile_on-takes b n = go (mobile_recipients c.holder e) (mobile-few c.holder) c.call
      where
        go : (m : ℕ) → ones_in 8 m ≤ 4 → (k : Option Call)
            → takes (to m (Incoming 1) ∷ to m (BaseArrival (kind_of k) b n 1) ∷ opening_sends k (mobile_call m b n) ++ (to m (CallerNotice (kind_of k) b n 1) ∷ [])) ≤ 536
        go m f None = omega (arith, f)
        go m f (Some k) = omega (arith, f)

    mobile_off-takes : takes (mobile_off c).sends ≤ 332
    unfolding mobile_off
    mobile_off-takes = mobile_off_takes c.arrival few.arrival-few

    -- a contact, 550468 and 550473 to one desk: 8, 43 and 51
    ring-takes : (d b : ℕ) (n : Number) → takes (ring d b n c).sends ≤ 102
    unfolding ring takes delivered space_of
    ring-takes d b n = omega (arith, one_desk d)

    -- a cancel, and a ring that times out
    unanswered-takes : (reason : ℕ) → takes (unanswered reason c).sends ≤ 376
    unfolding unanswered
    unanswered-takes reason =
        let p = takes-append (ring_off_sends c.call) (end_of reason c.call) in
        omega (arith, p, ring_off_takes c.call few.call-few, call-takes 0 reason c.call few.call-few)

    -- 550469 and 550480 to one desk, and 550651: 25, 35 and 34
    answer-takes : (d : ℕ) (t : Bool) → takes (ring_answer e d t c).sends ≤ 196
    unfolding ring_answer answered takes delivered space_of
    answer-takes d t = either (Within 196) t _ _ (omega (arith, one_desk d, listeners)) (omega (arith, one_desk d))

    -- a ring's end, a call's end, or a release
    tick-takes : takes (tick e c).sends ≤ 376
    unfolding tick tick_ring tick_idle tick_quiet tick_release
    tick-takes =
        let P = Within 376 in
        let none = nothing-takes 376 in
        either P (is_ringing c) _ _
        (either P (leb c.ring 1) _ _ (unanswered-takes 5) none)
        (either P (is_pressed c) _ _ none
        (either P (is_present c.arrival) _ _ none
        (either P (ltb 0 c.quiet) _ _
        (either P (leb c.quiet 1) _ _ (omega (arith, call-takes 0 3 c.call few.call-few)) none)
        (either P (is_held c.holder) _ _ (either P (leb c.release 1) _ _ (omega (arith, freed-takes)) none) none))))

    end_talk-takes : takes (end_talk c).sends ≤ 378
    unfolding end_talk
    end_talk-takes =
        let p = takes-append (press_off_sends c.presser c.call) (mobile_off_sends c.arrival) in
        omega (arith, p, press_off_takes c.presser c.call, mobile_off_takes c.arrival few.arrival-few)

    -- what is sent if a test holds
    if_takes : (t : Bool) (ss : List Send) (n : ℕ) → takes ss ≤ n → takes (sent_if t ss) ≤ n
    if_takes t ss n l = either (λ (us : List Send). takes us ≤ n) t ss [] l (nothing-takes n)

    -- a ring's end aside
    end_call-takes : (n : ℕ) → takes (sent_if (is_ringing c) (ring_off_sends c.call)) ≤ n → takes (end_call e c).sends ≤ n + 340
    unfolding end_call
    end_call-takes n l =
        let freed = sent_if (is_held c.holder) (freed_sends e c) in
        let p = takes-append (sent_if (is_ringing c) (ring_off_sends c.call)) (end_of 2 c.call ++ freed) in
        let q = takes-append (end_of 2 c.call) freed in
        omega (arith, p, q, l, if_takes (is_held c.holder) (freed_sends e c) 136 freed-takes, call-takes 0 2 c.call few.call-few)

    ended-takes : takes (end_call e c).sends ≤ 512
    ended-takes = omega (arith, end_call-takes 172 (if_takes (is_ringing c) _ 172 (ring_off_takes c.call few.call-few)))

    -- nobody presses or talks while a mobile rings
    rung-takes : is_ringing c ≡ true → takes (end_talk c).sends ≤ 0
    unfolding end_talk
    rung-takes h = let r = few.rung h in rw (r.nobody_presses, r.nobody-talks) (nothing-takes 0)

    handover_takes : takes ((end_talk c).sends ++ (end_call e c).sends) ≤ per_channel
    handover_takes =
        let p = takes-append (end_talk c).sends (end_call e c).sends in
        by_test (is_ringing c)
        (λ h. omega (arith, p, rung-takes h, ended-takes))
        (λ h. omega (arith, p, end_talk-takes, end_call-takes 0 (rw h (nothing-takes 0))))

    -- any event on one channel: a mobile on sends most
    happens-takes : (v : Event) → takes (happens v e c).sends ≤ 536
    unfolding happens
    happens-takes (Capture d) = omega (arith, capture-takes d)
    happens-takes (Release d) = omega (arith, release-takes d)
    happens-takes Cut = omega (arith, cut-takes)
    happens-takes (PressOn d n) = omega (arith, press_on-takes d n)
    happens-takes PressOff = omega (arith, press_off-takes)
    happens-takes (MobileOn b n) = mobile_on-takes b n
    happens-takes MobileOff = omega (arith, mobile_off-takes)
    happens-takes (Ring d b n) = omega (arith, ring-takes d b n)
    happens-takes Cancel = omega (arith, unanswered-takes 2)
    happens-takes (RingAnswer d t) = omega (arith, answer-takes d t)
    happens-takes Tick = omega (arith, tick-takes)
    happens-takes EndTalk = omega (arith, end_talk-takes)
    happens-takes EndCall = omega (arith, ended-takes)

-- ---- entries, in a set of at most 32 channels whose listeners are at most four

module _ (s : LineSet) (shaped : Shaped s) (few : Each Few s.channels) (listeners : (c : Channel) → ones_in 8 (listeners_of s.desks s.size.desks c) ≤ 4) where
  abbrev Room : Effect → Type 0
  Room f = space_of f.sent ≤ room_enough

  -- presses, cuts and mobiles, and what is asked of a channel by telegram
  on_room : (ch : ℕ) (v : Event) → Room (on_channel s ch v)
  unfolding on_channel takes
  on_room ch v =
      let c = channel_at s ch in
      let none : Few no_channel = record { call-few = tt; arrival-few = tt; rung = λ h. absurd (false≢true h) } in
      let at = each_at Few (channels_of s) no_channel (each_take Few s.size.channels s.channels few) none (place_in s ch) in
      omega (arith, happens-takes s.desks c.code (listeners_of s.desks s.size.desks c) (listeners c) c at v)

  -- telegrams
  request-room : (t : Bool) (d : ℕ) (q : Request) → Room (on_request t s d q)
  unfolding space_of
  request-room t d (OfLink TellsTime) = omega (arith, one_desk d)
  request-room t d (OfLink (TellsState a)) = omega arith
  request-room t d (OnChannel ch n v) = on_room ch v
  request-room t d (AnswersRing m) = on_room m.channel _
  request-room t d Foreign = omega arith

  -- all channels, at n bytes each
  all_take : (f : Channel → List Send) (n : ℕ) → ((c : Channel) → Few c → takes s.desks c.code (f c) ≤ n)
      → (cs : List Channel) → Each Few cs → space_of (sends_of s.desks f cs) ≤ length cs * n
  unfolding sends_of takes space_of
  all_take f n h [] o = omega arith
  all_take f n h (c ∷ cs) o =
      let p = space-append (delivered s.desks c.code (f c)) (sends_of s.desks f cs) in
      rw (suc-mul (length cs) n) (omega (arith, p, h c o.0, all_take f n h cs o.1))

  planned-take : (f : Channel → List Send) (n : ℕ) → ((c : Channel) → Few c → takes s.desks c.code (f c) ≤ n)
      → space_of (sends_of s.desks f (channels_of s)) ≤ 32 * n
  planned-take f n h =
      let l : length (channels_of s) ≤ 32 = omega (arith, length-take s.size.channels s.channels, shaped.channels-most) in
      le_trans (all_take f n h (channels_of s) (each_take Few s.size.channels s.channels few)) (mul-le-mul_right n l)

  tick-room : Room (on_tick s)
  unfolding on_tick happens
  tick-room = omega (arith, planned-take (tick_sends s.desks s.size.desks) 376 (λ c f. tick-takes s.desks c.code _ (listeners c) c f))

  handover_room : Room (on_handover s)
  unfolding on_handover happens
  handover_room = omega (arith, planned-take (end_sends s.desks s.size.desks) per_channel (λ c f. handover_takes s.desks c.code _ (listeners c) c f))

  -- a 550461 of 21 bytes to each desk: a set has eight places, whatever the plan
  plan_room : (p : List ℕ) → Room (on_plan p)
  unfolding space_of
  plan_room p = omega (arith, ones_places 8 (first_desks (set_of p).size.desks))

  accepted-room : (e : List ℕ) (x : ReadEntry) → Room (accepted s e x)
  unfolding accepted_by accepted space_of
  accepted-room e x =
      let q = asked_in (entry_desk x) (read_telegram (telegram_in e)) in
      pick_each Room (entry_kind x) _ (ways (answers_in s (entry_desk x) q) s e x) (omega arith)
      ((λ k. request-room _ (entry_desk x) q)
      ▹ (λ k. on_room (entry_channel x) _)
      ▹ (λ k. on_room (entry_channel x) Cut)
      ▹ (λ k. on_room (entry_channel x) _)
      ▹ (λ k. on_room (entry_channel x) MobileOff)
      ▹ (λ k. tick-room)
      ▹ (λ k. plan_room (plan_in e))
      ▹ (λ k. handover_room)
      ▹ (λ k. on_room (entry_channel x) _)
      ▹ (λ k. on_room (entry_channel x) Cancel)
      ▹ tt)

-- ---- no other refusal is 16

abbrev Other : ℕ → Type 0
Other n = n ≡ 16 → ⊥

other : (n : ℕ) → eqb n 16 ≡ false → Other n
other n h = eqb-false n 16 h

-- the number of the first row that holds
first-other : (rows : List (ℕ × Test)) → Each (λ (row : ℕ × Test). Other row.0) rows → (v : Lookup) (e : List ℕ) (r : Reading) (x : ReadEntry) → Other (first_of rows v e r x)
unfolding first_of
first-other [] o v e r x = other 0 refl
first-other (row ∷ rows) o v e r x = either Other (row.1 v e r x) row.0 (first_of rows v e r x) o.0 (first-other rows o.1 v e r x)

rows_other : Each (λ (row : ℕ × Test). Other row.0) table
rows_other =
    let o = other in
    o _ refl ▹ o _ refl ▹ o _ refl ▹ o _ refl ▹ o _ refl ▹ o _ refl ▹ o _ refl ▹ o _ refl ▹ o _ refl ▹ o _ refl ▹ o _ refl ▹ o _ refl
    ▹ o _ refl ▹ tt

-- the number of bytes that do not read
abbrev ReadsOther : ReadEntry → Type 0
ReadsOther x = Other (refusal_in x)

payload-other : (k : ℕ) (e : List ℕ) → ReadsOther (payload k e)
payload-other k e = go (payload k e) (payload_of_kind k e)
  where
    go : (x : ReadEntry) → OfKind k x → ReadsOther x
    go (Ok x) h = other 0 refl
    go (Err r) h = rw h (other 3 refl)

read-other : (e : List ℕ) → ReadsOther (read_entry e)
unfolding read_entry
read-other e =
    either ReadsOther (measured e) _ _
    (either ReadsOther (eqb (byte e 2) 1) _ _ (either ReadsOther (payload_ok (byte e 3) e) _ _ (payload-other (byte e 3) e) (other 3 refl)) (other 2 refl))
    (other 1 refl)

refusal-other : (s : LineSet) (e : List ℕ) → Other (refusal_of s e (read_entry e))
unfolding refusal_of
refusal-other s e =
    either Other (eqb (refusal_in (read_entry e)) 0) _ _
    (first-other table rows_other _ e (read_telegram (telegram_in e)) (read_entry e))
    (read-other e)

-- ---- every feed

-- a desk that is not there is not running
there : (ds : List Desk) (n d : ℕ) → is_running (get_or (take n ds) d no_desk) ≡ true → d < n
there ds n d r =
    by_test (ltb d (length (take n ds)))
    (λ p. omega (arith, ltb-true d (length (take n ds)) p, length-take n ds))
    (λ p. absurd (false≢true (rw (get_or-eq_default (take n ds) no_desk {n = d} (ltb-false d (length (take n ds)) p)) at r)))

-- any mobile's number will do
abbrev Any : Number → Type 0
Any n = Unit {0}

brought : (f : List Item) → Each (Brings Any) f
brought [] = tt
brought (i ∷ f) = (λ k. tt, brought f)

among-few : (s : LineSet) → Shaped s → (c : Channel) → ChannelOk c × Among (around_of s Any) c → Few c
among-few s shaped c k = record { call-few = call c.call k.1.call-told; arrival-few = arrival c.arrival k.1.arrival-told; rung = k.0.rung }
  where
    told : (m : ℕ) → AllListen (around_of s Any) c m → ones_in 8 m ≤ 4
    told m l = le_trans (ones_most 8 s.size.desks m (λ d i. (l d i).0.0)) shaped.desks-most

    call : (k : Option Call) → CallTold (around_of s Any) c k → CallFew k
    call None t = tt
    call (Some k) t = told k.recipients t.listen

    arrival : (x : Option Arrival) → ArrivalTold (around_of s Any) c x → ArrivalFew x
    arrival None t = tt
    arrival (Some a) t = told a.recipients t.listen

listeners_few : (s : LineSet) → Shaped s → (c : Channel) → ones_in 8 (listeners_of s.desks s.size.desks c) ≤ 4
listeners_few s shaped c =
    let e = listeners_of s.desks s.size.desks c in
    let short : length s.desks ≤ 8 = omega (arith, shaped.four-desks) in
    le_trans
    (ones_most 8 s.size.desks e (λ d i.
    there s.desks s.size.desks d (both _ (is_in d c.entitled) (sym (listeners_exactly s.desks s.size.desks c d short) ∙ i)).0))
    shaped.desks-most

room_after : (f : List Item) (e : List ℕ) (x : ReadEntry) → space_of (accepted (after new_set f) e x).sent ≤ room_enough
room_after f e x =
    let s = after new_set f in
    let shaped = always_shaped f in
    let all = each_both ChannelOk (Among (around_of s Any)) s.channels (always_ok f).channels-ok (always_among Any f (brought f)) in
    let few = each_map _ Few (among-few s shaped) s.channels all in
    accepted-room s shaped few (listeners_few s shaped) e x

pub roomy : Roomy
unfolding outcome_of step_of
roomy f i l z =
    go (eqb (refusal_of s i.entry x) 0) refl (leb (space_of (accepted s i.entry x).sent) (length i.buffer)) refl
  where
    s : LineSet
    s = after new_set f

    x : ReadEntry
    x = read_entry i.entry

    go : (t : Bool) → eqb (refusal_of s i.entry x) 0 ≡ t → (u : Bool) → leb (space_of (accepted s i.entry x).sent) (length i.buffer) ≡ u → ⊥
    go true k true m = omega (arith, rw (k, m) at z)
    go true k false m = omega (arith, l, leb-false (space_of (accepted s i.entry x).sent) (length i.buffer) m, room_after f i.entry x)
    go false k u m = refusal-other s i.entry (rw k at z)
