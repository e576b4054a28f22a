-- What is left of a set when the numbers that B may not learn are hidden, and that rows and rules go by it: it shows B all that the
-- set does.
-- Assumes nothing.
use Prim.Native.Nat.{ℕ}
use mathlib.Core.List.{List, [], ◌∷◌, ◌++◌, map, map-append}
use mathlib.Core.Bool.{Bool, true, cond}
use mathlib.Core.Path.{◌≡◌, refl, sym, ap, ◌∙◌}
use lib.Dec.{eqb}
use lib.ListN.{length, get_or, take, drop, set, length-map, get_or-map}
use Rattle.laws.specs.Each.{Each}
use Rattle.laws.proofs.Each.{◌▹◌}
use Rattle.laws.proofs.Lists.{take-map, drop-map, map-set}
use Rattle.laws.proofs.Table.{pick_matched}
use Rattle.telegram.specs.Telegram.{read_telegram}
use Rattle.telegram.specs.declared.message.Number.{Number}
use Rattle.telegram.specs.Telegram.{Reading}
use Rattle.channel.specs.State.{is_in}
use Rattle.channel.specs.declared.state.Channel.{Channel}
use Rattle.channel.specs.declared.state.Event.{Event}
use Rattle.channel.specs.declared.state.Event.TheVariants.{Cut, PressOn, PressOff, MobileOn, MobileOff, Ring, Cancel, RingAnswer, Tick, EndTalk, EndCall}
use Rattle.channel.specs.declared.state.Notice.{Notice}
use Rattle.channel.specs.declared.state.Notice.TheVariants.{PressAnswer, Incoming, BaseArrival, Call, PressNotice, CallerNotice, CaptureReply, CaptureState, RingNotice, AnswerReply, CallResult}
use Rattle.channel.specs.declared.state.Send.{Send}
use Rattle.line_rules.specs.Rules.{Step, happens}
use Rattle.line_rules.specs.Notices.{content_for}
use Rattle.line_rules.specs.Veil.{veil, hide, hide_notice, hide_send, hide_sends, hide_step}
use Rattle.line_rules.proofs.Kept.{hide_twice, present_hide, open_hide, happens-hide}
use Rattle.set_state.specs.State.{no_channel, own_of, place_of, place_in, channel_at, listeners_of, with_channels}
use Rattle.set_state.specs.declared.state.Desk.{Desk}
use Rattle.set_state.specs.declared.state.LineSet.{LineSet}
use Rattle.set_state.specs.declared.state.LinkRequest.TheVariants.{TellsTime, TellsState}
use Rattle.set_state.specs.declared.state.Request.{Request}
use Rattle.set_state.specs.declared.state.Request.TheVariants.{OfLink, OnChannel, AnswersRing, Foreign}
use Rattle.set_rules.specs.Entries.{telegram_in, entry_kind, entry_desk, entry_channel, entry_on, entry_base, entry_number, entry_called, ReadEntry}
use Rattle.set_rules.specs.Refusals.{Lookup, lookup_in, Test, asked_in, named_by, number_in, called_place, first_of, refusal_of, table}
use Rattle.set_rules.specs.Records.{Delivery, delivered, record_size, records_of, space_of}
use Rattle.set_rules.specs.SetRules.{Effect, effect, time_taken, answer_taken, on_channel, moved_in, sends_of, ticked, tick_sends, end_sends, on_tick, on_handover, on_request, ways, accepted_by}
use Rattle.set_rules.specs.Feeds.{received}
use Rattle.set_rules.proofs.Received.{AllLike, space_like, received_like, like_append}

module _ (B : ℕ) where
  abbrev pub hides : List Channel → List Channel
  hides cs = map (hide B) cs

  abbrev pub hide_set : LineSet → LineSet
  hide_set s = with_channels (hides s.channels) s

  pub hides_twice : (cs : List Channel) → hides (hides cs) ≡ hides cs
  hides_twice [] = refl
  hides_twice (c ∷ cs) = rw (hide_twice B c, hides_twice cs)

  -- ---- what a set is asked goes by what is left of it

  place_map : (k : ℕ) (cs : List Channel) → place_of k (hides cs) ≡ place_of k cs
  unfolding place_of
  place_map k [] = refl
  place_map k (c ∷ cs) = rw (place_map k cs)

  place-hide : (n k : ℕ) (cs : List Channel) → place_of k (take n (hides cs)) ≡ place_of k (take n cs)
  place-hide n k cs = ap (place_of k) (take-map (hide B) n cs) ∙ place_map k (take n cs)

  count-hide : (n : ℕ) (cs : List Channel) → length (take n (hides cs)) ≡ length (take n cs)
  count-hide n cs = ap length (take-map (hide B) n cs) ∙ length-map (take n cs) (hide B)

  at-hide : (n i : ℕ) (cs : List Channel) → get_or (take n (hides cs)) i no_channel ≡ hide B (get_or (take n cs) i no_channel)
  at-hide n i cs = ap (λ (l : List Channel). get_or l i no_channel) (take-map (hide B) n cs) ∙ get_or-map (hide B) (take n cs) i no_channel

  pub channel_at-hide : (s : LineSet) (ch : ℕ) → channel_at (hide_set s) ch ≡ hide B (channel_at s ch)
  channel_at-hide s ch =
      ap (λ (p : ℕ). get_or (take s.size.channels (hides s.channels)) p no_channel) (place-hide s.size.channels ch s.channels)
      ∙ at-hide s.size.channels (place_in s ch) s.channels

  -- what is left of what the rows go by
  abbrev hide_lookup : Lookup → Lookup
  hide_lookup v = record { planned = v.planned; desks = v.desks; count = v.count; found = v.found; channel = hide B v.channel }

  lookup_hide : (s : LineSet) (ch : ℕ) → lookup_in (hide_set s) ch ≡ hide_lookup (lookup_in s ch)
  lookup_hide s ch = rw (channel_at-hide s ch, place-hide s.size.channels ch s.channels, count-hide s.size.channels s.channels) refl

  -- a row that goes by that
  abbrev Blind : Lookup → List ℕ → Reading → ReadEntry → ℕ × Test → Type 0
  Blind v e r x row = row.1 (hide_lookup v) e r x ≡ row.1 v e r x

  rows-hide : (v : Lookup) (e : List ℕ) (r : Reading) (x : ReadEntry) (rows : List (ℕ × Test)) → Each (Blind v e r x) rows
      → first_of rows (hide_lookup v) e r x ≡ first_of rows v e r x
  unfolding first_of
  rows-hide v e r x [] w = refl
  rows-hide v e r x (row ∷ rows) w = rw (w.0, rows-hide v e r x rows w.1)

  -- only 15 and 17 look at more of the channel than its holder, press, ring and entitled desks
  blind : (v : Lookup) (e : List ℕ) (r : Reading) (x : ReadEntry) → Each (Blind v e r x) table
  blind v e r x =
      refl ▹ refl ▹ refl ▹ refl ▹ refl ▹ refl ▹ refl ▹ refl ▹ refl ▹ refl ▹ refl
      ▹ (rw (present_hide B v.channel.arrival))
      ▹ (rw (present_hide B v.channel.arrival, open_hide B v.channel.call))
      ▹ tt

  pub refusal-hide : (s : LineSet) (e : List ℕ) (x : ReadEntry) → refusal_of (hide_set s) e x ≡ refusal_of s e x
  unfolding refusal_of
  refusal-hide s e x =
      let r = read_telegram (telegram_in e) in
      let ch = named_by (asked_in (entry_desk x) r) x in
      rw (lookup_hide s ch, rows-hide (lookup_in s ch) e r x table (blind (lookup_in s ch) e r x))

  -- ---- what an effect shows B, and what it leaves

  pub record Shown : Type 0 where
    pub left : LineSet
    pub space : ℕ
    pub got : List ℕ

  abbrev pub shown : Effect → Shown
  shown f = record { left = hide_set f.after; space = space_of f.sent; got = received B (records_of f.desks f.sent) }

  -- a notice with its number hidden is alike to B
  seen_notice : (n : Notice) → hide_notice B true n ≡ n
  unfolding veil
  seen_notice (PressAnswer on) = refl
  seen_notice (Incoming on) = refl
  seen_notice (BaseArrival k b n o) = refl
  seen_notice (Call k d b s t r) = refl
  seen_notice (PressNotice k o) = refl
  seen_notice (CallerNotice k b n o) = refl
  seen_notice (CaptureReply r) = refl
  seen_notice (CaptureState h s) = refl
  seen_notice (RingNotice n) = refl
  seen_notice (AnswerReply r) = refl
  seen_notice (CallResult r) = refl

  notice_size : (t : Bool) (own : Number) (ch : ℕ) (n : Notice) → record_size (content_for 0 own ch n) ≡ record_size (content_for 0 own ch (hide_notice B t n))
  notice_size t own ch (PressAnswer on) = refl
  notice_size t own ch (Incoming on) = refl
  notice_size t own ch (BaseArrival k b n o) = refl
  notice_size t own ch (Call k d b s st r) = refl
  notice_size t own ch (PressNotice k o) = refl
  notice_size t own ch (CallerNotice k b n o) = refl
  notice_size t own ch (CaptureReply r) = refl
  notice_size t own ch (CaptureState h s) = refl
  notice_size t own ch (RingNotice n) = refl
  notice_size t own ch (AnswerReply r) = refl
  notice_size t own ch (CallResult r) = refl

  like_hidden : (ds : List Desk) (ch : ℕ) (ss : List Send) → AllLike B (delivered ds ch ss) (delivered ds ch (hide_sends B ss))
  unfolding delivered
  like_hidden ds ch [] = tt
  like_hidden ds ch (s ∷ ss) = (
    record {
      recipients = refl;
      space = notice_size (is_in B s.recipients) (own_of ds 0) ch s.notice;
      told = λ h. ap (content_for B (own_of ds B) ch) (sym (ap (λ (t : Bool). hide_notice B t s.notice) h ∙ seen_notice s.notice));
    },
    like_hidden ds ch ss,
  )

  -- two lists of sends with the same hidden ones
  space_hidden : (ds : List Desk) (ch : ℕ) (ss ts : List Send) → hide_sends B ss ≡ hide_sends B ts → space_of (delivered ds ch ss) ≡ space_of (delivered ds ch ts)
  space_hidden ds ch ss ts h =
      space_like B _ _ (like_hidden ds ch ss) ∙ ap (λ (l : List Send). space_of (delivered ds ch l)) h ∙ sym (space_like B _ _ (like_hidden ds ch ts))

  got_hidden : (ds : List Desk) (ch : ℕ) (ss ts : List Send) → hide_sends B ss ≡ hide_sends B ts
      → received B (records_of ds (delivered ds ch ss)) ≡ received B (records_of ds (delivered ds ch ts))
  got_hidden ds ch ss ts h =
      received_like B ds _ _ (like_hidden ds ch ss)
      ∙ ap (λ (l : List Send). received B (records_of ds (delivered ds ch l))) h
      ∙ sym (received_like B ds _ _ (like_hidden ds ch ts))

  -- ---- one channel

  abbrev at_place : LineSet → ℕ → Channel → Step → Effect
  at_place s p c st = effect s (with_channels (set s.channels p st.next) s) (delivered s.desks c.code st.sends)

  pub place-shown : (s : LineSet) (p : ℕ) (c : Channel) (st st' : Step) → hide_step B st ≡ hide_step B st' → shown (at_place s p c st) ≡ shown (at_place s p c st')
  place-shown s p c st st' h =
      let n : hide B st.next ≡ hide B st'.next = ap (λ (x : Step). x.next) h in
      let t : hide_sends B st.sends ≡ hide_sends B st'.sends = ap (λ (x : Step). x.sends) h in
      let m : hides (set s.channels p st.next) ≡ hides (set s.channels p st'.next) =
      map-set (hide B) s.channels p st.next ∙ ap (set (hides s.channels) p) n ∙ sym (map-set (hide B) s.channels p st'.next) in
      rw (m, space_hidden s.desks c.code st.sends st'.sends t, got_hidden s.desks c.code st.sends st'.sends t)

  place-left : (s : LineSet) (p : ℕ) (c : Channel) (st : Step) → shown (at_place (hide_set s) p (hide B c) st) ≡ shown (at_place s p c st)
  place-left s p c st =
      let m : hides (set (hides s.channels) p st.next) ≡ hides (set s.channels p st.next) =
      map-set (hide B) (hides s.channels) p st.next ∙ ap (λ (l : List Channel). set l p (hide B st.next)) (hides_twice s.channels) ∙ sym (map-set (hide B) s.channels p st.next) in
      rw m

  on-hide : (s : LineSet) (ch : ℕ) (v : Event) → shown (on_channel (hide_set s) ch v) ≡ shown (on_channel s ch v)
  unfolding on_channel
  on-hide s ch v =
      let c = channel_at s ch in
      let e = listeners_of s.desks s.size.desks c in
      let p = place_in s ch in
      rw (place-hide s.size.channels ch s.channels, at-hide s.size.channels p s.channels)
      (place-left s p c (happens v e (hide B c)) ∙ place-shown s p c (happens v e (hide B c)) (happens v e c) (happens-hide B v e c))

  -- ---- all channels

  moved-hide : (ds : List Desk) (n : ℕ) (v : Event) (c : Channel) → hide_step B (moved_in ds n v (hide B c)) ≡ hide_step B (moved_in ds n v c)
  moved-hide ds n v c = happens-hide B v (listeners_of ds n c) c

  sends-hide : (ds : List Desk) (n : ℕ) (v : Event) (c : Channel) → hide_sends B (moved_in ds n v (hide B c)).sends ≡ hide_sends B (moved_in ds n v c).sends
  sends-hide ds n v c = ap (λ (x : Step). x.sends) (moved-hide ds n v c)

  -- f sends the same but for the numbers, whatever is hidden of a channel
  module _ (ds : List Desk) (f : Channel → List Send) (same-but : (c : Channel) → hide_sends B (f (hide B c)) ≡ hide_sends B (f c)) where
    -- what the channels send, with the numbers hidden
    hidden_of : List Channel → List Delivery
    hidden_of [] = []
    hidden_of (c ∷ cs) = delivered ds c.code (hide_sends B (f c)) ++ hidden_of cs

    like_all : (cs : List Channel) → AllLike B (sends_of ds f cs) (hidden_of cs)
    unfolding sends_of hidden_of
    like_all [] = tt
    like_all (c ∷ cs) =
        like_append B (delivered ds c.code (f c)) (delivered ds c.code (hide_sends B (f c))) (sends_of ds f cs) (hidden_of cs) (like_hidden ds c.code (f c)) (like_all cs)

    hidden_hide : (cs : List Channel) → hidden_of (hides cs) ≡ hidden_of cs
    unfolding hidden_of
    hidden_hide [] = refl
    hidden_hide (c ∷ cs) = rw (same-but c, hidden_hide cs)

    space-all : (cs : List Channel) → space_of (sends_of ds f (hides cs)) ≡ space_of (sends_of ds f cs)
    space-all cs = space_like B _ _ (like_all (hides cs)) ∙ ap space_of (hidden_hide cs) ∙ sym (space_like B _ _ (like_all cs))

    got-all : (cs : List Channel) → received B (records_of ds (sends_of ds f (hides cs))) ≡ received B (records_of ds (sends_of ds f cs))
    got-all cs =
        received_like B ds _ _ (like_all (hides cs))
        ∙ ap (λ (l : List Delivery). received B (records_of ds l)) (hidden_hide cs)
        ∙ sym (received_like B ds _ _ (like_all cs))

  nexts_hide : (ds : List Desk) (n : ℕ) (cs : List Channel) → hides (map (ticked ds n) (hides cs)) ≡ hides (map (ticked ds n) cs)
  nexts_hide ds n [] = refl
  nexts_hide ds n (c ∷ cs) =
      let h : hide B (ticked ds n (hide B c)) ≡ hide B (ticked ds n c) = ap (λ (x : Step). x.next) (moved-hide ds n Tick c) in
      rw (h, nexts_hide ds n cs)

  all-ticked : (ds : List Desk) (n : ℕ) (cs rest : List Channel) → hides (map (ticked ds n) (hides cs) ++ hides rest) ≡ hides (map (ticked ds n) cs ++ rest)
  all-ticked ds n cs rest =
      map-append (hide B) (map (ticked ds n) (hides cs)) (hides rest)
      ∙ rw (nexts_hide ds n cs, hides_twice rest) (sym (map-append (hide B) (map (ticked ds n) cs) rest))

  tick-hide : (s : LineSet) → shown (on_tick (hide_set s)) ≡ shown (on_tick s)
  unfolding on_tick
  tick-hide s =
      let m = s.size.channels in
      let cs = take m s.channels in
      let ds = s.desks in
      let n = s.size.desks in
      let k : take m (hides s.channels) ≡ hides cs = take-map (hide B) m s.channels in
      let d : drop m (hides s.channels) ≡ hides (drop m s.channels) = drop-map (hide B) m s.channels in
      let f = tick_sends ds n in
      let h = sends-hide ds n Tick in
      rw (k, d, all-ticked ds n cs (drop m s.channels), space-all ds f h cs, got-all ds f h cs)

  end_hide : (ds : List Desk) (n : ℕ) (c : Channel) → hide_sends B (end_sends ds n (hide B c)) ≡ hide_sends B (end_sends ds n c)
  end_hide ds n c = simp (map-append (hide_send B), sends-hide ds n EndTalk c, sends-hide ds n EndCall c) refl

  handover_hide : (s : LineSet) → shown (on_handover (hide_set s)) ≡ shown (on_handover s)
  unfolding on_handover
  handover_hide s =
      let cs = take s.size.channels s.channels in
      let ds = s.desks in
      let n = s.size.desks in
      let k : take s.size.channels (hides s.channels) ≡ hides cs = take-map (hide B) s.size.channels s.channels in
      rw (k, space-all ds (end_sends ds n) (end_hide ds n) cs, got-all ds (end_sends ds n) (end_hide ds n) cs)

  -- ---- every accepted entry

  time_hide : (s : LineSet) (d : ℕ) → shown (time_taken (hide_set s) d) ≡ shown (time_taken s d)
  time_hide s d = rw (hides_twice s.channels)

  answer-hide : (s : LineSet) (d a : ℕ) → shown (answer_taken (hide_set s) d a) ≡ shown (answer_taken s d a)
  answer-hide s d a = rw (hides_twice s.channels)

  request-hide : (t : Bool) (s : LineSet) (d : ℕ) (q : Request) → shown (on_request t (hide_set s) d q) ≡ shown (on_request t s d q)
  request-hide t s d (OfLink TellsTime) = time_hide s d
  request-hide t s d (OfLink (TellsState a)) = answer-hide s d a
  request-hide t s d (OnChannel ch n v) = on-hide s ch v
  request-hide t s d (AnswersRing m) = on-hide s m.channel (RingAnswer d t)
  request-hide t s d Foreign = rw (hides_twice s.channels)

  -- whether the entry answers a ring, t, is given: that alone may hang on a hidden number
  pub accepted-hide : (t : Bool) (s : LineSet) (e : List ℕ) (x : ReadEntry) → shown (accepted_by t (hide_set s) e x) ≡ shown (accepted_by t s e x)
  unfolding accepted_by
  accepted-hide t s e x =
      pick_matched (λ f g. shown f ≡ shown g) (entry_kind x) (effect (hide_set s) (hide_set s) []) (effect s s []) (ways t (hide_set s) e x) (ways t s e x) refl
      (rw (hides_twice s.channels))
      (request-hide t s (entry_desk x) (asked_in (entry_desk x) (read_telegram (telegram_in e)))
      ▹ on-hide s (entry_channel x) (cond (eqb (entry_on x) 1) (PressOn (entry_desk x) (own_of s.desks (entry_desk x))) PressOff)
      ▹ on-hide s (entry_channel x) Cut
      ▹ on-hide s (entry_channel x) (MobileOn (entry_base x) (number_in (entry_number x)))
      ▹ on-hide s (entry_channel x) MobileOff
      ▹ tick-hide s
      ▹ refl
      ▹ handover_hide s
      ▹ on-hide s (entry_channel x) (Ring (called_place s.desks s.size.desks (entry_called x)) (entry_base x) (number_in (entry_number x)))
      ▹ on-hide s (entry_channel x) Cancel
      ▹ tt)
