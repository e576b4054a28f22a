-- A holding lasts until its holder, its timer or a handover ends it; and what an accepted entry finds.
-- Assumes nothing.
use Prim.Native.Nat.{ℕ, zero, suc, ◌≤◌}
use mathlib.Core.List.{List, [], ◌∷◌, ◌++◌, map}
use mathlib.Core.Bool.{Bool, true, false, ◌&&◌, false≢true, true≢false}
use mathlib.Core.Logic.{◌⊎◌, inl, inr}
use mathlib.Core.Path.{◌≡◌, refl, sym, ap, ◌∙◌}
use native.Mathlib.Omega.{arith}
use lib.Dec.{eqb}
use lib.ListN.{take, drop, get_or, set}
use borrow.Author.Tests.{eqb-true, eq-eqb, ltb-true}
use Rattle.std.specs.Prelude.{Some}
use Rattle.laws.proofs.Each.{◌▹◌}
use Rattle.laws.proofs.Table.{pick_each}
use Rattle.telegram.specs.Telegram.{read_telegram}
use Rattle.telegram.specs.Telegram.{Reading}
use Rattle.channel.specs.State.{is_held}
use Rattle.channel.specs.declared.state.Channel.{Channel}
use Rattle.channel.specs.declared.state.Event.{Event}
use Rattle.channel.specs.declared.state.Event.TheVariants.{Capture, Release, Cut, MobileOff, Cancel, Tick}
use Rattle.line_rules.specs.Rules.{happens, tick, tick_idle}
use Rattle.line_rules.specs.Invariant.{Fits}
use Rattle.line_rules.specs.Promises.{Ends as Ended}
use Rattle.line_rules.proofs.Kept.{keeps_place, holding_lasts}
use Rattle.set_state.specs.State.{new_set, no_channel, own_of, place_of, place_in, channels_of, channel_at, listeners_of}
use Rattle.set_rules.specs.Entries.{read_entry, telegram_in, entry_kind, entry_desk, entry_channel, entry_on, ReadEntry}
use Rattle.set_rules.specs.Plan.{set_of}
use Rattle.set_rules.specs.Refusals.{asked_in, refusal_of}
use Rattle.set_rules.specs.SetRules.{on_channel, ticked, on_tick, on_handover, answers_in, on_request, ways, accepted_by, accepted}
use Rattle.set_rules.specs.Feeds.{Item, step_by, after}
use Rattle.set_rules.specs.Invariant.{SetOk}
use Rattle.set_rules.specs.Promises.{Ends, released, cut, timed_out, handed-over, HoldingEnds, AcceptedFinds}
use Rattle.set_rules.proofs.Answers.{accepted-after, step_keeps, feed_keeps}
use Rattle.set_rules.proofs.Rows.{no_row, row-finds}
use Rattle.set_rules.proofs.Asked.{OnEvent, asked_in_lem, answer-rings}
use Rattle.set_rules.proofs.Readable.{press_of, entry-fits, asked-ok, always_ok, at_ok}
use Rattle.set_state.specs.declared.state.Desk.{Desk}
use Rattle.set_state.specs.declared.state.LineSet.{LineSet}
use Rattle.set_state.specs.declared.state.LinkRequest.TheVariants.{TellsTime, TellsState}
use Rattle.set_state.specs.declared.state.Request.{Request}
use Rattle.set_state.specs.declared.state.Request.TheVariants.{OfLink, OnChannel, AnswersRing, Foreign}

pub finds : AcceptedFinds
finds s i z = row-finds s i.entry (read_entry i.entry) (accepted-after s i z).0

-- ---- the channel of a code, after an event and after a tick

abbrev coded : ℕ → List Channel → Channel
coded ch cs = get_or cs (place_of ch cs) no_channel

take-set : (n : ℕ) (cs : List Channel) (i : ℕ) (c : Channel) → take n (set cs i c) ≡ set (take n cs) i c
take-set zero cs i c = refl
take-set (suc n) [] i c = refl
take-set (suc n) (b ∷ cs) zero c = refl
take-set (suc n) (b ∷ cs) (suc i) c = ap (λ (l : List Channel). b ∷ l) (take-set n cs i c)

first : (k : ℕ) (c : Channel) (cs : List Channel) → eqb c.code k ≡ true → place_of k (c ∷ cs) ≡ 0
unfolding place_of
first k c cs h = rw h

later : (k : ℕ) (c : Channel) (cs : List Channel) → eqb c.code k ≡ false → place_of k (c ∷ cs) ≡ suc (place_of k cs)
unfolding place_of
later k c cs h = rw h (omega arith)

-- The channel of code ch, where c is put in place of that of code k: it is as it was, or it is c.
abbrev Found : ℕ → ℕ → List Channel → Channel → Type 0
Found ch k cs c =
    let cs' = set cs (place_of k cs) c in
    (coded ch cs' ≡ coded ch cs) ⊎ ((k ≡ ch) × (coded ch cs' ≡ c))

found_after : (ch k : ℕ) (cs : List Channel) (c : Channel) → c.code ≡ (coded k cs).code → Found ch k cs c
found_after ch k [] c h = inl refl
found_after ch k (b ∷ cs) c h = go (eqb b.code k) (eqb b.code ch) refl refl (found_after ch k cs c)
  where
    go : (t u : Bool) → eqb b.code k ≡ t → eqb b.code ch ≡ u → (c.code ≡ (coded k cs).code → Found ch k cs c) → Found ch k (b ∷ cs) c
    go true true p q rest =
        let same : c.code ≡ b.code = rw (first k b cs p) at h in
        rw (first k b cs p, first ch c cs (rw same q)) (inr (sym (eqb-true b.code k p) ∙ eqb-true b.code ch q, refl))
    go true false p q rest =
        let same : c.code ≡ b.code = rw (first k b cs p) at h in
        rw (first k b cs p, later ch c cs (rw same q), later ch b cs q) (inl refl)
    go false true p q rest = rw (later k b cs p, first ch b (set cs (place_of k cs) c) q, first ch b cs q) (inl refl)
    go false false p q rest = rw (later k b cs p, later ch b (set cs (place_of k cs) c) q, later ch b cs q) (rest (rw (later k b cs p) at h))

take-changed : (f : Channel → Channel) (n : ℕ) (cs : List Channel) → take n (map f (take n cs) ++ drop n cs) ≡ map f (take n cs)
take-changed f zero cs = refl
take-changed f (suc n) [] = refl
take-changed f (suc n) (c ∷ cs) = ap (λ (l : List Channel). f c ∷ l) (take-changed f n cs)

none-ticked : (ds : List Desk) (n : ℕ) → ticked ds n no_channel ≡ no_channel
unfolding happens tick tick_idle
none-ticked ds n = refl

found-ticked : (ds : List Desk) (n ch : ℕ) (cs : List Channel) → coded ch (map (ticked ds n) cs) ≡ ticked ds n (coded ch cs)
found-ticked ds n ch [] = sym (none-ticked ds n)
found-ticked ds n ch (c ∷ cs) = go (eqb c.code ch) refl (found-ticked ds n ch cs)
  where
    same : (ticked ds n c).code ≡ c.code
    same = (keeps_place Tick (listeners_of ds n c) c).0

    go : (t : Bool) → eqb c.code ch ≡ t → coded ch (map (ticked ds n) cs) ≡ ticked ds n (coded ch cs)
        → coded ch (map (ticked ds n) (c ∷ cs)) ≡ ticked ds n (coded ch (c ∷ cs))
    go true h rest = rw (first ch (ticked ds n c) (map (ticked ds n) cs) (rw same h), first ch c cs h)
    go false h rest = rw (later ch (ticked ds n c) (map (ticked ds n) cs) (rw same h), later ch c cs h) rest

-- ---- a set without plan has no channel

abbrev Planless : LineSet → Type 0
Planless s = s.planned ≡ false → s.size.channels ≡ 0

request_planless : (t : Bool) (s : LineSet) (d : ℕ) (q : Request) → Planless s → Planless (on_request t s d q).after
unfolding on_channel
request_planless t s d (OfLink TellsTime) h = h
request_planless t s d (OfLink (TellsState a)) h = h
request_planless t s d (OnChannel ch n v) h = h
request_planless t s d (AnswersRing m) h = h
request_planless t s d Foreign h = h

accepted_planless : (s : LineSet) (e : List ℕ) (x : ReadEntry) → Planless s → Planless (accepted s e x).after
unfolding accepted_by accepted on_channel on_tick on_handover set_of
accepted_planless s e x h =
    let q = asked_in (entry_desk x) (read_telegram (telegram_in e)) in
    pick_each (λ f. Planless f.after) (entry_kind x) _ (ways (answers_in s (entry_desk x) q) s e x) h
    ((λ k. request_planless _ s (entry_desk x) q h)
    ▹ (λ k. h)
    ▹ (λ k. h)
    ▹ (λ k. h)
    ▹ (λ k. h)
    ▹ (λ k. h)
    ▹ (λ k p. absurd (true≢false p))
    ▹ (λ k p. refl)
    ▹ (λ k. h)
    ▹ (λ k. h)
    ▹ tt)

always_planless : (f : List Item) → Planless (after new_set f)
always_planless f = feed_keeps Planless (λ s e z h. accepted_planless s e (read_entry e) h) new_set f (λ p. refl)

-- so nobody holds anything there
none-held : (s : LineSet) (ch d : ℕ) → s.size.channels ≡ 0 → (channel_at s ch).holder ≡ Some d → ⊥
none-held s ch d h held = false≢true (ap is_held (rw h at held))

-- ---- holdings

module _ (s : LineSet) (ok : SetOk s) (ch d : ℕ) (held : (channel_at s ch).holder ≡ Some d) (E : Type 0) where
  -- desk d holds in a set after, or what ends its holding has come
  abbrev Lasts : LineSet → Type 0
  Lasts t = ((channel_at t ch).holder ≡ Some d) ⊎ E

  -- an event on the channel of a code k
  on_lasts : (k : ℕ) (v : Event) → Fits v (channel_at s k) → (k ≡ ch → Ended v (channel_at s ch) d → E) → Lasts (on_channel s k v).after
  unfolding on_channel
  on_lasts k v fits ends =
      let e = listeners_of s.desks s.size.desks (channel_at s k) in
      let c = (happens v e (channel_at s k)).next in
      rw (take-set s.size.channels s.channels (place_in s k) c)
      (go c (λ h. holding_lasts v e (channel_at s k) d fits (at_ok s ok k) h) (found_after ch k (channels_of s) c (keeps_place v e (channel_at s k)).0))
    where
      here : (c b : Channel) → k ≡ ch → b ≡ c → (c.holder ≡ Some d) ⊎ Ended v (channel_at s k) d → (b.holder ≡ Some d) ⊎ E
      here c b p q (inl h) = inl (rw q h)
      here c b p q (inr a) = inr (ends p (rw p at a))

      go : (c : Channel) → ((channel_at s k).holder ≡ Some d → (c.holder ≡ Some d) ⊎ Ended v (channel_at s k) d)
          → Found ch k (channels_of s) c → ((coded ch (set (channels_of s) (place_in s k) c)).holder ≡ Some d) ⊎ E
      go c l (inl q) = inl (rw q held)
      go c l (inr q) = here c _ q.0 q.1 (l (rw q.0 held))

  tick_lasts : ((channel_at s ch).release ≤ 1 → E) → Lasts (on_tick s).after
  unfolding on_tick
  tick_lasts ends =
      let f = ticked s.desks s.size.desks in
      let e = listeners_of s.desks s.size.desks (channel_at s ch) in
      rw (take-changed f s.size.channels s.channels, found-ticked s.desks s.size.desks ch (channels_of s))
      (go (holding_lasts Tick e (channel_at s ch) d tt (at_ok s ok ch) held))
    where
      go : {A : Type 0} → A ⊎ ((channel_at s ch).release ≤ 1) → A ⊎ E
      go (inl a) = inl a
      go (inr b) = inr (ends b)

-- what a desk asks of a channel, it asks for itself
abbrev ForItself : ℕ → Event → Type 0
ForItself d v = (v ≡ Capture d) ⊎ (v ≡ Release d)

-- ---- what an accepted entry does to a holding

-- the first half of a conjunction that fails by it alone
fails-first : (t u : Bool) → (t && u) ≡ false → u ≡ true → t ≡ false
fails-first true u h p = sym p ∙ h
fails-first false u h p = refl

module _ (f : List Item) (i : Item) (ch d : ℕ) (held : (channel_at (after new_set f) ch).holder ≡ Some d) where
  abbrev s : LineSet
  s = after new_set f

  abbrev x : ReadEntry
  x = read_entry i.entry

  abbrev r : Reading
  r = read_telegram (telegram_in i.entry)

  abbrev ok : SetOk s
  ok = always_ok f

  abbrev Over : Type 0
  Over = Ends s i.entry d ch

  abbrev Stays : LineSet → Type 0
  Stays = Lasts s ok ch d held Over

  on : (k : ℕ) (v : Event) → Fits v (channel_at s k) → (k ≡ ch → Ended v (channel_at s ch) d → Over) → Stays (on_channel s k v).after
  on = on_lasts s ok ch d held Over

  request_lasts : entry_kind x ≡ 1 → (q : Request) → asked_in (entry_desk x) r ≡ q → OnEvent (ForItself (entry_desk x)) q
      → Stays (on_request (answers_in s (entry_desk x) q) s (entry_desk x) q).after
  request_lasts k (OfLink TellsTime) p o = inl held
  request_lasts k (OfLink (TellsState a)) p o = inl held
  request_lasts k (OnChannel ch' n v) p (inl o) = on ch' v (rw o tt) (λ q a. absurd (rw o at a))
  request_lasts k (OnChannel ch' n v) p (inr o) =
      on ch' v (rw o tt)
      (λ q a. let own : entry_desk x ≡ d = rw o at a in released n k own (rw (sym own, p, q, o)))
  request_lasts k (AnswersRing m) p o =
      on m.channel _ (answer-rings (entry_desk x) (own_of s.desks (entry_desk x)) m (channel_at s m.channel)) (λ q a. absurd a)
  request_lasts k Foreign p o = inl held

  -- a press frees nothing
  press_lasts : (t : Bool) → Fits (press_of s x t) (channel_at s (entry_channel x)) → Stays (on_channel s (entry_channel x) (press_of s x t)).after
  press_lasts true f = on (entry_channel x) _ f (λ q a. absurd a)
  press_lasts false f = on (entry_channel x) _ f (λ q a. absurd a)

  -- a cut is the holder's
  own-cut : (channel_at s (entry_channel x)).holder ≡ Some (entry_desk x) → entry_channel x ≡ ch → entry_desk x ≡ d
  own-cut h q = let same : Some (entry_desk x) ≡ Some d = sym (rw q at h) ∙ held in cc

  -- the release timer of a held channel runs
  last-second : (channel_at s ch).release ≤ 1 → (channel_at s ch).release ≡ 1
  last-second l =
      let runs = (at_ok s ok ch).timed.release-runs ∙ ap is_held held in
      omega (arith, l, ltb-true 0 (channel_at s ch).release runs)

  -- there is a plan, so another is refused: row 5
  no_plan_lem : refusal_of s i.entry x ≡ 0 → entry_kind x ≡ 7 → ⊥
  no_plan_lem z k =
      let p = fails-first s.planned (eqb (entry_kind x) 7) (no_row s i.entry x z).row5-fails (eq-eqb (entry_kind x) 7 k) in
      none-held s ch d (always_planless f p) held

  accepted_lasts : (step_by s i).refusal ≡ 0 → Stays (accepted s i.entry x).after
  unfolding accepted_by accepted
  accepted_lasts z =
      let taken = (accepted-after s i z).0 in
      let fits = entry-fits s ok i.entry x (asked-ok i.entry) taken in
      let asked = asked_in (entry_desk x) r in
      let here = on (entry_channel x) in
      pick_each (λ w. Stays w.after) (entry_kind x) _ (ways (answers_in s (entry_desk x) asked) s i.entry x) (inl held)
      ((λ k. request_lasts k asked refl (asked_in_lem (ForItself (entry_desk x)) (entry_desk x) (inl refl) (inr refl) r))
      ▹ (λ k. press_lasts (eqb (entry_on x) 1) (fits.press-fits k))
      ▹ (λ k. here Cut (fits.cut_fits k) (λ q a. cut k (own-cut ((finds s i z).cut-held k) q) q))
      ▹ (λ k. here _ (fits.on_fits k) (λ q a. absurd a))
      ▹ (λ k. here MobileOff (fits.off-fits k) (λ q a. absurd a))
      ▹ (λ k. tick_lasts s ok ch d held Over (λ l. timed_out k (last-second l)))
      ▹ (λ k. absurd (no_plan_lem taken k))
      ▹ (λ k. inr (handed-over k))
      ▹ (λ k. here _ (fits.ring-fits k) (λ q a. absurd a))
      ▹ (λ k. here Cancel (fits.cancel_fits k) (λ q a. absurd a))
      ▹ tt)

pub holding_ends : HoldingEnds
holding_ends f i ch d held =
    step_keeps (Stays f i ch d held) (after new_set f) i (inl held) (accepted_lasts f i ch d held)
