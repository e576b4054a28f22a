-- The rules' answer to an entry about one desk's link or one channel, by what it asks and what is judged of it.
-- Assumes nothing.
use Prim.Native.Nat.{ℕ}
use mathlib.Core.List.{List, [], ◌∷◌, ◌++◌}
use mathlib.Core.Bool.{Bool, true, false, not, cond, false≢true}
use mathlib.Core.Logic.{◌⊎◌, inl, inr}
use mathlib.Core.Path.{◌≡◌, refl, sym, ap, ap₂, subst, ◌∙◌}
use native.Mathlib.Omega.{arith}
use lib.Dec.{eqb, ltb}
use borrow.Author.Tests.{eqb-true, eqb-false, ne_eqb}
use Rattle.std.specs.Prelude.{Result, Ok, Err}
use Rattle.laws.specs.Each.{Each}
use Rattle.laws.specs.Table.{pick}
use Rattle.laws.proofs.Each.{◌▹◌}
use Rattle.telegram.specs.Telegram.{num, read_telegram}
use Rattle.telegram.specs.declared.message.Number.{Number}
use Rattle.telegram.specs.declared.message.Ring.{Ring as RingAnswer}
use Rattle.telegram.specs.Telegram.{Reading}
use Rattle.channel.specs.declared.state.Channel.{Channel}
use Rattle.channel.specs.declared.state.Event.{Event}
use Rattle.set_state.specs.State.{own_of, has_channel, channel_at}
use Rattle.set_rules.specs.Entries.{ReadEntry, telegram_in, entry_kind, entry_desk, entry_channel, entry_base, entry_number, entry_called}
use Rattle.set_rules.specs.Refusals.{Lookup, lookup_in, Test, is_kind, asked_in, desk_of, named_by, number_in, called_place, first_of, refusal_of}
use Rattle.set_rules.specs.SetRules.{Effect, accepted_by, accepted, on_channel, on_link}
use Rattle.set_rules.specs.Feeds.{refuse, emit, outcome_of}
use Rattle.set_state.specs.declared.state.Desk.{Desk}
use Rattle.set_state.specs.declared.state.Refusal.{Refusal}
use Rattle.set_state.specs.Entry.{number_of, desk_from}
use Rattle.set_state.specs.declared.state.Entry.{Entry}
use Rattle.set_state.specs.declared.state.Entry.TheVariants.{Telegram, Press, Cut, MobileOn, MobileOff, Tick, Plan, Handover, MobileCall, MobileCancel}
use Rattle.set_state.specs.declared.state.LineSet.{LineSet}
use Rattle.set_state.proofs.Kept.{numbered_from_one}
use Rattle.set_state.specs.declared.state.LinkRequest.{LinkRequest}
use Rattle.set_state.specs.declared.state.Request.{Request}
use Rattle.set_state.specs.declared.state.Request.TheVariants.{OfLink as LinkIs, OnChannel as ChannelIs, AnswersRing as RingIs, Foreign}
use Rattle.telegram_requests.specs.Asking.{code_of, asking}
use Rattle.telegram_requests.specs.declared.request.Asked.{Asked}
use Rattle.telegram_requests.specs.declared.request.Asked.TheVariants.{OfLink, OfLine}
use Rattle.telegram_requests.specs.declared.request.LineRequest.{LineRequest}
use Rattle.telegram_requests.specs.declared.request.LineRequest.TheVariants.{OnChannel, AnswersRing}
use Rattle.requests.specs.Asking.{seen, early, event_of, asked_of}
use Rattle.requests.proofs.Kept.{foreign_refused}
use Rattle.judging.specs.Judging.{late, usable, refusal_by}
use Rattle.judging.specs.Promises.{LineKind}
use Rattle.judging.proofs.Kept.{late_ask, late-line, late-answer}
use Rattle.changes.specs.Changes.{set_with, Stands, Asks, Hears, event_for}

-- ---- the table in two parts

abbrev Refuses : ℕ × Test → Type 0
Refuses row = row.0 ≡ 0 → ⊥

first-append : (xs ys : List (ℕ × Test)) (v : Lookup) (e : List ℕ) (r : Reading) (x : ReadEntry) → Each Refuses xs
    → first_of (xs ++ ys) v e r x ≡ cond (eqb (first_of xs v e r x) 0) (first_of ys v e r x) (first_of xs v e r x)
unfolding first_of
first-append [] ys v e r x p = refl
first-append (row ∷ xs) ys v e r x p = go (row.1 v e r x) (first-append xs ys v e r x p.1)
  where
    go : (t : Bool) → first_of (xs ++ ys) v e r x ≡ cond (eqb (first_of xs v e r x) 0) (first_of ys v e r x) (first_of xs v e r x)
        → cond t row.0 (first_of (xs ++ ys) v e r x)
        ≡ cond (eqb (cond t row.0 (first_of xs v e r x)) 0) (first_of ys v e r x) (cond t row.0 (first_of xs v e r x))
    go true h = rw (ne_eqb row.0 0 p.0) refl
    go false h = h

numbered : Each Refuses early
numbered = (λ p. omega arith) ▹ (λ p. omega arith) ▹ (λ p. omega arith) ▹ (λ p. omega arith) ▹ (λ p. omega arith) ▹ (λ p. omega arith) ▹ (λ p. omega arith) ▹ (λ p. omega arith) ▹ tt

-- ---- outcomes

module _ (s : LineSet) (e : List ℕ) (x : ReadEntry) (room : ℕ) where
  pub outcome_refused : (n : ℕ) → refusal_of s e x ≡ n → (n ≡ 0 → ⊥) → refuse n s ≡ outcome_of s e x room
  unfolding outcome_of
  outcome_refused n h z = sym (rw (h, ne_eqb n 0 z) refl)

  pub outcome_accepted : (f : Effect) → refusal_of s e x ≡ 0 → accepted s e x ≡ f → emit s f room ≡ outcome_of s e x room
  unfolding outcome_of
  outcome_accepted f h k = sym (rw (h, k) refl)

-- what was refused as it was read
pub unread_as : (v : Lookup) (s : LineSet) (e : List ℕ) (r : Refusal) (m room : ℕ) → Err m ≡ asked_of v e (Err r) → refuse m s ≡ outcome_of s e (Err r) room
unfolding asked_of refusal_of
unread_as v s e r m room a =
    let z = ne_eqb (number_of r) 0 (numbered_from_one r) in
    let b : ◌≡◌ {A = Result Asked ℕ} (Err m) (Err (number_of r)) = rw z at a in
    let i : m ≡ number_of r = cc in
    outcome_refused s e (Err r) room m (rw z (sym i)) (λ h. numbered_from_one r (sym i ∙ h))

module _ (planned : Bool) (ds : List Desk) (n : ℕ) (cs : List Channel) (k : ℕ) (e : List ℕ) (y : Entry) (found : Bool) (c : Channel) where
  abbrev x : ReadEntry
  x = Ok y

  abbrev s : LineSet
  s = set_with planned ds n cs k

  abbrev r : Reading
  r = read_telegram (telegram_in e)

  abbrev request : Request
  request = asked_in (entry_desk x) r

  -- what the rows go by, as the code has it and as the set has it
  abbrev v : Lookup
  v = seen planned ds n found c

  abbrev w : Lookup
  w = lookup_in s (named_by request x)

  -- ---- what was asked

  -- what an entry that is no telegram makes happen
  abbrev happening : Event
  happening = event_of ds n x (own_of ds (entry_desk x))

  -- whoever asks for an event on a channel: a telegram, or what stands in the entry
  abbrev Tells : ℕ → Number → Event → Type 0
  Tells ch m u =
      ((entry_kind x ≡ 1) × (request ≡ ChannelIs ch m u))
      ⊎ ((entry_kind x ≡ 1 → ⊥) × (OnChannel (entry_channel x) (num 0) happening ≡ OnChannel ch m u))

  abbrev Said : Result Asked ℕ → Type 0
  Said (Err m) = (refusal_of s e x ≡ m) × (m ≡ 0 → ⊥)
  Said (Ok (OfLink q)) = (refusal_of s e x ≡ 0) × (entry_kind x ≡ 1) × (request ≡ LinkIs q)
  Said (Ok (OfLine (OnChannel ch m u))) = (refusal_of s e x ≡ first_of late w e r x) × Tells ch m u
  Said (Ok (OfLine (AnswersRing m))) = (refusal_of s e x ≡ first_of late w e r x) × (entry_kind x ≡ 1) × (request ≡ RingIs m)

  -- the early rows look at no channel
  early-same : first_of early w e r x ≡ first_of early v e r x
  unfolding first_of
  early-same = refl

  split : refusal_of s e x ≡ cond (eqb (first_of early v e r x) 0) (first_of late w e r x) (first_of early v e r x)
  unfolding refusal_of
  split = first-append early late w e r x numbered ∙ rw early-same refl

  -- a telegram about the link has no refusal behind the early rows
  link_late : (q : LinkRequest) → entry_kind x ≡ 1 → request ≡ LinkIs q → first_of late w e r x ≡ 0
  unfolding first_of
  link_late q h i = rw (h, i) refl

  not_foreign : entry_kind x ≡ 1 → first_of early v e r x ≡ 0 → request ≡ Foreign → ⊥
  unfolding first_of
  not_foreign h z f = go planned refl (ltb (entry_desk x) n) refl
    where
      go : (p : Bool) → planned ≡ p → (t : Bool) → ltb (entry_desk x) n ≡ t → ⊥
      go true i true j = foreign_refused (entry_desk x) (desk_of v x).code (desk_of v x).link.phase r f (rw (h, i, j) at z)
      go true i false j = let g : ◌≡◌ {A = ℕ} 7 0 = rw (h, i, j) at z in omega arith
      go false i t j = let g : ◌≡◌ {A = ℕ} 4 0 = rw (h, i) at z in omega arith

  said : Said (asked_of v e x)
  unfolding asked_of refusal_of
  said = go (eqb (first_of early v e r x) 0) refl (is_kind 1 x) refl
    where
      by_request : refusal_of s e x ≡ first_of late w e r x → first_of early v e r x ≡ 0 → entry_kind x ≡ 1 → (q : Request) → request ≡ q → Said (asking q)
      by_request t z h (LinkIs q) i = (t ∙ link_late q h i, h, i)
      by_request t z h (ChannelIs ch m u) i = (t, inl (h, i))
      by_request t z h (RingIs m) i = (t, h, i)
      by_request t z h Foreign i = absurd (not_foreign h z i)

      go : (b : Bool) → eqb (first_of early v e r x) 0 ≡ b → (i : Bool) → is_kind 1 x ≡ i
          → Said (cond b (cond i (asking request) (Ok (OfLine (OnChannel (entry_channel x) (num 0) happening)))) (Err (first_of early v e r x)))
      go false g i j = (split ∙ rw g refl, eqb-false (first_of early v e r x) 0 g)
      go true g true j = by_request (split ∙ rw g refl) (eqb-true _ 0 g) (eqb-true (entry_kind x) 1 j) request refl
      go true g false j = (split ∙ rw g refl, inr (eqb-false (entry_kind x) 1 j, refl))

  said_of : (q : Result Asked ℕ) → q ≡ asked_of v e x → Said q
  said_of q a = subst Said (sym a) said

  -- ---- a refusal up to 11

  pub refused_as : (m room : ℕ) → Err m ≡ asked_of v e x → refuse m s ≡ outcome_of s e x room
  refused_as m room a = let t = said_of (Err m) a in outcome_refused s e x room m t.0 t.1

  -- ---- a telegram about the link

  link_does : (q : LinkRequest) → entry_kind x ≡ 1 → request ≡ LinkIs q → accepted s e x ≡ on_link s (entry_desk x) q
  unfolding accepted accepted_by pick
  link_does q h i = rw (h, i) refl

  pub linked_as : (q : LinkRequest) (room : ℕ) → Ok (OfLink q) ≡ asked_of v e x → emit s (on_link s (desk_from y) q) room ≡ outcome_of s e x room
  unfolding entry_desk
  linked_as q room a = let t = said_of (Ok (OfLink q)) a in outcome_accepted s e x room _ t.0 (link_does q t.1 t.2)

  -- ---- something on a channel

  -- a channel that was not found is not looked at
  looked-up : (f : Bool → Channel → ℕ) (ch place : ℕ) → ((d : Channel) → f false d ≡ 12) → Stands s ch place found c
      → f (has_channel s ch) (channel_at s ch) ≡ f found c
  looked-up f ch place h a = go found a.is a.channel-is
    where
      go : (t : Bool) → t ≡ has_channel s ch → (t ≡ true → c ≡ channel_at s ch) → f (has_channel s ch) (channel_at s ch) ≡ f t c
      go true i g = ap₂ f (sym i) (sym (g refl))
      go false i g = ap (λ (t : Bool). f t (channel_at s ch)) (sym i) ∙ h (channel_at s ch) ∙ sym (h c)

  -- ---- an event

  abbrev judged : Number → Bool → Bool → Channel → ℕ
  judged m heard t d = refusal_by y m (own_of ds (entry_desk x)) heard t d

  judged-none : (m : Number) (heard : Bool) (d : Channel) → judged m heard false d ≡ 12
  judged-none m heard d = none-by y
    where
      none-by : (z : Entry) → refusal_by z m (own_of ds (entry_desk x)) heard false d ≡ 12
      none-by (Telegram d') = refl
      none-by (Press d' ch on) = refl
      none-by (Cut d' ch) = refl
      none-by (MobileOn ch b k) = refl
      none-by (MobileOff ch) = refl
      none-by Tick = refl
      none-by Plan = refl
      none-by Handover = refl
      none-by (MobileCall ch b k z) = refl
      none-by (MobileCancel ch) = refl

  -- the late rows and the rule
  record Does (ch : ℕ) (m : Number) (u : Event) : Type 0 where
    rows : (heard : Bool) → (has_channel s ch ≡ true → Hears ds n (channel_at s ch) u heard)
        → first_of late w e r x ≡ judged m heard (has_channel s ch) (channel_at s ch)
    rule : accepted s e x ≡ on_channel s ch u

  ask_does : (ch : ℕ) (m : Number) (u : Event) → entry_kind x ≡ 1 → request ≡ ChannelIs ch m u → Does ch m u
  unfolding accepted accepted_by pick
  ask_does ch m u h i = record { rows = λ heard p. late_ask w e r y ch m u heard h i ∙ rw (h, i) refl; rule = rw (h, i) refl }

  kind-rule : LineKind (entry_kind x) → accepted s e x ≡ on_channel s (entry_channel x) happening
  unfolding accepted accepted_by pick
  kind-rule (inl h) = rw h refl
  kind-rule (inr (inl h)) = rw h refl
  kind-rule (inr (inr (inl h))) = rw h refl
  kind-rule (inr (inr (inr (inl h)))) = rw h refl
  kind-rule (inr (inr (inr (inr (inl h))))) = rw h refl
  kind-rule (inr (inr (inr (inr (inr h))))) = rw h refl

  line_does : (m : Number) → (entry_kind x ≡ 1 → ⊥) → LineKind (entry_kind x) → Does (entry_channel x) m happening
  line_does m h o =
      let named : named_by request x ≡ (entry_channel x) = rw (ne_eqb (entry_kind x) 1 h) refl in
      record {
        rows = λ heard p. late-line w e r y m heard o (λ k t. rw named (p (rw named at t) (called_place ds n (entry_called x)) (entry_base x) (number_in (entry_number x)) (rw k refl))) ∙ rw named refl;
        rule = kind-rule o;
      }

  does : (ch : ℕ) (m : Number) (u : Event) → (entry_kind x ≡ 1) ⊎ LineKind (entry_kind x) → Tells ch m u → Does ch m u
  does ch m u kinds (inl t) = ask_does ch m u t.0 t.1
  does ch m u (inl h) (inr t) = absurd (t.0 h)
  does ch m u (inr o) (inr t) =
      let q = t.1 in
      let is-channel : entry_channel x ≡ ch = cc in
      let is-event : happening ≡ u = cc in
      subst (λ (y : Event). Does ch m y) is-event (subst (λ (i : ℕ). Does i m happening) is-channel (line_does m t.0 o))

  module _ (ch : ℕ) (m : Number) (u : Event) (place : ℕ) (a : Asks s e y (OnChannel ch m u) place found c) where
    tells : (refusal_of s e x ≡ first_of late w e r x) × Tells ch m u
    tells = said_of (Ok (OfLine (OnChannel ch m u))) a.asked

    asked-does : Does ch m u
    asked-does = does ch m u a.kinds tells.1

    pub asked-refusal : (heard : Bool) → (found ≡ true → Hears ds n c u heard) → refusal_of s e x ≡ judged m heard found c
    asked-refusal heard p =
        tells.0
        ∙ asked-does.rows heard (λ t. let h = a.stands.is ∙ t in subst (λ (d : Channel). Hears ds n d u heard) (a.stands.channel-is h) (p h))
        ∙ looked-up (judged m heard) ch place (judged-none m heard) a.stands

    -- on a channel that is not there
    asked-none : found ≡ false → refusal_of s e x ≡ 12
    asked-none h = asked-refusal false (λ t. absurd (false≢true (sym h ∙ t))) ∙ rw h (judged-none m false c)

  -- ---- a ring answer

  -- it stops at 12
  abbrev answered : Bool → Channel → ℕ
  answered t d = cond (not (usable (entry_desk x) t d)) 12 0

  module _ (m : RingAnswer) (place : ℕ) (a : Asks s e y (AnswersRing m) place found c) where
    answers : (refusal_of s e x ≡ first_of late w e r x) × (entry_kind x ≡ 1) × (request ≡ RingIs m)
    answers = said_of (Ok (OfLine (AnswersRing m))) a.asked

    pub answer-refusal : refusal_of s e x ≡ answered found c
    answer-refusal =
        let t = answers in
        t.0 ∙ late-answer w e r x m t.1 t.2 ∙ rw (t.1, t.2) (looked-up answered m.channel place (λ d. refl) a.stands)

    answer-rule : c ≡ channel_at s m.channel → accepted s e x ≡ on_channel s m.channel (event_for ds (entry_desk x) (AnswersRing m) c)
    unfolding accepted accepted_by pick
    answer-rule h = let t = answers in rw (t.1, t.2, h) refl

  -- ---- either

  none : (q : LineRequest) (place : ℕ) → Asks s e y q place found c → found ≡ false → refusal_of s e x ≡ 12
  none (OnChannel ch m u) place a h = asked-none ch m u place a h
  none (AnswersRing m) place a h = answer-refusal m place a ∙ rw h refl

  -- what is not refused was found
  pub line-found : (q : LineRequest) (place : ℕ) → Asks s e y q place found c → refusal_of s e x ≡ 0 → Stands s (code_of q) place true c
  line-found q place a z = go found refl
    where
      go : (t : Bool) → found ≡ t → Stands s (code_of q) place true c
      go true i = subst (λ (t : Bool). Stands s (code_of q) place t c) i a.stands
      go false i = absurd (let g : ◌≡◌ {A = ℕ} 12 0 = sym (none q place a i) ∙ z in omega arith)

  pub line-rule : (q : LineRequest) (place room : ℕ) → Asks s e y q place found c → refusal_of s e x ≡ 0
      → emit s (on_channel s (code_of q) (event_for ds (entry_desk x) q c)) room ≡ outcome_of s e x room
  line-rule (OnChannel ch m u) place room a z = outcome_accepted s e x room _ z (asked-does ch m u place a).rule
  line-rule (AnswersRing m) place room a z =
      outcome_accepted s e x room _ z (answer-rule m place a ((line-found (AnswersRing m) place a z).channel-is refl))
