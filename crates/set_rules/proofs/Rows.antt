-- An accepted entry: no row of the refusal table holds, and what it finds by these rows.
-- Assumes nothing.
use Prim.Native.Nat.{ℕ, suc}
use mathlib.Core.List.{List, [], ◌∷◌}
use mathlib.Core.Bool.{Bool, true, false, not, cond, false≢true, true≢false}
use mathlib.Core.Path.{◌≡◌, refl, sym, ap, ◌∙◌}
use native.Mathlib.Omega.{arith}
use lib.Dec.{eqb}
use borrow.Author.Tests.{eq-eqb, eqb-true, not-true, not-false}
use Rattle.std.specs.Prelude.{Option, None, Some}
use Rattle.laws.specs.Each.{Each}
use Rattle.laws.proofs.Each.{◌▹◌}
use Rattle.laws.proofs.Tests.{both, neither, by_branch}
use Rattle.telegram.specs.Telegram.{read_telegram}
use Rattle.telegram.specs.Telegram.{Reading}
use Rattle.channel.specs.State.{is_in, is_held, held_by, is_present, is_open}
use Rattle.channel.specs.declared.state.Call.{Call}
use Rattle.channel.specs.declared.state.Arrival.{Arrival}
use Rattle.channel.specs.declared.state.Channel.{Channel}
use Rattle.line_rules.specs.Rules.{is_pressed, is_ringing}
use Rattle.line_rules.specs.Invariant.{Idle}
use Rattle.set_state.specs.State.{channel_at, listeners_of}
use Rattle.set_rules.specs.Entries.{telegram_in, entry_kind, entry_desk, entry_channel, entry_called, ReadEntry}
use Rattle.set_rules.specs.Refusals.{Lookup, lookup_in, Test, asked_in, named_by, is_idle, called_place, row4, row5, row6, row7, row11, row12, row13, row14, row15, row17, first_of, refusal_of, table}
use Rattle.set_rules.specs.RecordLaws.{OfKind, PayloadOfKind}
use Rattle.set_rules.specs.Promises.{Finds}
use Rattle.set_state.specs.declared.state.LineSet.{LineSet}
use Rattle.set_state.specs.Entry.{refusal_in}

-- a row's number is none of an accepted entry
abbrev Refuses : ℕ × Test → Type 0
Refuses row = row.0 ≡ 0 → ⊥

module _ (s : LineSet) (e : List ℕ) (x : ReadEntry) where
  abbrev r : Reading
  r = read_telegram (telegram_in e)

  abbrev v : Lookup
  v = lookup_in s (named_by (asked_in (entry_desk x) r) x)

  abbrev Fails : ℕ × Test → Type 0
  Fails row = row.1 v e r x ≡ false

  none-holds : (rows : List (ℕ × Test)) → Each Refuses rows → first_of rows v e r x ≡ 0 → Each Fails rows
  unfolding first_of
  none-holds [] p z = tt
  none-holds (row ∷ rows) p z = go (row.1 v e r x) refl (none-holds rows p.1)
    where
      go : (t : Bool) → row.1 v e r x ≡ t → (first_of rows v e r x ≡ 0 → Each Fails rows) → Each Fails (row ∷ rows)
      go true k rest = absurd (p.0 (rw k at z))
      go false k rest = (k, rest (rw k at z))

  numbered : Each Refuses table
  numbered =
      let n : (k : ℕ) → suc k ≡ 0 → ⊥ = λ k p. omega arith in
      n _ ▹ n _ ▹ n _ ▹ n _ ▹ n _ ▹ n _ ▹ n _ ▹ n _ ▹ n _ ▹ n _ ▹ n _ ▹ n _ ▹ n _ ▹ tt

  rows_fail : refusal_of s e x ≡ 0 → Each Fails table
  unfolding refusal_of
  rows_fail z = none-holds table numbered (go (eqb (refusal_in x) 0) refl)
    where
      go : (t : Bool) → eqb (refusal_in x) 0 ≡ t → first_of table v e r x ≡ 0
      go true k = rw k at z
      go false k = absurd (false≢true (sym k ∙ eq-eqb _ 0 (rw k at z)))

  abbrev fails : Test → Type 0
  fails row = row v e r x ≡ false

  -- the rows that a proof goes by, by their numbers
  pub record NoRow : Type 0 where
    pub row4-fails : fails row4
    pub row5-fails : fails row5
    pub row6-fails : fails row6
    pub row7-fails : fails row7
    pub row11-fails : fails row11
    pub row12-fails : fails row12
    pub row13-fails : fails row13
    pub row14-fails : fails row14
    pub row15-fails : fails row15
    pub row17-fails : fails row17

  pub no_row : refusal_of s e x ≡ 0 → NoRow
  no_row z =
      let t = rows_fail z in
      let from7 = t.1.1.1 in
      let from11 = from7.1.1.1.1 in
      let from14 = from11.1.1.1 in
      record {
        row4-fails = t.0;
        row5-fails = t.1.0;
        row6-fails = t.1.1.0;
        row7-fails = from7.0;
        row11-fails = from11.0;
        row12-fails = from11.1.0;
        row13-fails = from11.1.1.0;
        row14-fails = from14.0;
        row15-fails = from14.1.0;
        row17-fails = from14.1.1.0;
      }

-- ---- what a payload asks for

pub payload_of_kind : PayloadOfKind
unfolding entry_kind
payload_of_kind k e =
    let kind : (n : ℕ) → eqb k n ≡ true → n ≡ k = λ n t. sym (eqb-true k n t) in
    by_branch (OfKind k) (eqb k 1) _ _ (kind 1) (λ n.
    by_branch (OfKind k) (eqb k 2) _ _ (kind 2) (λ n.
    by_branch (OfKind k) (eqb k 3) _ _ (kind 3) (λ n.
    by_branch (OfKind k) (eqb k 4) _ _ (kind 4) (λ n.
    by_branch (OfKind k) (eqb k 5) _ _ (kind 5) (λ n.
    by_branch (OfKind k) (eqb k 6) _ _ (kind 6) (λ n.
    by_branch (OfKind k) (eqb k 7) _ _ (kind 7) (λ n.
    by_branch (OfKind k) (eqb k 8) _ _ (kind 8) (λ n.
    by_branch (OfKind k) (eqb k 9) _ _ (kind 9) (λ n.
    by_branch (OfKind k) (eqb k 10) _ _ (kind 10) (λ n. refl))))))))))

-- ---- what an accepted entry finds: rows 14, 15 and 17

pub held_by_lem : (d : ℕ) (h : Option ℕ) → held_by d h ≡ true → h ≡ Some d
held_by_lem d None e = absurd (false≢true e)
held_by_lem d (Some h) e = ap Some (eqb-true h d e)

nobody : (h : Option ℕ) → is_held h ≡ false → h ≡ None
nobody None e = refl
nobody (Some d) e = absurd (true≢false e)

closed : (k : Option Call) → is_open k ≡ false → k ≡ None
closed None e = refl
closed (Some k) e = absurd (true≢false e)

absent : (a : Option Arrival) → is_present a ≡ false → a ≡ None
absent None h = refl
absent (Some a) h = absurd (true≢false h)

idle : (c : Channel) → is_idle c ≡ true → Idle c
idle c h =
    let ring = both _ (not (is_ringing c)) h in
    let arrival = both _ (not (is_present c.arrival)) ring.0 in
    let call = both (not (is_held c.holder)) (not (is_open c.call)) arrival.0 in
    record {
      free = nobody c.holder (not-true _ call.0);
      closed = closed c.call (not-true _ call.1);
      absent = absent c.arrival (not-true _ arrival.1);
      silent = not-true _ ring.1;
    }

not_on : (t : Bool) → eqb 1 (cond t 1 0) ≡ false → t ≡ false
not_on true h = absurd (true≢false h)
not_on false h = refl

pub row-finds : (s : LineSet) (e : List ℕ) (x : ReadEntry) → refusal_of s e x ≡ 0 → Finds s x
row-finds s e x z =
    let c = channel_at s (entry_channel x) in
    let r = no_row s e x z in
    let held : not (held_by (entry_desk x) c.holder) ≡ false → c.holder ≡ Some (entry_desk x) = λ h. held_by_lem (entry_desk x) c.holder (not-false _ h) in
    let new : entry_kind x ≡ 4 → (is_present c.arrival ≡ false) × (is_ringing c ≡ false) = λ k. neither _ _ (rw k at r.row15-fails) in
    let heard : Bool = is_in (called_place s.desks s.size.desks (entry_called x)) (listeners_of s.desks s.size.desks c) in
    let called : entry_kind x ≡ 9 → (heard ≡ true) × (is_idle c ≡ true) = λ k. both _ _ (not-false _ (rw k at r.row17-fails)) in
    record {
      press-held = λ k. held (rw k at r.row14-fails);
      cut-held = λ k. held (rw k at r.row14-fails);
      press_new = λ k o. not_on (is_pressed c) (rw (k, o) at r.row15-fails);
      mobile_new = λ k. absent c.arrival (new k).0;
      mobile-silent = λ k. (new k).1;
      call-idle = λ k. idle c (called k).1;
      call-heard = λ k. (called k).0;
      cancel_rings = λ k. not-false _ (rw k at r.row17-fails);
    }
