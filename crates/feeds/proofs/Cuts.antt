-- What is refused with 1, and the entries of a feed, one by one.
-- Assumes nothing.
use Prim.Native.Nat.{ℕ, ◌+◌, ◌≤◌, ◌<◌}
use mathlib.Core.List.{List, [], ◌∷◌}
use mathlib.Core.Bool.{true, false, cond}
use mathlib.Core.Path.{◌≡◌, refl, sym, ap, ◌∙◌}
use native.Mathlib.Omega.{arith}
use lib.Dec.{eqb, leb}
use lib.ListN.{length, take, drop, get_or, length-take}
use lib.Seq.{take_all, take-take, get_or-take}
use borrow.Author.Tests.{leb-true, leb-false, lt-leb, le-leb}
use Rattle.std.specs.Prelude.{Ok, Err}
use Rattle.laws.specs.Each.{Each}
use Rattle.laws.proofs.Each.{◌▹◌}
use Rattle.laws.proofs.Tests.{by_test, either}
use Rattle.telegram.specs.Telegram.{Reading}
use Rattle.frames.specs.Bytes.{byte, word}
use Rattle.frames.specs.Frames.{frame_size}
use Rattle.frames.proofs.Kept.{first_frame, size-some, size-long, size_cuts}
use Rattle.set_state.specs.Entry.{refusal_in}
use Rattle.set_state.specs.declared.state.LineSet.{LineSet}
use Rattle.set_rules.specs.Entries.{ReadEntry, measured, payload, payload_ok, read_entry}
use Rattle.set_rules.specs.Refusals.{Lookup, Test, table, first_of, refusal_of}
use Rattle.set_rules.specs.Records.{space_of}
use Rattle.set_rules.specs.SetRules.{accepted}
use Rattle.set_rules.specs.Feeds.{outcome_of, step_of}
use Rattle.set_rules.specs.RecordLaws.{OfKind}
use Rattle.set_rules.proofs.Kept.{payload_of_kind}
use Rattle.feeds.specs.Listing.{entries_of, entries_in}
use Rattle.feeds.specs.Promises.{RefusedWithOne, RefusedWithOneOnly, FirstEntry}

-- ---- what is refused with 1

pub with_one : RefusedWithOne
unfolding step_of outcome_of read_entry refusal_of
with_one s e room m = rw m refl

abbrev NotOne : ℕ → Type 0
NotOne n = n ≡ 1 → ⊥

-- no row of the table
rows-not : (rows : List (ℕ × Test)) (v : Lookup) (e : List ℕ) (r : Reading) (x : ReadEntry) → Each (λ row. NotOne row.0) rows → NotOne (first_of rows v e r x)
unfolding first_of
rows-not [] v e r x p = λ z. omega arith
rows-not (row ∷ rows) v e r x p = either NotOne (row.1 v e r x) row.0 (first_of rows v e r x) p.0 (rows-not rows v e r x p.1)

numbered : Each (λ row. NotOne row.0) table
numbered =
    let n : (k : ℕ) → k + 4 ≡ 1 → ⊥ = λ k z. omega arith in
    n 0 ▹ n 1 ▹ n 2 ▹ n 3 ▹ n 4 ▹ n 5 ▹ n 6 ▹ n 7 ▹ n 8 ▹ n 9 ▹ n 10 ▹ n 11 ▹ n 13 ▹ tt

-- an entry that is measured right asks for something, or is refused with 2 or 3
abbrev Asks : ReadEntry → Type 0
Asks x = NotOne (refusal_in x)

payload_right : (k : ℕ) (e : List ℕ) → Asks (payload k e)
payload_right k e = go (payload k e) (payload_of_kind k e)
  where
    go : (x : ReadEntry) → OfKind k x → Asks x
    go (Ok x) h z = omega arith
    go (Err r) h z = let f : ◌≡◌ {A = ℕ} 3 1 = rw h at z in omega arith

reads-right : (e : List ℕ) → measured e ≡ true → Asks (read_entry e)
unfolding read_entry
reads-right e m =
    let k = byte e 3 in
    rw m (either Asks (eqb (byte e 2) 1) _ _ (either Asks (payload_ok k e) _ _ (payload_right k e) (λ z. omega arith)) (λ z. omega arith))

module _ (s : LineSet) (e : List ℕ) (room : ℕ) (x : ReadEntry) (p : Asks x) where
  refusal-not : NotOne (refusal_of s e x)
  unfolding refusal_of
  refusal-not = either NotOne (eqb (refusal_in x) 0) _ _ (rows-not table _ e _ x numbered) p

  outcome_not : NotOne (outcome_of s e x room).refusal
  unfolding outcome_of
  outcome_not =
      by_test (eqb (refusal_of s e x) 0)
      (λ t. rw t (by_test (leb (space_of (accepted s e x).sent) room) (λ u. rw u (λ z. omega arith)) (λ u. rw u (λ z. omega arith))))
      (λ t. rw t refusal-not)

pub not_with_one : RefusedWithOneOnly
unfolding step_of
not_with_one s e room m = outcome_not s e room (read_entry e) (reads-right e m)

-- ---- the entries, one by one

too_short : (e : List ℕ) → length e < 4 → measured e ≡ false
too_short e h = rw (lt-leb 4 (length e) h) refl

word-take : (n : ℕ) (w : List ℕ) → 2 ≤ n → word (take n w) 0 ≡ word w 0
word-take n w h =
    let a : get_or (take n w) 0 0 ≡ get_or w 0 0 = get_or-take n w 0 0 (omega arith) in
    let b : get_or (take n w) 1 0 ≡ get_or w 1 0 = get_or-take n w 1 0 (omega arith) in
    omega (arith, a, b)

too_long : (e : List ℕ) → leb (word e 0) 12000 ≡ false → measured e ≡ false
too_long e l = by_test (leb 4 (length e)) (λ a. by_test (eqb (word e 0 + 2) (length e)) (λ b. rw (a, b, l) refl) (λ b. rw (a, b) refl)) (λ a. rw a refl)

read-on : (f : List ℕ) (fs : List (List ℕ)) → leb (word f 0) 12000 ≡ true → entries_of (f ∷ fs) ≡ f ∷ cond (measured f) (entries_of fs) []
unfolding entries_of
read-on f fs l = by_test (measured f) (λ m. rw m refl) (λ m. rw m (rw l refl))

read_none : (f : List ℕ) (fs : List (List ℕ)) → leb (word f 0) 12000 ≡ false → entries_of (f ∷ fs) ≡ take 2 f ∷ []
unfolding entries_of
read_none f fs l = rw (too_long f l) (rw l refl)

-- the first frame is the first entry, as long as it does not say too much
within : (w : List ℕ) → 0 < length w → word w 0 ≤ 12000 → entries_in w ≡ take (frame_size 12000 w true) w ∷ cond (measured (take (frame_size 12000 w true) w)) (entries_in (drop (frame_size 12000 w true) w)) []
unfolding entries_in
within w h i =
    let f : List ℕ = take (word w 0 + 2) w in
    let c = size_cuts 12000 w i in
    let l : leb (word f 0) 12000 ≡ true = rw (word-take (word w 0 + 2) w (omega arith)) (le-leb _ _ i) in
    rw (c.0, c.1) (ap entries_of (first_frame w h) ∙ read-on f _ l)

-- and of one that does it is the length
above : (w : List ℕ) → 0 < length w → 12000 < word w 0 → take (frame_size 12000 w true) w ≡ take 2 w
above w h i =
    by_test (leb 2 (length w)) (λ t. rw (size-long 12000 w true (leb-true 2 (length w) t) i) refl)
    (λ t.
    let j = leb-false 2 (length w) t in
    take_all (frame_size 12000 w true) w (omega (arith, size-some 12000 w h)) ∙ sym (take_all 2 w (omega arith)))

beyond : (w : List ℕ) → 0 < length w → 12000 < word w 0 → entries_in w ≡ take (frame_size 12000 w true) w ∷ cond (measured (take (frame_size 12000 w true) w)) (entries_in (drop (frame_size 12000 w true) w)) []
unfolding entries_in
beyond w h i =
    let f : List ℕ = take (word w 0 + 2) w in
    let l : leb (word f 0) 12000 ≡ false = rw (word-take (word w 0 + 2) w (omega arith)) (lt-leb _ _ i) in
    let m : measured (take 2 w) ≡ false = too_short (take 2 w) (simp length-take (omega arith)) in
    rw (above w h i) (rw m (ap entries_of (first_frame w h) ∙ read_none f _ l ∙ ap (λ (e : List ℕ). e ∷ []) (take-take 2 (word w 0 + 2) w (omega arith))))

pub first_entry : FirstEntry
first_entry w h = by_test (leb (word w 0) 12000) (λ t. within w h (leb-true _ _ t)) (λ t. beyond w h (leb-false _ _ t))
