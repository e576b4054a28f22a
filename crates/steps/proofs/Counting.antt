-- A round, entry by entry, as the code steps it.
-- Assumes nothing.
use Rattle.std.proofs.Common.{◌≡◌, ℕ, ◌+◌, ◌%◌, ◌^◌, ◌<◌, ◌≤◌, true, false, cond, eqb, List, [], ◌∷◌, length, take, drop, sym, refl, ap, ◌∙◌, arith, eq-eqb, ne_eqb}
use Rattle.laws.proofs.Tests.{by_test}
use Rattle.laws.proofs.Lists.{none-long}
use Rattle.frames.specs.Frames.{frames_to, frame_size}
use Rattle.frames.proofs.Kept.{size-within, size-some}
use Rattle.set_state.specs.State.{new_set}
use Rattle.set_state.specs.declared.state.LineSet.{LineSet}
use Rattle.set_rules.specs.Entries.{measured}
use Rattle.set_rules.specs.Feeds.{Outcome, Numbers, answer_of, step_of, run}
use Rattle.feeds.specs.Listing.{entries_of, entries_in, lent_to}
use Rattle.feeds.proofs.Kept.{with_one, not_with_one, first_entry, first-answer}
use Rattle.steps.specs.Rounds.{none, counted, counting, round_of}
use Rattle.steps.specs.declared.rounds.Round.{Round}

-- what is still to be stepped, by a set, with a buffer of so many bytes, makes of the counts so far the round
abbrev pub SoFar : ℕ → List ℕ → LineSet → Round → List ℕ → Type 0
SoFar room feed s r rest = counting r (run s (lent_to room (entries_in rest))) ≡ round_of room feed

pub so_far_none : (room : ℕ) (feed : List ℕ) → SoFar room feed new_set none feed
unfolding round_of
so_far_none room feed = refl

none_left : (room : ℕ) (s : LineSet) (r : Round) → counting r (run s (lent_to room [])) ≡ r
unfolding counting run
none_left room s r = refl

no_entries : entries_in [] ≡ []
unfolding entries_in entries_of frames_to
no_entries = refl

pub so_far_all : (room : ℕ) (feed : List ℕ) (s : LineSet) (r : Round) (rest : List ℕ) → length rest ≡ 0 → SoFar room feed s r rest → r ≡ round_of room feed
so_far_all room feed s r rest h i =
    let e : entries_in rest ≡ [] = ap entries_in (none-long rest h) ∙ no_entries in
    sym (none_left room s r) ∙ (ap (λ (es : List (List ℕ)). counting r (run s (lent_to room es))) (sym e) ∙ i)

-- how many bytes of the rest a turn steps
pub record Size (rest : List ℕ) (size : ℕ) : Type 0 where
  pub left : 0 < length rest
  pub cut : size ≡ frame_size 12000 rest true
  pub some : 0 < size
  pub within : size ≤ length rest

pub size_of : (rest : List ℕ) (size : ℕ) → (length rest ≡ 0 → ⊥) → size ≡ frame_size 12000 rest true → Size rest size
size_of rest size n e =
    let h : 0 < length rest = omega (arith, n) in
    record { left = h; cut = e; some = rw e (size-some 12000 rest h); within = rw e (size-within 12000 rest true) }

-- how many are accepted with an answer
pub one-accepted : (n : ℕ) {refusal m : ℕ} → refusal ≡ 0 → m ≡ n + 1 → m ≡ n + cond (eqb refusal 0) 1 0
one-accepted n {refusal} {m} z e = rw (eq-eqb refusal 0 z) e

pub none-accepted : (n : ℕ) {refusal m : ℕ} → (refusal ≡ 0 → ⊥) → m ≡ n → m ≡ n + cond (eqb refusal 0) 1 0
none-accepted n {refusal} {m} z e = rw (ne_eqb refusal 0 z) (omega (arith, e))

-- a turn: an answer to the entry of that size, and the counts after it
module _ (room : ℕ) (feed : List ℕ) (s : LineSet) (r : Round) (rest : List ℕ) (size : ℕ) (z : Size rest size) (i : SoFar room feed s r rest)
    (lent : ℕ) (l : lent ≡ room) (a : Numbers) (g : a ≡ answer_of (step_of s (take size rest) lent))
    (accepted : ℕ) (k : accepted ≡ r.accepted + cond (eqb a.refusal 0) 1 0)
    (bytes : ℕ) (b : bytes ≡ (r.bytes + a.count) % 2 ^ 64) where
  abbrev e : List ℕ
  e = take size rest

  abbrev o : Outcome
  o = step_of s e room

  abbrev after : Round
  after = record { entries = r.entries + 1; accepted = accepted; bytes = bytes }

  answered : a ≡ answer_of o
  answered = g ∙ ap (λ (m : ℕ). answer_of (step_of s e m)) l

  counted_so : counted r o ≡ after
  counted_so = rw (k, b, answered) refl

  turned : counting after (run a.set (lent_to room (cond (measured e) (entries_in (drop size rest)) []))) ≡ round_of room feed
  unfolding counting
  turned =
      let es : List (List ℕ) = cond (measured e) (entries_in (drop size rest)) [] in
      let first : entries_in rest ≡ e ∷ es = rw z.cut (first_entry rest z.left) in
      ap (λ (x : Round). counting x (run a.set (lent_to room es))) (sym counted_so)
      ∙ (ap (λ (x : Numbers). counting (counted r o) (run x.set (lent_to room es))) answered
      ∙ (sym (ap (counting r) (ap (λ (l : List (List ℕ)). run s (lent_to room l)) first ∙ first-answer s room e es)) ∙ i))

  pub stopped : a.refusal ≡ 1 → after ≡ round_of room feed
  stopped one =
      let m : measured e ≡ false = by_test (measured e) (λ t. absurd (not_with_one s e room t (ap (λ (x : Numbers). x.refusal) (sym answered) ∙ one))) (λ t. t) in
      sym (none_left room a.set after) ∙ rw m at turned

  pub so_far_next : (a.refusal ≡ 1 → ⊥) → SoFar room feed a.set after (drop size rest)
  so_far_next other =
      let m : measured e ≡ true = by_test (measured e) (λ t. t) (λ t. absurd (other (ap (λ (x : Numbers). x.refusal) answered ∙ with_one s e room t))) in
      rw m at turned
