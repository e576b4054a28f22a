-- The turns of a program put the listing of the feed, however its bytes came.
-- Assumes nothing.
use Prim.Native.Nat.{ℕ, ◌+◌, ◌^◌, ◌<◌}
use mathlib.Core.List.{List, [], ◌∷◌, ◌++◌, append-nil}
use mathlib.Core.Bool.{true, false, cond}
use Rattle.std.specs.Prelude.{None, Some}
use mathlib.Core.Path.{◌≡◌, refl, sym, ap, ◌∙◌}
use native.Mathlib.Omega.{arith}
use lib.ListN.{length, length-replicate}
use Rattle.laws.proofs.Tests.{by_test}
use Rattle.frames.specs.Frames.{frames_to}
use Rattle.streams.specs.Places.{frame_at, unread, Next}
use Rattle.streams.specs.Promises.{came}
use Rattle.streams.proofs.Kept.{hands-first, nothing_left}
use Rattle.streams.specs.declared.place.Place.{Place}
use Rattle.answer_lines.specs.Lines.{lines_of}
use Rattle.set_state.specs.declared.state.LineSet.{LineSet}
use Rattle.set_rules.specs.Entries.{measured}
use Rattle.set_rules.specs.Feeds.{Outcome, step_of, step_by, run}
use Rattle.set_rules.specs.Spelling.{lent_room}
use Rattle.feeds.specs.Listing.{entries_of, entries_in, lent_to, listed, listing_of}
use Rattle.feeds.specs.Turns.{answer_at, Turns, ends, stops, goes}
use Rattle.feeds.specs.Promises.{FirstAnswer, Prints}
use Rattle.feeds.proofs.Cuts.{with_one, not_with_one, first_entry}

-- ---- the entries of a turn, with the bytes v still to come

-- the frame is the first entry of the feed from there on
handed : {room long : ℕ} {b : List ℕ} {p : Place} {b' : List ℕ} {r : Place} → Next 12000 room long b p b' (Some r) → (v : List ℕ) → (r.ended ≡ true → v ≡ [])
    → entries_in (unread b p ++ (came b p b' (Some r) ++ v)) ≡ frame_at b' r ∷ cond (measured (frame_at b' r)) (entries_in (unread b' r ++ v)) []
handed {room} {long} {b} {p} {b'} {r} n v c =
    let h = hands-first 12000 room long b p b' r v n c in
    first_entry (unread b p ++ (came b p b' (Some r) ++ v)) h.some ∙ rw (h.first, h.rest) refl

-- no frame, at the end: no entry is left
no_entry : {room long : ℕ} {b : List ℕ} {p : Place} {b' : List ℕ} → Next 12000 room long b p b' None → entries_in (unread b p ++ came b p b' None) ≡ []
unfolding frames_to entries_in entries_of
no_entry {room} {long} {b} {p} {b'} n = ap entries_in (nothing_left 12000 room long b p b' n)

-- ---- the text of a turn

pub first-answer : FirstAnswer
unfolding run
first-answer s room e es =
    let same : step_by s (lent_room room e) ≡ step_of s e room = ap (step_of s e) (length-replicate {A = ℕ} room 0) in
    rw same refl

listed-first : (s : LineSet) (n : ℕ) (e : List ℕ) (es : List (List ℕ))
    → let o : Outcome = step_of s e 32768 in
    listed n (run s (lent_to 32768 (e ∷ es))) ≡ lines_of n o.refusal o.count o.bytes ++ listed (n + 1) (run o.after (lent_to 32768 es))
unfolding listed
listed-first s n e es = ap (listed n) (first-answer s 32768 e es)

listed-none : (s : LineSet) (n : ℕ) → listed n (run s (lent_to 32768 [])) ≡ []
unfolding listed run
listed-none s n = refl

-- the number of the entry
numbered : {room long : ℕ} {b : List ℕ} {p : Place} {b' : List ℕ} {r : Place} → Next 12000 room long b p b' (Some r) → p.number + 1 < 2 ^ 64 → r.number ≡ p.number + 1
numbered n f = n.came.number ∙ omega arith

-- ---- all turns

prints : {room long : ℕ} {s : LineSet} {b : List ℕ} {p : Place} {out v : List ℕ} → Turns 12000 room long s b p out v
    → p.number + length (entries_in (unread b p ++ v)) < 2 ^ 64 → out ≡ listed (p.number + 1) (run s (lent_to 32768 (entries_in (unread b p ++ v))))
prints (ends {s} {b} {p} {b'} n) few =
    sym (ap (λ (es : List (List ℕ)). listed (p.number + 1) (run s (lent_to 32768 es))) (no_entry n) ∙ listed-none s (p.number + 1))
prints (stops {s} {b} {p} {b'} {r} {v} n c one) few =
    let m : measured (frame_at b' r) ≡ false = by_test (measured (frame_at b' r)) (λ t. absurd (not_with_one s (frame_at b' r) 32768 t one)) (λ t. t) in
    let e : entries_in (unread b p ++ (came b p b' (Some r) ++ v)) ≡ frame_at b' r ∷ [] = handed n v c ∙ rw m refl in
    let k : r.number ≡ p.number + 1 = numbered n (omega (arith, few, ap length e)) in
    rw (e, k) (sym (listed-first s (p.number + 1) (frame_at b' r) [] ∙ (rw (listed-none (answer_at s b' r).after (p.number + 1 + 1)) (append-nil _))))
prints (goes {s} {b} {p} {b'} {r} {waits} {out} {v} n c other turns) few =
    let m : measured (frame_at b' r) ≡ true = by_test (measured (frame_at b' r)) (λ t. t) (λ t. absurd (other (with_one s (frame_at b' r) 32768 t))) in
    let e : entries_in (unread b p ++ (came b p b' (Some r) ++ v)) ≡ frame_at b' r ∷ entries_in (unread b' r ++ v) = handed n v c ∙ rw m refl in
    let k : r.number ≡ p.number + 1 = numbered n (omega (arith, few, ap length e)) in
    let rest = prints turns (omega (arith, few, ap length e, k)) in
    rw (e, rest, k) (sym (listed-first s (p.number + 1) (frame_at b' r) (entries_in (unread b' r ++ v))))

pub turns_print : Prints
unfolding listing_of
turns_print room long b out feed few turns = prints turns (omega (arith, few))
