-- Bytes written at a place of a buffer: one run after another, in a part of the buffer, and over the turns of a loop.
-- Assumes nothing.
use Prim.Native.Nat.{ℕ, ◌+◌, ◌-◌, ◌≤◌}
use mathlib.Core.List.{List, [], ◌++◌, append_assoc, append-nil}
use mathlib.Core.Path.{◌≡◌, refl, sym, ap, ◌∙◌}
use native.Mathlib.Nat.{zero-add, le_refl}
use native.Mathlib.Omega.{arith}
use lib.ListN.{length, take, drop, length-drop, length-append, drop_of_length-le}
use lib.Seq.{sets-eq, drop-drop, length-sets}
use Rattle.laws.proofs.Lists.{sets_append, part_to_end}
use Rattle.telegram.specs.Telegram.{over}
use Rattle.records.specs.Emitting.{written}
use Rattle.records.specs.Promises.{NoneWritten, Split, Start, Next, RoomLeft, AllPut}

-- one run of bytes after another is the run of both
pub written-append : (l : List ℕ) (i : ℕ) (xs ys : List ℕ) → written l i (xs ++ ys) ≡ written (written l i xs) (i + length xs) ys
unfolding written
written-append l i xs ys = sets_append l i xs ys

pub written_none : NoneWritten
unfolding written
written_none l i = refl

pub length-written : (l : List ℕ) (i : ℕ) (xs : List ℕ) → length (written l i xs) ≡ length l
unfolding written
length-written l i xs = length-sets l i xs

-- at the front of a buffer
pub written_over : (b bs : List ℕ) → length bs ≤ length b → written b 0 bs ≡ over bs b
unfolding written
written_over b bs h = let fits : 0 + length bs ≤ length b = omega arith in rw (sets-eq bs b 0 fits, zero-add) refl

-- what a callee left in a part that starts at a, said of the whole
pub part-back : (xs : List ℕ) (a : ℕ) (vs ys : List ℕ) → a + length vs ≤ length xs → ys ≡ written (take (length xs - a) (drop a xs)) 0 vs
    → take a xs ++ (ys ++ drop (length xs - a) (drop a xs)) ≡ written xs a vs
unfolding written
part-back xs a vs ys h e =
    let none : drop (length xs - a) (drop a xs) ≡ [] = drop_of_length-le (drop a xs) {i = length xs - a} (simp length-drop (le_refl _)) in
    let fits : 0 + length vs ≤ length (drop a xs) = simp length-drop (omega arith) in
    rw (none, append-nil, e, part_to_end xs a, sets-eq vs (drop a xs) 0 fits, sets-eq vs xs a h, zero-add, drop-drop) (simp append_assoc)

-- ---- writing in several turns

pub start : Start
start b at total = record { bytes = refl; ends = refl; same = refl }

pub next : {b₀ : List ℕ} {at : ℕ} {total b : List ℕ} {p : ℕ} {rest xs ys b' : List ℕ} {p' : ℕ}
    → Next b₀ at total b p rest xs ys b' p'
next {b₀} {at} {total} {b} {p} {rest} {xs} {ys} {b'} {p'} w e ep eb = record {
  bytes = rw (eb, ep) (sym (written-append b p xs ys) ∙ (ap (λ (l : List ℕ). written b p l) (sym e.parts) ∙ w.bytes));
  ends = omega (arith, w.ends, ep, simp length-append at (ap length e.parts));
  same = ap length eb ∙ length-written b p xs ∙ w.same;
}

pub room : {b₀ : List ℕ} {at : ℕ} {total b : List ℕ} {p : ℕ} {rest xs ys : List ℕ}
    → RoomLeft b₀ at total b p rest xs ys
room w e h = omega (arith, w.ends, w.same, simp length-append at (ap length e.parts))

pub all_put : {b₀ : List ℕ} {at : ℕ} {total b : List ℕ} {p : ℕ} {rest : List ℕ} → AllPut b₀ at total b p rest
all_put {b₀} {at} {total} {b} {p} {rest} w e =
    (omega (arith, w.ends, ap length e), sym (written_none b p) ∙ (ap (λ (l : List ℕ). written b p l) (sym e) ∙ w.bytes))

-- xs alone is left
pub last : (xs : List ℕ) → Split xs xs []
last xs = record { parts = sym (append-nil xs) }
