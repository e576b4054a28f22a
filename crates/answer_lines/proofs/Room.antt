-- How much room an answer's lines take: 48 bytes for the entry, and 9 for each 4 of the records at most.
-- Assumes nothing.
use Prim.Native.Nat.{ℕ, zero, suc, ◌+◌, ◌*◌, ◌≤◌}
use mathlib.Core.List.{List, [], ◌∷◌}
use mathlib.Core.Logic.{inl, inr}
use native.Mathlib.Omega.{arith}
use lib.Dec.{eqb, leb}
use lib.ListN.{length, take, drop, length-drop, length-take, length-append}
use borrow.Author.Tests.{eqb-true, eqb-false, leb-true, leb-false}
use Rattle.laws.proofs.Tests.{by_test}
use Rattle.frames.specs.Bytes.{byte, word}
use Rattle.frames.specs.Frames.{frames_to}
use Rattle.text.specs.Decimal.{decimal}
use Rattle.text.proofs.Kept.{decimal-length}
use Rattle.answer_lines.specs.Lines.{record_line, record_lines}
use Rattle.answer_lines.specs.Promises.{RoomEnough}
use Rattle.answer_lines.proofs.LineLaws.{entry_length, telegram-length, contact-length, kind-there, line-telegram, line-contact, line_other}
use Rattle.answer_lines.proofs.Turns.{Bytes, bytes_take, bytes_drop, answer-length}

-- a byte has three digits at most
byte-digits : (bs : List ℕ) → Bytes bs → (i : ℕ) → length (decimal (byte bs i)) ≤ 3
byte-digits bs h i = decimal-length 2 (byte bs i) (omega (arith, h i))

record_room : (r : List ℕ) → Bytes r → 4 * length (record_line r) ≤ 9 * length r
record_room r b =
    by_test (eqb (byte r 4) 1)
    (λ e.
    let l = kind-there r (eqb-true _ _ e) in
    rw (line-telegram r (eqb-true _ _ e)) (simp (telegram-length, length-take, length-drop) (omega (arith, byte-digits r b 3))))
    (λ e. by_test (eqb (byte r 4) 2)
    (λ f. by_test (leb 8 (length r))
    (λ g. let l = leb-true _ _ g in rw (line-contact r (eqb-true _ _ f) l) (simp contact-length (omega (arith, byte-digits r b 3, byte-digits r b 5, byte-digits r b 6, byte-digits r b 7))))
    (λ g. rw (line_other r (eqb-false _ _ e) (inr (leb-false _ _ g))) (omega arith)))
    (λ f. rw (line_other r (eqb-false _ _ e) (inl (eqb-false _ _ f))) (omega arith)))

records-room : (k : ℕ) (bs : List ℕ) → Bytes bs → 4 * length (record_lines (frames_to k bs)) ≤ 9 * length bs
unfolding frames_to record_lines
records-room zero bs b = omega arith
records-room (suc k) [] b = omega arith
records-room (suc k) (x ∷ xs) b =
    let n : ℕ = word (x ∷ xs) 0 + 2 in
    let r = record_room (take n (x ∷ xs)) (bytes_take n (x ∷ xs) b) in
    let q = records-room k (drop n (x ∷ xs)) (bytes_drop n (x ∷ xs) b) in
    simp length-append (omega (arith, r, q, length-take n (x ∷ xs), length-drop n (x ∷ xs)))

pub lines_room : RoomEnough
lines_room n r c bs hn hr hc b h =
    omega (arith, answer-length n r c bs, entry_length n r c, decimal-length 19 n (omega arith), decimal-length 2 r (omega arith), decimal-length 19 c (omega arith), records-room (length bs) bs b)
