-- The lines of records, record by record: what is put so far, and the turn that puts the next.
-- Assumes nothing.
use Prim.Native.Nat.{ℕ, ◌+◌, ◌≤◌, ◌<◌}
use mathlib.Core.List.{List, [], ◌++◌, append_assoc, append-nil}
use mathlib.Core.Bool.{true}
use mathlib.Core.Path.{◌≡◌, refl, sym, ap, ◌∙◌}
use native.Mathlib.Omega.{arith}
use lib.Dec.{ltb}
use lib.ListN.{length, take, drop, get_or, length-take, length-append, get_or-eq_default}
use lib.Seq.{get_or-take, get_or-drop}
use borrow.Author.Tests.{ltb-true, ltb-false}
use Rattle.laws.proofs.Tests.{by_test}
use Rattle.laws.proofs.Lists.{none-long}
use Rattle.frames.specs.Bytes.{word}
use Rattle.frames.specs.Frames.{frames_to, frames_in, frame_size}
use Rattle.frames.proofs.Kept.{first_frame, size-within, size-some, size_cuts}
use Rattle.text.specs.Written.{Puts}
use Rattle.text.proofs.Kept.{also, puts_none, puts-length}
use Rattle.answer_lines.specs.Lines.{record_line, record_lines, lines_of, entry_line}

-- ---- putting a whole in several turns

-- of `total`, to be put at place `at` of b₀, the text b has all up to place p, and `rest` is left
pub record Putting (b₀ : List ℕ) (at : ℕ) (total b : List ℕ) (p : ℕ) (rest : List ℕ) : Type 0 where
  pub done : List ℕ
  pub puts : Puts b₀ at done b p
  pub whole : done ++ rest ≡ total

-- `rest` is xs, then ys: a record, so that antt finds xs and ys, which `◌++◌` hides
pub record Split (rest xs ys : List ℕ) : Type 0 where
  pub is : rest ≡ xs ++ ys

pub start : (b : List ℕ) (at : ℕ) (total : List ℕ) → Putting b at total b at total
start b at total = record { done = []; puts = puts_none b at; whole = refl }

module _ {b₀ : List ℕ} {at : ℕ} {total b : List ℕ} {p : ℕ} {rest : List ℕ} (w : Putting b₀ at total b p rest) where
  pub next : {xs ys b' : List ℕ} {p' : ℕ} → Split rest xs ys → Puts b p xs b' p' → Putting b₀ at total b' p' ys
  next {xs} {ys} e f = record {
    done = w.done ++ xs;
    puts = also w.puts f;
    whole = append_assoc w.done xs ys ∙ (ap (λ (l : List ℕ). w.done ++ l) (sym e.is) ∙ w.whole);
  }

  -- there is room for the first of what is left
  pub room : {xs ys : List ℕ} → Split rest xs ys → at + length total ≤ length b₀ → p + length xs ≤ length b
  room e h =
      omega (arith, w.puts.place, puts-length w.puts, simp length-append at (ap length w.whole), simp length-append at (ap length e.is))

  pub ended : rest ≡ [] → Puts b₀ at total b p
  ended e = rw (← w.whole, e, append-nil) w.puts

-- ---- a turn over the records

-- a list of bytes
abbrev pub Bytes : List ℕ → Type 0
Bytes bs = (i : ℕ) → get_or bs i 0 < 256

pub bytes_drop : (n : ℕ) (bs : List ℕ) → Bytes bs → Bytes (drop n bs)
bytes_drop n bs h i = rw (get_or-drop n bs i 0) (h (n + i))

pub bytes_take : (n : ℕ) (bs : List ℕ) → Bytes bs → Bytes (take n bs)
bytes_take n bs h i =
    by_test (ltb i n) (λ e. rw (get_or-take n bs i 0 (ltb-true i n e)) (h i))
    (λ e. let l = ltb-false i n e in rw (get_or-eq_default (take n bs) 0 {n = i} (simp length-take (omega arith))) (omega arith))

-- the first of some records, of so many bytes
pub record Turn (rs : List ℕ) (size : ℕ) : Type 0 where
  pub within : size ≤ length rs
  pub some : 0 < size
  pub parts : Split (record_lines (frames_in rs)) (record_line (take size rs)) (record_lines (frames_in (drop size rs)))

first-line : (w : List ℕ) → word w 0 ≤ 65535 → 0 < length w
    → record_lines (frames_in w) ≡ record_line (take (frame_size 65535 w true) w) ++ record_lines (frames_in (drop (frame_size 65535 w true) w))
unfolding record_lines
first-line w h l = rw (first_frame w l, (size_cuts 65535 w h).0, (size_cuts 65535 w h).1)

pub turn : (rs : List ℕ) (size : ℕ) → Bytes rs → 0 < length rs → size ≡ frame_size 65535 rs true → Turn rs size
turn rs size b h e = record {
  within = rw e (size-within 65535 rs true);
  some = rw e (size-some 65535 rs h);
  parts = record { is = rw e (first-line rs (omega (arith, b 0, b 1)) h) };
}

-- no records have no line
pub no_lines : (rs : List ℕ) → length rs ≡ 0 → record_lines (frames_in rs) ≡ []
unfolding record_lines frames_to
no_lines rs h = rw (none-long rs h)

-- ---- an answer

pub answer-parts : (n r c : ℕ) (bs : List ℕ) → lines_of n r c bs ≡ entry_line n r c ++ record_lines (frames_in bs)
unfolding lines_of
answer-parts n r c bs = refl

pub answer-length : (n r c : ℕ) (bs : List ℕ) → length (lines_of n r c bs) ≡ length (entry_line n r c) + length (record_lines (frames_in bs))
answer-length n r c bs = ap length (answer-parts n r c bs) ∙ length-append (entry_line n r c) (record_lines (frames_in bs))
