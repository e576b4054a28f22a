-- The turns of the program put the lines of the input, however its bytes came.
-- Assumes nothing.
use Prim.Native.Nat.{ℕ, ◌+◌, ◌-◌, ◌≤◌, ◌<◌}
use mathlib.Core.List.{List, [], ◌++◌, append-nil}
use mathlib.Core.Bool.{true, false, true≢false}
use Rattle.std.specs.Prelude.{Some}
use mathlib.Core.Path.{◌≡◌, refl, sym, ap, ◌∙◌}
use native.Mathlib.Omega.{arith}
use lib.Dec.{leb}
use lib.ListN.{length, take, drop, length-drop}
use lib.Seq.{length-take-le, get_or-take}
use borrow.Author.Tests.{leb-true, leb-false, eq-eqb}
use Rattle.laws.proofs.Each.{each_at, each_drop}
use Rattle.laws.proofs.Tests.{by_test}
use Rattle.laws.proofs.Lists.{none-long}
use Rattle.frames.specs.Bytes.{word}
use Rattle.frames.specs.Frames.{frames_to, frame_size}
use Rattle.frames.proofs.Kept.{first_frame, size_cuts}
use Rattle.streams.specs.Places.{frame_at, unread}
use Rattle.streams.specs.Promises.{came, Begins}
use Rattle.streams.proofs.Kept.{hands-first, nothing_left}
use Rattle.streams.specs.declared.place.Place.{Place}
use Rattle.telegrams.specs.Lines.{whole, frame_line, lines_of, telegram_lines}
use Rattle.telegrams.specs.Turns.{Turns, ends, stops, goes}
use Rattle.telegrams.specs.Promises.{Bytes, TurnsPrint}

-- two bytes count no more than the longest frame
word_fits : (w : List ℕ) → Bytes w → word w 0 ≤ 65535
word_fits w e = omega (arith, each_at (λ x. x < 256) w 0 e (omega arith) 0, each_at (λ x. x < 256) w 0 e (omega arith) 1)

-- ---- bytes that begin with a frame

module _ {w f rest : List ℕ} (h : Begins 65535 w f rest) (e : Bytes w) where
  cut : (take (word w 0 + 2) w ≡ f) × (drop (word w 0 + 2) w ≡ rest)
  cut = let c = size_cuts 65535 w (word_fits w e) in (sym c.0 ∙ h.first, sym c.1 ∙ h.rest)

  pub lines_first : telegram_lines w ≡ frame_line f ++ telegram_lines rest
  unfolding telegram_lines lines_of
  lines_first = ap lines_of (first_frame w h.some) ∙ rw (cut.0, cut.1) refl

  -- behind one that breaks off there is nothing
  pub broken-last : whole f ≡ false → rest ≡ []
  broken-last t = by_test (leb (word w 0 + 2) (length w)) (λ i. absurd (true≢false (sym (all (leb-true _ _ i)) ∙ t))) (λ i. none (leb-false _ _ i))
    where
      word-front : word (take (word w 0 + 2) w) 0 ≡ word w 0
      word-front = omega (arith, get_or-take (word w 0 + 2) w 0 0 (omega arith), get_or-take (word w 0 + 2) w 1 0 (omega arith))

      all : word w 0 + 2 ≤ length w → whole f ≡ true
      all i =
          let l : length f ≡ word w 0 + 2 = ap length (sym cut.0) ∙ length-take-le (word w 0 + 2) w i in
          let k : word f 0 ≡ word w 0 = ap (λ (x : List ℕ). word x 0) (sym cut.0) ∙ word-front in
          let same : word f 0 + 2 ≡ length f = omega (arith, k, l) in
          eq-eqb (word f 0 + 2) (length f) same

      none : length w < word w 0 + 2 → rest ≡ []
      none i = none-long rest (let l : length rest ≡ length w - (word w 0 + 2) = ap length (sym cut.1) ∙ length-drop (word w 0 + 2) w in omega arith)

-- ---- all turns

pub lines_none : telegram_lines [] ≡ []
unfolding telegram_lines lines_of frames_to
lines_none = refl

prints : {room long : ℕ} {b : List ℕ} {p : Place} {out v : List ℕ} → Turns room long b p out v → Bytes (unread b p ++ v) → out ≡ telegram_lines (unread b p ++ v)
prints {room} {long} (ends {b} {p} {b'} n) e = sym (ap telegram_lines (nothing_left 65535 room long b p b' n) ∙ lines_none)
prints {room} {long} (stops {b} {p} {b'} {r} {v} n c t) e =
    let h = hands-first 65535 room long b p b' r v n c in
    sym (lines_first h e ∙ rw (broken-last h e t, lines_none) (append-nil _))
prints {room} {long} (goes {b} {p} {b'} {r} {waits} {out} {v} n c t turns) e =
    let h = hands-first 65535 room long b p b' r v n c in
    let all : List ℕ = unread b p ++ (came b p b' (Some r) ++ v) in
    let behind : Bytes (unread b' r ++ v) = rw h.rest at (each_drop (λ x. x < 256) (frame_size 65535 (unread b p ++ (came b p b' (Some r) ++ v)) true) (unread b p ++ (came b p b' (Some r) ++ v)) e) in
    sym (lines_first h e ∙ ap (λ (x : List ℕ). frame_line (frame_at b' r) ++ x) (sym (prints turns behind)))

pub turns_print : TurnsPrint
turns_print room long b out input e turns = prints turns e
