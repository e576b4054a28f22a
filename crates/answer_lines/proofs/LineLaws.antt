-- Laws of single lines: item by item, how long they are, and the line of a record by its kind.
-- Assumes nothing.
use Prim.Native.Nat.{ℕ, ◌+◌, ◌-◌, ◌≤◌, ◌<◌}
use mathlib.Core.List.{List, [], ◌∷◌, ◌++◌, append_assoc}
use mathlib.Core.Logic.{◌⊎◌, inl, inr}
use mathlib.Core.Path.{◌≡◌}
use native.Mathlib.Omega.{arith}
use lib.Dec.{eqb, leb}
use lib.ListN.{length, take, drop, length-append, get_or-eq_default}
use borrow.Author.Tests.{leb-true, leb-false, le-leb, lt-leb, eq-eqb, ne_eqb}
use Rattle.laws.proofs.Tests.{by_test}
use Rattle.laws.proofs.Lists.{part_to_end}
use Rattle.frames.specs.Bytes.{byte}
use Rattle.text.specs.Ascii.{ascii}
use Rattle.text.specs.Decimal.{decimal}
use Rattle.answer_lines.specs.Lines.{entry_line, telegram_line, contact_line, record_line}

-- ---- lines, item by item

-- a number and the byte after it
abbrev pub item : ℕ → ℕ → List ℕ
item n after = decimal n ++ (after ∷ [])

pub entry_items : (n r c : ℕ) → entry_line n r c ≡ (((69 ∷ 32 ∷ []) ++ item n 32) ++ item r 32) ++ item c 10
unfolding entry_line ascii
entry_items n r c = simp append_assoc

pub entry_length : (n r c : ℕ) → length (entry_line n r c) ≡ 5 + length (decimal n) + length (decimal r) + length (decimal c)
entry_length n r c = rw (entry_items n r c) (simp length-append (omega arith))

pub telegram_items : (d : ℕ) (t : List ℕ) → telegram_line d t ≡ (((84 ∷ 32 ∷ []) ++ item d 32) ++ t) ++ (10 ∷ [])
unfolding telegram_line ascii
telegram_items d t = simp append_assoc

pub telegram-length : (d : ℕ) (t : List ℕ) → length (telegram_line d t) ≡ 4 + length (decimal d) + length t
telegram-length d t = rw (telegram_items d t) (simp length-append (omega arith))

pub contact_items : (d k ch on : ℕ) → contact_line d k ch on ≡ ((((67 ∷ 32 ∷ []) ++ item d 32) ++ item k 32) ++ item ch 32) ++ item on 10
unfolding contact_line ascii
contact_items d k ch on = simp append_assoc

pub contact-length : (d k ch on : ℕ) → length (contact_line d k ch on) ≡ 6 + length (decimal d) + length (decimal k) + length (decimal ch) + length (decimal on)
contact-length d k ch on = rw (contact_items d k ch on) (simp length-append (omega arith))

-- ---- the line of a record, by its kind

-- where the kind is told there are the bytes before it
pub kind-there : (r : List ℕ) → byte r 4 ≡ 1 → 5 ≤ length r
kind-there r e =
    by_test (leb 5 (length r)) (λ h. leb-true 5 (length r) h)
    (λ h. let l = leb-false 5 (length r) h in omega (arith, e, get_or-eq_default r 0 {n = 4} (omega arith)))

pub line-telegram : (r : List ℕ) → byte r 4 ≡ 1 → record_line r ≡ telegram_line (byte r 3) (take (length r - 5) (drop 5 r))
unfolding record_line
line-telegram r e = rw (eq-eqb _ _ e, part_to_end r 5)

pub line-contact : (r : List ℕ) → byte r 4 ≡ 2 → 8 ≤ length r → record_line r ≡ contact_line (byte r 3) (byte r 5) (byte r 6) (byte r 7)
unfolding record_line
line-contact r e h = rw (e, le-leb _ _ h)

pub line_other : (r : List ℕ) → (byte r 4 ≡ 1 → ⊥) → (byte r 4 ≡ 2 → ⊥) ⊎ (length r < 8) → record_line r ≡ []
unfolding record_line
line_other r f (inl g) = rw (ne_eqb _ _ f, ne_eqb _ _ g)
line_other r f (inr h) = rw (ne_eqb _ _ f) (by_test (eqb (byte r 4) 2) (λ e. rw (e, lt-leb _ _ h)) (λ e. rw e))
