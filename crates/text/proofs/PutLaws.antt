-- Laws of bytes put into a text: one run behind another, none, and one byte.
-- Assumes nothing.
use Prim.Native.Nat.{ℕ, ◌+◌}
use mathlib.Core.List.{List, [], ◌∷◌}
use mathlib.Core.Path.{◌≡◌, refl, sym, ap, ◌∙◌}
use native.Mathlib.Omega.{arith}
use lib.ListN.{length, length-append, set}
use lib.Seq.{length-sets}
use Rattle.laws.proofs.Lists.{sets_append}
use Rattle.text.specs.Written.{written, Puts}
use Rattle.text.specs.Promises.{RunsJoin, NonePut, LengthKept}

pub also : {b : List ℕ} {at : ℕ} {xs b₁ : List ℕ} {p : ℕ} {ys b₂ : List ℕ} {r : ℕ} → RunsJoin b at xs b₁ p ys b₂ r
unfolding written
also {b} {at} {xs} {b₁} {p} {ys} {b₂} {r} f g = record {
  text = g.text ∙ (rw (f.text, f.place) refl ∙ sym (sets_append b at xs ys));
  place = simp length-append (omega (arith, f.place, g.place));
}

pub puts_none : NonePut
unfolding written
puts_none b at = record { text = refl; place = omega arith }

pub puts-length : {b : List ℕ} {at : ℕ} {xs b₁ : List ℕ} {r : ℕ} → LengthKept b at xs b₁ r
unfolding written
puts-length {b} {at} {xs} {b₁} {r} f = ap length f.text ∙ length-sets b at xs

-- a store puts one byte
pub stored : (l : List ℕ) (i x : ℕ) {r : ℕ} → r ≡ i + 1 → Puts l i (x ∷ []) (set l i x) r
unfolding written
stored l i x e = record { text = refl; place = e }

-- the same bytes, said otherwise
pub alike : {b : List ℕ} {at : ℕ} {xs b₁ : List ℕ} {p : ℕ} {ys : List ℕ} → Puts b at xs b₁ p → xs ≡ ys → Puts b at ys b₁ p
alike f e = rw (← e) f
