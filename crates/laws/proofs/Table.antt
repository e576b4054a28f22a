-- Going row by row, said once: of the row that a table has for a number.
-- Assumes nothing.
use Prim.Native.Nat.{ℕ}
use mathlib.Core.List.{List, [], ◌∷◌, map}
use mathlib.Core.Bool.{Bool, true, false, cond}
use mathlib.Core.Path.{◌≡◌, refl, subst}
use lib.Dec.{eqb}
use borrow.Author.Tests.{eqb-true}
use Rattle.laws.specs.Table.{pick}
use Rattle.laws.specs.Each.{Each}

module _ {A : Type 0} where
  -- what holds of each row, where it is the one picked, and of z, holds of the row picked
  pub pick_each : (P : A → Type 0) (k : ℕ) (z : A) (rows : List (ℕ × A)) → P z → Each (λ w. k ≡ w.0 → P w.1) rows → P (pick k z rows)
  unfolding pick
  pick_each P k z [] p o = p
  pick_each P k z (w ∷ ws) p o = go (eqb k w.0) refl (pick_each P k z ws p o.1)
    where
      go : (t : Bool) → eqb k w.0 ≡ t → P (pick k z ws) → P (cond t w.1 (pick k z ws))
      go true e rest = o.0 (eqb-true k w.0 e)
      go false e rest = rest

  -- two tables whose rows are related one by one
  abbrev pub Matched : (A → A → Type 0) → List (ℕ × A) → List (ℕ × A) → Type 0
  Matched R [] [] = Unit {0}
  Matched R [] (b ∷ bs) = ⊥
  Matched R (a ∷ rows) [] = ⊥
  Matched R (a ∷ rows) (b ∷ bs) = R a.1 b.1 × Matched R rows bs

  abbrev pub numbers : List (ℕ × A) → List ℕ
  numbers rows = map (λ (w : ℕ × A). w.0) rows

  pub pick_matched : (R : A → A → Type 0) (k : ℕ) (z z' : A) (l l' : List (ℕ × A)) → numbers l ≡ numbers l' → R z z' → Matched R l l' → R (pick k z l) (pick k z' l')
  unfolding pick
  pick_matched R k z z' [] [] e h w = h
  pick_matched R k z z' [] (b ∷ bs) e h w = absurd w
  pick_matched R k z z' (a ∷ rows) [] e h w = absurd w
  pick_matched R k z z' (a ∷ rows) (b ∷ bs) e h w =
      let same : a.0 ≡ b.0 = cc in
      let rest : numbers rows ≡ numbers bs = cc in
      subst (λ (i : ℕ). R (cond (eqb k a.0) a.1 (pick k z rows)) (cond (eqb k i) b.1 (pick k z' bs))) same
      (go (eqb k a.0) (pick_matched R k z z' rows bs rest h w.1))
    where
      go : (t : Bool) → R (pick k z rows) (pick k z' bs) → R (cond t a.1 (pick k z rows)) (cond t b.1 (pick k z' bs))
      go true rest = w.0
      go false rest = rest
