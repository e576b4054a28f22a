-- A table with a row for each number: it computes once the number is known.
use Rattle.std.specs.Prelude.{ℕ, List, [], ◌∷◌, cond, eqb}

-- the row of a number, or z where the table has none
unfoldable pub pick : {A : Type 0} → ℕ → A → List (ℕ × A) → A
pick k z [] = z
pick k z (w ∷ ws) = cond (eqb k w.0) w.1 (pick k z ws)
