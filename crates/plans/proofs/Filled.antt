-- An array of fillers into which items are stored from the front on is the items with fillers behind them.
-- Assumes nothing.
use Prim.Native.Nat.{ℕ, ◌+◌, ◌-◌, ◌≤◌}
use mathlib.Core.List.{List}
use mathlib.Core.Path.{◌≡◌, sym, ◌∙◌}
use native.Mathlib.Omega.{arith}
use native.Mathlib.Nat.{zero-add}
use lib.ListN.{length, take, replicate, length-replicate}
use lib.Seq.{sets, sets-eq, take_at}
use Rattle.laws.proofs.Lists.{drop-replicate}
use Rattle.set_rules.specs.Plan.{filled}

pub filled_sets : {A : Type 0} (n : ℕ) (z : A) (items : List A) → length items ≤ n → filled n z items ≡ sets (replicate n z) 0 items
filled_sets n z items h =
    let l : 0 + length items ≤ length (replicate n z) = rw length-replicate (omega arith) in
    sym (sets-eq items (replicate n z) 0 l ∙ rw (zero-add, drop-replicate))

-- the items are at the front
pub take-filled : {A : Type 0} (k n : ℕ) (z : A) (items : List A) → length items ≡ k → take k (filled n z items) ≡ items
take-filled k n z items h = take_at items (replicate (n - length items) z) k h
