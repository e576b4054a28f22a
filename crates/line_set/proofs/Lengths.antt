-- How long an entry is that could be read.
-- Assumes nothing.
use Prim.Native.Nat.{ℕ, ◌≤◌}
use mathlib.Core.List.{List}
use mathlib.Core.Bool.{Bool, true, false}
use mathlib.Core.Path.{◌≡◌, refl}
use native.Mathlib.Omega.{arith}
use lib.Dec.{leb}
use lib.ListN.{length}
use borrow.Author.Tests.{leb-true}
use Rattle.set_state.specs.Entry.{refusal_in}
use Rattle.set_rules.specs.Entries.{read_entry}

pub long_enough : (e : List ℕ) → refusal_in (read_entry e) ≡ 0 → 4 ≤ length e
unfolding read_entry
long_enough e z = go (leb 4 (length e)) refl
  where
    go : (t : Bool) → leb 4 (length e) ≡ t → 4 ≤ length e
    go true k = leb-true 4 (length e) k
    go false k = absurd (let f : ◌≡◌ {A = ℕ} 1 0 = rw k at z in omega arith)
