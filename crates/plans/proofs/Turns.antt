-- One turn of the loops that read the desks and the channels of a plan: the item at i, and those after it.
-- Assumes nothing.
use Prim.Native.Nat.{ℕ, suc, ◌+◌, ◌-◌, ◌*◌, ◌≤◌, ◌<◌}
use mathlib.Core.List.{List, [], ◌∷◌}
use mathlib.Core.Bool.{true, ◌&&◌}
use mathlib.Core.Path.{◌≡◌}
use native.Mathlib.Omega.{arith}
use native.Mathlib.Nat.{add-zero}
use lib.ListN.{drop, get_or}
use lib.Seq.{drop-drop, get_or-drop}
use lib.Dec.{leb}
use borrow.Author.Tests.{leb-true}
use Rattle.laws.proofs.Tests.{both}
use Rattle.fields.specs.Fields.{between}
use Rattle.channel.specs.State.{free_channel, first_desks}
use Rattle.set_rules.specs.Plan.{desk_ok, desks_ok, desks_in, channels_ok, channels_in}
use Rattle.plans.specs.Planned.{desk_of}

-- the places left fall by one, and the bytes left by those of an item
module _ (n i : ℕ) (h : i < n) where
  left : n - i ≡ suc (n - (i + 1))
  left = omega arith

  behind : (k : ℕ) → k * (i + 1) ≡ k * i + k
  behind k = omega arith

  pub desks_ok_at : (s : List ℕ)
      → desks_ok (n - i) (drop (10 * i) s) ≡ (desk_ok (drop (10 * i) s) && desks_ok (n - (i + 1)) (drop (10 * (i + 1)) s))
  unfolding desks_ok
  desks_ok_at s = rw (left, behind 10, ← drop-drop 10 (10 * i) s)

  pub desks-at : (s : List ℕ)
      → desks_in (n - i) (drop (10 * i) s) ≡ desk_of (drop (10 * i) s) ∷ desks_in (n - (i + 1)) (drop (10 * (i + 1)) s)
  unfolding desks_in
  desks-at s = rw (left, behind 10, ← drop-drop 10 (10 * i) s)

  pub channels_ok_at : (s : List ℕ) (low desks : ℕ)
      → channels_ok (n - i) low desks (drop (2 * i) s)
      ≡ (between low 99 (get_or s (2 * i) 0) && between 1 (first_desks desks) (get_or s (2 * i + 1) 0)
      && channels_ok (n - (i + 1)) (get_or s (2 * i) 0 + 1) desks (drop (2 * (i + 1)) s))
  unfolding channels_ok
  channels_ok_at s low desks = rw (left, behind 2, ← drop-drop 2 (2 * i) s) (simp (get_or-drop, add-zero))

  pub channels-at : (s : List ℕ)
      → channels_in (n - i) (drop (2 * i) s)
      ≡ free_channel (get_or s (2 * i) 0) (get_or s (2 * i + 1) 0) ∷ channels_in (n - (i + 1)) (drop (2 * (i + 1)) s)
  unfolding channels_in
  channels-at s = rw (left, behind 2, ← drop-drop 2 (2 * i) s) (simp (get_or-drop, add-zero))

-- at the end
module _ (n i : ℕ) (h : n ≤ i) where
  none : n - i ≡ 0
  none = omega arith

  pub desks_end : (b : List ℕ) → (desks_ok (n - i) b ≡ true) × (desks_in (n - i) b ≡ [])
  unfolding desks_ok desks_in
  desks_end b = (rw none, rw none)

  pub channels_end : (low desks : ℕ) (b : List ℕ) → (channels_ok (n - i) low desks b ≡ true) × (channels_in (n - i) b ≡ [])
  unfolding channels_ok channels_in
  channels_end low desks b = (rw none, rw none)

-- a code that is right is at most 99
pub code-low : (low code all mask : ℕ) → (between low 99 code && between 1 all mask) ≡ true → code ≤ 99
code-low low code all mask h = leb-true code 99 (both (leb low code) (leb code 99) (both (between low 99 code) (between 1 all mask) h).0).1
