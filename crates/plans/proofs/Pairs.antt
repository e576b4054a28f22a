-- Equal numbers among desks: a desk against those behind it, and the desks behind it among themselves.
-- Assumes nothing.
use Prim.Native.Nat.{ℕ, ◌+◌, ◌-◌, ◌≤◌, ◌<◌}
use mathlib.Core.List.{List}
use mathlib.Core.Bool.{true, false, ◌&&◌, ◌||◌, not}
use mathlib.Core.Path.{◌≡◌}
use native.Mathlib.Numerals.{add-one}
use lib.ListN.{length, take, drop, get_or, drop_of_length-le}
use lib.Seq.{drop-cons}
use lib.Dec.{eqb}
use Rattle.laws.proofs.Lists.{part_to_end}
use Rattle.set_rules.specs.Plan.{has_number, distinct}
use Rattle.set_state.specs.declared.state.Desk.{Desk}

module _ (ds : List Desk) (i : ℕ) (z : Desk) (h : i < length ds) where
  -- those behind it are the part to the end, as the code takes it
  pub distinct-at : distinct (drop i ds)
      ≡ (not (has_number (get_or ds i z).number.digits (take (length ds - (i + 1)) (drop (i + 1) ds))) && distinct (drop (i + 1) ds))
  unfolding distinct
  distinct-at = rw (part_to_end ds (i + 1), add-one, drop-cons ds i z h)

  pub number_at : (v : ℕ) → has_number v (drop i ds) ≡ (eqb v (get_or ds i z).number.digits || has_number v (drop (i + 1) ds))
  unfolding has_number
  number_at v = rw (add-one, drop-cons ds i z h)

module _ (ds : List Desk) (i : ℕ) (h : length ds ≤ i) where
  pub distinct_end : distinct (drop i ds) ≡ true
  unfolding distinct
  distinct_end = rw (drop_of_length-le ds h)

  pub number_end : (v : ℕ) → has_number v (drop i ds) ≡ false
  unfolding has_number
  number_end v = rw (drop_of_length-le ds h)
