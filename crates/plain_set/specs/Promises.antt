-- What is promised of a set as numbers, beside the contracts. `proofs/Kept.antt` has the proof under the name given with it, and
-- is the one module of the proofs that other crates cite.
use Rattle.std.specs.Prelude.{ℕ, List, ◌≡◌}
use Rattle.set_state.specs.declared.state.LineSet.{LineSet}
use Rattle.plain_set.specs.Plain.{set_in, plain_of}

-- The numbers that a set is kept as are that set: what holds of sets over whole feeds holds of those in memory (`returns`).
abbrev pub Returns : Type 0
Returns = (layout : List ℕ) (s : LineSet) → set_in (plain_of layout s) ≡ s
