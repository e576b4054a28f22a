-- What is promised of sets of desks, beside the contracts. `proofs/Kept.antt` has the proof under the name given with it, and is the
-- one module of the proofs that other crates cite.
use Rattle.std.specs.Prelude.{ℕ, ◌^◌, ◌≤◌, ◌<◌, false, ◌≡◌}
use Rattle.channel.specs.State.{is_in}

-- A set among the first n desks has no other (`none_above`).
abbrev pub NoneAbove : Type 0
NoneAbove = (n d m : ℕ) → n ≤ d → m < 2 ^ n → is_in d m ≡ false
