-- What is promised of sets of desks, beside the contracts. `proofs/Kept.antt` has the proof under the name given with it, and is the
-- one module of the proofs that other crates cite.
use Rattle.std.specs.Prelude.{ℕ, ◌≤◌, List, ◌&&◌, ◌≡◌, length, take, get_or}
use Rattle.channel.specs.State.{is_in}
use Rattle.channel.specs.declared.state.Channel.{Channel}
use Rattle.set_state.specs.Entry.{number_of}
use Rattle.set_state.specs.declared.state.Refusal.{Refusal}
use Rattle.set_state.specs.State.{no_desk, is_running, listeners_of}
use Rattle.set_state.specs.declared.state.Desk.{Desk}

-- "E is the set of running entitled desks", exactly those of the plan: a desk that is not there is not running
-- (`listeners_exactly`).
abbrev pub ListenersExactly : Type 0
ListenersExactly =
    (ds : List Desk) (n : ℕ) (c : Channel) (d : ℕ) → length ds ≤ 8
    → is_in d (listeners_of ds n c) ≡ (is_running (get_or (take n ds) d no_desk) && is_in d c.entitled)

-- 0 is the number of no refusal (`numbered_from_one`).
abbrev pub NumberedFromOne : Type 0
NumberedFromOne = (r : Refusal) → number_of r ≡ 0 → ⊥
