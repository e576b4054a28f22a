-- What 01's line rules ask of the state of one channel, and a channel on which nothing goes on.
use Rattle.std.specs.Prelude.{ℕ, zero, suc, ◌-◌, ◌/◌, ◌%◌, ◌^◌, Bool, false, cond, ltb, eqb, Option, None, Some, is_some, unwrap_or}
use Rattle.channel.specs.declared.state.Call.{Call}
use Rattle.channel.specs.declared.state.Arrival.{Arrival}
use Rattle.channel.specs.declared.state.Channel.{Channel}

-- the set of one desk; a set has eight places
abbrev pub only : ℕ → ℕ
only d = cond (ltb d 8) (2 ^ d) 0

-- the set of the first n desks
abbrev pub first_desks : ℕ → ℕ
first_desks n = cond (ltb n 8) (2 ^ n - 1) 255

-- a desk is in a set
unfoldable pub is_in : ℕ → ℕ → Bool
is_in zero m = eqb (m % 2) 1
is_in (suc d) m = is_in d (m / 2)

abbrev pub free_channel : ℕ → ℕ → Channel
free_channel k m =
    record { code = k; entitled = m; holder = None; presser = None; quiet = 0; release = 0; ring = 0; call = None; arrival = None }

-- somebody holds the channel, or its talk key
abbrev pub is_held : Option ℕ → Bool
is_held p = is_some p

abbrev pub held_by : ℕ → Option ℕ → Bool
held_by d None = false
held_by d (Some h) = eqb h d

-- the holder, as a place
abbrev pub holder_place : Option ℕ → ℕ
holder_place p = unwrap_or p 0

-- a desk or none, as a set
abbrev pub party_set : Option ℕ → ℕ
party_set None = 0
party_set (Some d) = only d

abbrev pub is_open : Option Call → Bool
is_open k = is_some k

abbrev pub is_present : Option Arrival → Bool
is_present a = is_some a
