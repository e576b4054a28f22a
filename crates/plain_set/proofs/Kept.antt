-- The promise of `specs/Promises.antt`, kept: the one module of these proofs that other crates cite.
-- Assumes nothing.
use mathlib.Core.Bool.{Bool, true, false}
use mathlib.Core.Path.{◌≡◌, refl}
use lib.Dec.{eqb}
use Rattle.std.specs.Prelude.{ℕ, Option, None, Some}
use Rattle.channel.specs.declared.state.Call.{Call}
use Rattle.channel.specs.declared.state.Arrival.{Arrival}
use Rattle.channel.specs.declared.state.Channel.{Channel}
use Rattle.set_state.specs.declared.state.Desk.{Desk}
use Rattle.plain_set.specs.Plain.{party_in, call_in, arrival_in, channel_in, desk_in, flag_of, party_of, call_of, arrival_of, channel_of, desk_of}
use Rattle.plain_set.specs.Promises.{Returns}
use Rattle.plain_set.proofs.Maps.{map_back}

flag-back : (b : Bool) → eqb (flag_of b) 1 ≡ b
flag-back true = refl
flag-back false = refl

party_back : (p : Option ℕ) → party_in (party_of p) ≡ p
party_back None = refl
party_back (Some d) = refl

call_back : (c : Option Call) → call_in (call_of c) ≡ c
call_back None = refl
call_back (Some k) = refl

arrival-back : (a : Option Arrival) → arrival_in (arrival_of a) ≡ a
arrival-back None = refl
arrival-back (Some a) = refl

channel-back : (c : Channel) → channel_in (channel_of c) ≡ c
channel-back c = simp (party_back c.holder, party_back c.presser, call_back c.call, arrival-back c.arrival) refl

desk_back : (d : Desk) → desk_in (desk_of d) ≡ d
desk_back d = refl

pub returns : Returns
returns layout s = simp (map_back channel_of channel_in channel-back s.channels, map_back desk_of desk_in desk_back s.desks, flag-back s.planned) refl
