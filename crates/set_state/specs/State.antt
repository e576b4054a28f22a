-- The set: desks with their links, channels, and whether there is a plan.
use Rattle.std.specs.Prelude.{ℕ, suc, ◌+◌, List, [], ◌∷◌, Bool, false, ◌&&◌, cond, eqb, ltb, length, take, get_or, replicate, set}
use Rattle.telegram.specs.Telegram.{num}
use Rattle.telegram.specs.declared.message.Number.{Number}
use Rattle.channel.specs.State.{free_channel, only, is_in}
use Rattle.channel.specs.declared.state.Channel.{Channel}
use Rattle.set_state.specs.declared.state.Link.{Link}
use Rattle.set_state.specs.declared.state.Desk.{Desk}
use Rattle.set_state.specs.declared.state.LineSet.{LineSet}

-- "Each desk's link goes through three phases"
abbrev pub new_link : Link
new_link = record { phase = 1 }

-- "In phase 1 only 550411 is taken: .. phase 2"
abbrev pub time_told : Link → Link
time_told l = record { phase = 2 }

-- "In phase 2 only 550421: state 1 gives phase 3, state 0 leaves phase 2"
abbrev pub answered : ℕ → Link → Link
answered state l = cond (eqb state 1) (record { phase = 3 }) l

-- what fills the arrays past the plan
abbrev pub no_desk : Desk
no_desk = record { code = 0; number = num 0; link = new_link }

-- a desk's own number, by its place
abbrev pub own_of : List Desk → ℕ → Number
own_of ds d = (get_or ds d no_desk).number

abbrev pub no_channel : Channel
no_channel = free_channel 0 0

-- "a new one, without plan"
abbrev pub new_set : LineSet
new_set = record { channels = replicate 32 no_channel; desks = replicate 4 no_desk; size = record { desks = 0; channels = 0 }; planned = false }

-- ---- what the plan has

-- the channels of the plan
abbrev pub channels_of : LineSet → List Channel
channels_of s = take s.size.channels s.channels

-- the place of the first channel with this code; the number of channels, if there is none
unfoldable pub place_of : ℕ → List Channel → ℕ
place_of code [] = 0
place_of code (c ∷ cs) = cond (eqb c.code code) 0 (1 + place_of code cs)

-- "A channel goes by its code"
abbrev pub place_in : LineSet → ℕ → ℕ
place_in s code = place_of code (channels_of s)

abbrev pub has_channel : LineSet → ℕ → Bool
has_channel s code = ltb (place_in s code) (length (channels_of s))

abbrev pub channel_at : LineSet → ℕ → Channel
channel_at s code = get_or (channels_of s) (place_in s code) no_channel

-- phase 3 is running
abbrev pub is_running : Desk → Bool
is_running k = eqb k.link.phase 3

-- those of a list of desks, from place d on, that are running and in the mask
unfoldable pub running_from : ℕ → ℕ → List Desk → ℕ
running_from d m [] = 0
running_from d m (k ∷ ks) = cond (is_running k && is_in d m) (only d) 0 + running_from (suc d) m ks

-- "E is the set of running entitled desks", by the desks and how many of them the plan has
abbrev pub listeners_of : List Desk → ℕ → Channel → ℕ
listeners_of ds n c = running_from 0 c.entitled (take n ds)

-- the place of the desk with a number; the number of desks, if none has it
unfoldable pub desk_place : ℕ → List Desk → ℕ
desk_place number [] = 0
desk_place number (k ∷ ks) = cond (eqb k.number.digits number) 0 (1 + desk_place number ks)

-- ---- a set with one part changed

abbrev pub with_desks : List Desk → LineSet → LineSet
with_desks ds s = record { channels = s.channels; desks = ds; size = s.size; planned = s.planned }

abbrev pub with_channels : List Channel → LineSet → LineSet
with_channels cs s = record { channels = cs; desks = s.desks; size = s.size; planned = s.planned }

-- a desk with its link changed
abbrev pub linked : (Link → Link) → Desk → Desk
linked f k = record { code = k.code; number = k.number; link = f k.link }

abbrev pub linked_at : ℕ → (Link → Link) → List Desk → List Desk
linked_at d f ds = set ds d (linked f (get_or ds d no_desk))

abbrev pub with_link : ℕ → (Link → Link) → LineSet → LineSet
with_link d f s = with_desks (linked_at d f s.desks) s
