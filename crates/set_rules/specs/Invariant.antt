-- What holds of a set in every state that a feed from a new set brings about.
use Rattle.std.specs.Prelude.{ℕ, ◌+◌, ◌-◌, ◌≤◌, ◌<◌, List, [], ◌∷◌, true, ◌≡◌, length, drop, get_or, replicate}
use Rattle.laws.specs.Each.{Each}
use Rattle.telegram.specs.declared.message.Number.{Number}
use Rattle.channel.specs.State.{is_in}
use Rattle.line_rules.specs.Invariant.{NumberOk, ChannelOk}
use Rattle.line_rules.specs.Among.{Around, Among}
use Rattle.channel.specs.declared.state.Channel.{Channel}
use Rattle.set_state.specs.State.{no_desk, no_channel, own_of, channels_of, is_running}
use Rattle.set_state.specs.declared.state.Desk.{Desk}
use Rattle.set_state.specs.declared.state.LineSet.{LineSet}

-- ---- numbers, codes and timers in range

pub record DeskOk (k : Desk) : Type 0 where
  pub code_ok : k.code ≤ 1023
  pub number_ok : NumberOk k.number

pub record SetOk (s : LineSet) : Type 0 where
  pub desks-ok : Each DeskOk s.desks
  pub channels-ok : Each ChannelOk s.channels

-- ---- the plan

-- every desk entitled to a channel is one of the first n
abbrev pub EntitledIn : ℕ → Channel → Type 0
EntitledIn n c = (d : ℕ) → is_in d c.entitled ≡ true → d < n

-- channel codes, each at least `low` and above the one before
abbrev pub Rising : ℕ → List Channel → Type 0
Rising low [] = Unit {0}
Rising low (c ∷ cs) = (low ≤ c.code) × Rising (c.code + 1) cs

-- the plan fits the arrays, and fillers are all that stands past it
pub record Shaped (s : LineSet) : Type 0 where
  pub four-desks : length s.desks ≡ 4
  pub desks-most : s.size.desks ≤ 4
  pub desks-past : drop s.size.desks s.desks ≡ replicate (4 - s.size.desks) no_desk
  pub channels-long : length s.channels ≡ 32
  pub channels-most : s.size.channels ≤ 32
  pub channels-past : drop s.size.channels s.channels ≡ replicate (32 - s.size.channels) no_channel
  pub entitled-planned : Each (EntitledIn s.size.desks) s.channels
  pub codes_rise : Rising 0 (channels_of s)

-- ---- who is told, and of which numbers

-- a running desk of the plan
abbrev pub Running : LineSet → ℕ → Type 0
Running s d = (d < s.size.desks) × (is_running (get_or s.desks d no_desk) ≡ true)

-- what a set has around its channels, M being a property of mobiles' numbers
abbrev pub around_of : LineSet → (Number → Type 0) → Around
around_of s M = record { running = Running s; own = own_of s.desks; mobile = M }

-- all channels among the desks
abbrev pub AllAmong : (Number → Type 0) → LineSet → Type 0
AllAmong M s = Each (Among (around_of s M)) s.channels
