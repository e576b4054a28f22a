-- What the reader of plans answers, part by part.
use Rattle.std.specs.Prelude.{ℕ, ◌+◌, ◌*◌, List, Bool, ◌&&◌, cond, eqb, length, take, drop, Option, Some, None}
use Rattle.numerals.specs.Digits.{value_of}
use Rattle.fields.specs.Fields.{between}
use Rattle.telegram.specs.Telegram.{num}
use Rattle.set_state.specs.State.{new_link, no_desk, no_channel}
use Rattle.frames.specs.Bytes.{word}
use Rattle.set_rules.specs.Plan.{desk_ok, desks_ok, desks_in, channels_ok, channels_in, desk_count, channel_count, plan_ok, filled, set_of}
use Rattle.set_state.specs.declared.state.Desk.{Desk}
use Rattle.set_state.specs.declared.state.LineSet.{LineSet}
use Rattle.set_state.specs.declared.state.Size.{Size}
use Rattle.channel.specs.declared.state.Channel.{Channel}

-- the counts, if they are in range and the plan is as long as they say
unfoldable pub counts_ok : List ℕ → Bool
counts_ok p =
    between 1 4 (desk_count p)
    && between 1 32 (channel_count p)
    && eqb (length p) (2 + 10 * desk_count p + 2 * channel_count p)

abbrev pub size_of : List ℕ → Size
size_of p = record { desks = desk_count p; channels = channel_count p }

abbrev pub counts_in : List ℕ → Option Size
counts_in p = cond (counts_ok p) (Some (size_of p)) None

-- the desk at the front
abbrev pub desk_of : List ℕ → Desk
desk_of b = record { code = word b 0; number = num (value_of (take 8 (drop 2 b))); link = new_link }

abbrev pub desk_in : List ℕ → Option Desk
desk_in b = cond (desk_ok b) (Some (desk_of b)) None

-- n desks
unfoldable pub desks_read : ℕ → List ℕ → Option (List Desk)
desks_read n b = cond (desks_ok n b) (Some (filled 4 no_desk (desks_in n b))) None

-- n channels of a plan with so many desks
unfoldable pub channels_read : ℕ → ℕ → List ℕ → Option (List Channel)
channels_read n desks b = cond (channels_ok n 0 desks b) (Some (filled 32 no_channel (channels_in n b))) None

-- the whole plan
unfoldable pub plan_of : List ℕ → Option LineSet
plan_of p = cond (plan_ok p) (Some (set_of p)) None
