-- An event on the channel at a place of a set.
-- Assumes nothing.
use Prim.Native.Nat.{ℕ}
use mathlib.Core.Bool.{true}
use mathlib.Core.Path.{◌≡◌, refl, ap₂}
use lib.ListN.{set}
use Rattle.channel.specs.declared.state.Channel.{Channel}
use Rattle.channel.specs.declared.state.Event.{Event}
use Rattle.line_rules.specs.Rules.{Step}
use Rattle.set_state.specs.State.{with_channels}
use Rattle.set_rules.specs.Records.{delivered}
use Rattle.set_rules.specs.SetRules.{Effect, effect, moved_in, on_channel}
use Rattle.set_state.specs.declared.state.LineSet.{LineSet}
use Rattle.changes.specs.Changes.{Stands}

-- ---- an event on the channel at a place

abbrev pub moved_at : LineSet → ℕ → Event → Channel → Effect
moved_at s place v c =
    let m : Step = moved_in s.desks s.size.desks v c in
    effect s (with_channels (set s.channels place m.next) s) (delivered s.desks c.code m.sends)

-- it is the event on the channel with a code, if that one stands there
pub moved_at_lem : (s : LineSet) (ch place : ℕ) (v : Event) (c : Channel) → Stands s ch place true c → moved_at s place v c ≡ on_channel s ch v
unfolding on_channel
moved_at_lem s ch place v c w = ap₂ (λ (i : ℕ) (x : Channel). moved_at s i v x) (w.place_is refl) (w.channel-is refl)
