-- How the code keeps what a rule sends: an array of seven sends in the rule's order, with a send to the empty set where the
-- rule sends nothing.
use Rattle.std.specs.Prelude.{ℕ, List, [], ◌∷◌, cond, ◌≡◌, eqb, Option}
use Rattle.line_rules.specs.Rules.{Step, to, kind_of}
use Rattle.channel.specs.declared.state.Arrival.{Arrival}
use Rattle.channel.specs.declared.state.Call.{Call}
use Rattle.channel.specs.declared.state.Moved.{Moved}
use Rattle.channel.specs.declared.state.Notice.TheVariants.{PressAnswer, Incoming, BaseArrival, PressNotice, CallerNotice}
use Rattle.channel.specs.declared.state.Send.{Send}
use Rattle.sends.specs.declared.sends.MobileSends.{MobileSends}
use Rattle.sends.specs.declared.sends.PressSends.{PressSends}

-- what is sent to someone
unfoldable pub heard : List Send → List Send
heard [] = []
heard (s ∷ ss) = cond (eqb s.recipients 0) (heard ss) (s ∷ heard ss)

-- the code gives the channel and the sends of a rule
abbrev pub Follows : Moved → Step → Type 0
Follows m st = (m.next ≡ st.next) × (heard m.sends ≡ heard st.sends)

-- what is sent to a desk that presses (`on` is 1) or no longer does
abbrev pub press_sends : ℕ → ℕ → Option Call → PressSends
press_sends on m k = record { answer = to m (PressAnswer on); talk = to m (PressNotice (kind_of k) on) }

-- what is sent when a mobile starts to talk (`on` is 1) or ends
abbrev pub mobile_sends : ℕ → Arrival → MobileSends
mobile_sends on a =
    record { incoming = to a.recipients (Incoming on); arrival = to a.recipients (BaseArrival a.kind a.base a.number on); talk = to a.recipients (CallerNotice a.kind a.base a.number on) }
