-- `requests::request::ring_of` meets its contract: the called number is sought among the desks.
-- Assumes nothing.
use Prim.Native.Nat.{ℕ}
use mathlib.Core.Path.{ap, ap₂, ◌∙◌}
use lib.ListN.{take}
use Rattle.channel.specs.declared.state.Event.TheVariants.{Ring}
use Rattle.telegram.specs.declared.message.Number.{Number}
use Rattle.set_state.specs.State.{desk_place}
use Rattle.requests.proofs.request.ring_of.Goals as goal

pub returns : goal.returns
returns c =
    let a = c.args in
    let place = c.desk_place-place.ensures ∙ ap (λ (k : Number). desk_place k.digits (take a.n a.desks)) c.number_in-called.ensures in
    ap₂ (λ (d : ℕ) (k : Number). Ring d a.base k) place c.number_in-number.ensures
