-- `bodies::measure::space_to` meets its contract.
-- Assumes nothing.
use mathlib.Core.Path.{◌∙◌, sym, ap}
use native.Mathlib.Nat.{add-zero}
use Rattle.set_state.specs.State.{own_of}
use Rattle.set_rules.specs.Records.{space_of}
use Rattle.bodies.specs.Bodies.{size_in}
use Rattle.bodies.proofs.BodyLaws.{body-size}
use Rattle.bodies.proofs.measure.space_to.Goals as goal

pub returns : goal.returns
unfolding space_of
returns c =
    let e = c.size_in.ensures ∙ ap size_in c.shape_of.ensures in
    let body = c.args.body in
    (λ ds. c.space_of.ensures.0 ∙ rw (e, (body-size body 0 (own_of ds 0)).0) (sym (add-zero _)), c.space_of.ensures.1)
