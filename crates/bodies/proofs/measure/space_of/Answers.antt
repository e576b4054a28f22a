-- `bodies::measure::space_of` meets its contract: eight bits have at most eight ones.
-- Assumes nothing.
use Prim.Native.Nat.{ℕ, ◌*◌, ◌^◌, ◌<◌}
use mathlib.Core.Path.{ap, sym}
use native.Mathlib.Nat.{mul-le-mul}
use lib.Count.{ones-le}
use Rattle.bodies.proofs.BodyLaws.{ones_in_lem}
use borrow.Author.Rules.{rules}
use Rattle.bodies.proofs.measure.space_of.Goals as goal

pub returns : goal.returns
returns c =
    let h : c.args.recipients < 2 ^ 8 = search rules in
    (ap (λ (n : ℕ). n * c.args.size) (sym (ones_in_lem 8 _ h)), mul-le-mul (ones-le 8 _ h) c.requires)
