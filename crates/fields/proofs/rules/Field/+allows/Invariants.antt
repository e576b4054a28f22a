-- The measure of `fields::rules::Field::allows`: a numbered field goes by a named one.
-- Assumes nothing.
use mathlib.Core.Bool.{cond}
use Rattle.fields.specs.Held.{is_named}
use Rattle.fields.proofs.rules.Field.+allows.Given as goal

abbrev pub decreases-allows : goal.decreases-allows
decreases-allows l = cond (is_named l.self) 0 1
