-- `line_set::all::space_in` meets its contract: sends to nobody take no space.
-- Assumes nothing.
use mathlib.Core.Path.{◌∙◌}
use Rattle.changes.proofs.Kept.{same-space}
use Rattle.line_set.proofs.all.space_in.Goals as goal

pub returns : goal.returns
returns c =
    let a = c.args in
    (c.space.ensures.0 a.desks a.c.code ∙ same-space a.desks a.c.code _ _ c.moved-m.ensures.1, c.space.ensures.1)
