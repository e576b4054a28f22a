-- `set_state::desks::desk_at` meets its contract: past the last place there is a filler.
-- Assumes nothing.
use mathlib.Core.Path.{◌≡◌, sym, ◌∙◌}
use native.Mathlib.Omega.{arith}
use lib.ListN.{length, get_or-eq_default}
use Rattle.laws.proofs.Lists.{any_default}
use Rattle.set_state.specs.State.{no_desk}
use borrow.Author.Rules.{rules}
use Rattle.set_state.proofs.desks.desk_at.Goals as goal

pub returns-then-there : goal.returns-then-there
returns-then-there c =
    let n : length c.args.desks ≡ 4 = search rules in
    any_default c.args.desks _ _ no_desk (omega (arith, n, c.if-there.true))

pub returns : goal.returns
returns c =
    let n : length c.args.desks ≡ 4 = search rules in
    c.none.ensures ∙ sym (get_or-eq_default c.args.desks no_desk (omega (arith, n, c.if-there.false)))
