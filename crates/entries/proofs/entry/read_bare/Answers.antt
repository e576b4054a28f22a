-- `entries::entry::read_bare` meets its contract: the size is tested, and there is no payload.
-- Assumes nothing.
use mathlib.Core.Path.{refl}
use borrow.Author.Tests.{eq-eqb, ne_eqb}
use Rattle.laws.specs.Table.{pick}
use Rattle.entries.specs.Payloads.{bare_in}
use Rattle.entries.proofs.entry.read_bare.Goals as goal

pub returns-then-entry-ne4 : goal.returns-then-entry-ne4
unfolding pick bare_in
returns-then-entry-ne4 c = simp (ne_eqb _ _ c.if-entry-ne4.true) refl

pub returns : goal.returns
unfolding pick bare_in
returns c = simp (eq-eqb _ _ c.if-entry-ne4.false) refl
