-- `entries::entry::read_mobile_on` meets its contract: the size, then the base, are tested.
-- Assumes nothing.
use mathlib.Core.Path.{refl, sym, ◌∙◌}
use borrow.Author.Tests.{eq-eqb, ne_eqb}
use Rattle.laws.specs.Table.{pick}
use Rattle.set_rules.specs.Entries.{entry_on, entry_base}
use Rattle.entries.specs.Payloads.{payload_in}
use Rattle.entries.proofs.entry.read_mobile_on.Goals as goal

pub returns-then-entry-ne14 : goal.returns-then-entry-ne14
unfolding pick payload_in entry_on entry_base
returns-then-entry-ne14 c = simp (ne_eqb _ _ c.if-entry-ne14.true) refl

pub returns-then-not-is_base : goal.returns-then-not-is_base
unfolding pick payload_in entry_on entry_base
returns-then-not-is_base c = simp (eq-eqb _ _ c.if-entry-ne14.false, sym c.is_base.ensures ∙ c.if-not-is_base.true) refl

pub returns : goal.returns
unfolding pick payload_in entry_on entry_base
returns c = simp (eq-eqb _ _ c.if-entry-ne14.false, sym c.is_base.ensures ∙ c.if-not-is_base.false, c.read_digits-number.ensures)
