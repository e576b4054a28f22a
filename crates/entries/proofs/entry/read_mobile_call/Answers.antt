-- `entries::entry::read_mobile_call` meets its contract: the size, then the base, are tested, and there are two numbers.
-- Assumes nothing.
use mathlib.Core.Path.{refl, sym, ◌∙◌}
use borrow.Author.Tests.{eq-eqb, ne_eqb}
use Rattle.laws.specs.Table.{pick}
use Rattle.set_rules.specs.Entries.{entry_on, entry_base}
use Rattle.entries.specs.Payloads.{payload_in}
use Rattle.entries.proofs.entry.read_mobile_call.Goals as goal

pub returns-then-other : goal.returns-then-other
unfolding pick payload_in entry_on entry_base
returns-then-other c = simp (ne_eqb _ _ c.if-other.true) refl

pub returns-then-not-is_base : goal.returns-then-not-is_base
unfolding pick payload_in entry_on entry_base
returns-then-not-is_base c = simp (eq-eqb _ _ c.if-other.false, sym c.is_base.ensures ∙ c.if-not-is_base.true) refl

pub returns : goal.returns
unfolding pick payload_in entry_on entry_base
returns c = simp (eq-eqb _ _ c.if-other.false, sym c.is_base.ensures ∙ c.if-not-is_base.false, c.read_digits-number.ensures, c.read_digits-called.ensures)
