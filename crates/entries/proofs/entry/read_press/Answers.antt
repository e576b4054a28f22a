-- `entries::entry::read_press` meets its contract: the size, then on, are tested.
-- Assumes nothing.
use mathlib.Core.Path.{refl}
use borrow.Author.Tests.{eq-eqb, ne_eqb, le-leb, lt-leb}
use Rattle.laws.specs.Table.{pick}
use Rattle.set_rules.specs.Entries.{entry_on, entry_base}
use Rattle.entries.specs.Payloads.{payload_in}
use Rattle.entries.proofs.entry.read_press.Goals as goal

pub returns-then-entry-ne7 : goal.returns-then-entry-ne7
unfolding pick payload_in entry_on entry_base
returns-then-entry-ne7 c = simp (ne_eqb _ _ c.if-entry-ne7.true) refl

pub returns-then-unknown : goal.returns-then-unknown
unfolding pick payload_in entry_on entry_base
returns-then-unknown c = simp (eq-eqb _ _ c.if-entry-ne7.false, lt-leb _ _ c.if-unknown.true) refl

pub returns : goal.returns
unfolding pick payload_in entry_on entry_base
returns c = simp (eq-eqb _ _ c.if-entry-ne7.false, le-leb _ _ c.if-unknown.false) refl
