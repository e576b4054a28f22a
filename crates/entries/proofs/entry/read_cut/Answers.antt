-- `entries::entry::read_cut` meets its contract: the size is tested, and the payload is a desk and a channel.
-- Assumes nothing.
use mathlib.Core.Path.{refl}
use borrow.Author.Tests.{eq-eqb, ne_eqb}
use Rattle.laws.specs.Table.{pick}
use Rattle.set_rules.specs.Entries.{entry_on, entry_base}
use Rattle.entries.specs.Payloads.{payload_in}
use Rattle.entries.proofs.entry.read_cut.Goals as goal

pub returns-then-entry-ne6 : goal.returns-then-entry-ne6
unfolding pick payload_in entry_on entry_base
returns-then-entry-ne6 c = simp (ne_eqb _ _ c.if-entry-ne6.true) refl

pub returns : goal.returns
unfolding pick payload_in entry_on entry_base
returns c = simp (eq-eqb _ _ c.if-entry-ne6.false) refl
