-- `entries::entry::read_telegram` meets its contract: the size is tested, and the payload starts with a desk.
-- Assumes nothing.
use mathlib.Core.Path.{refl}
use borrow.Author.Tests.{le-leb, lt-leb}
use Rattle.laws.specs.Table.{pick}
use Rattle.set_rules.specs.Entries.{entry_on, entry_base}
use Rattle.entries.specs.Payloads.{payload_in}
use Rattle.entries.proofs.entry.read_telegram.Goals as goal

pub returns-then-entry-lt5 : goal.returns-then-entry-lt5
unfolding pick payload_in entry_on entry_base
returns-then-entry-lt5 c = simp (lt-leb _ _ c.if-entry-lt5.true) refl

pub returns : goal.returns
unfolding pick payload_in entry_on entry_base
returns c = simp (le-leb _ _ c.if-entry-lt5.false) refl
