-- `entries::entry::read_line` meets its contract: the size is tested, and the payload is a channel.
-- Assumes nothing.
use mathlib.Core.Path.{refl}
use borrow.Author.Tests.{eq-eqb, ne_eqb}
use Rattle.entries.specs.Payloads.{line_in}
use Rattle.entries.proofs.entry.read_line.Goals as goal

pub returns-then-entry-ne5 : goal.returns-then-entry-ne5
unfolding line_in
returns-then-entry-ne5 c = simp (ne_eqb _ _ c.if-entry-ne5.true) refl

pub returns : goal.returns
unfolding line_in
returns c = simp (eq-eqb _ _ c.if-entry-ne5.false) refl
