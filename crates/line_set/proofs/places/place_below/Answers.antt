-- `line_set::places::place_below` meets its contract, case by case.
-- Assumes nothing.
use mathlib.Core.Path.{refl}
use native.Mathlib.Omega.{arith}
use borrow.Author.Tests.{lt-ltb, le-ltb}
use Rattle.line_set.proofs.places.place_below.Goals as goal

pub returns-then-place-end : goal.returns-then-place-end
returns-then-place-end c = (rw (lt-ltb _ _ c.if-place-end.true) refl, omega arith)

pub returns-else-place-end : goal.returns-else-place-end
returns-else-place-end c = (rw (le-ltb _ _ c.if-place-end.false) refl, omega arith)
