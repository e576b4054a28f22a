-- `line_set::places::count_of` meets its contract.
-- Assumes nothing.
use mathlib.Core.Path.{refl}
use native.Mathlib.Omega.{arith}
use borrow.Author.Tests.{lt-ltb, le-ltb}
use Rattle.line_set.proofs.places.count_of.Goals as goal

pub returns-then-n-gt32 : goal.returns-then-n-gt32
returns-then-n-gt32 c = (rw (lt-ltb _ _ c.if-n-gt32.true) refl, omega arith)

pub returns-else-n-gt32 : goal.returns-else-n-gt32
returns-else-n-gt32 c = (rw (le-ltb _ _ c.if-n-gt32.false) refl, omega arith)
