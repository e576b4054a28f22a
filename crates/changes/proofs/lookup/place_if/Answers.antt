-- `changes::lookup::place_if` meets its contract, test by test.
-- Assumes nothing.
use mathlib.Core.Path.{refl}
use native.Mathlib.Omega.{arith}
use borrow.Author.Tests.{eq-eqb, ne_eqb}
use Rattle.changes.proofs.lookup.place_if.Goals as goal

pub returns-then-not-listens : goal.returns-then-not-listens
returns-then-not-listens c = record { value = rw (c.if-not-listens.true) refl; upper_bound = omega arith }

pub returns-then-desk-eq3 : goal.returns-then-desk-eq3
returns-then-desk-eq3 c = record { value = rw (c.if-not-listens.false, eq-eqb _ _ c.if-desk-eq3.true) refl; upper_bound = omega arith }

pub returns-else-desk-eq3 : goal.returns-else-desk-eq3
returns-else-desk-eq3 c = record { value = rw (c.if-not-listens.false, ne_eqb _ _ c.if-desk-eq3.false) refl; upper_bound = omega arith }
