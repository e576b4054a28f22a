-- `channel::queries::first_desks` meets its contract: a shift is a power of two.
-- Assumes nothing.
use mathlib.Core.Path.{refl}
use borrow.Author.Tests.{le-ltb}
use Rattle.channel.proofs.Sets.{some-bit, first_bits}
use Rattle.channel.proofs.queries.first_desks.Goals as goal

pub overflow_sub-result : goal.overflow_sub-result
overflow_sub-result c = some-bit _ c.if-n-lt8.true

pub returns-then-n-lt8 : goal.returns-then-n-lt8
returns-then-n-lt8 c = first_bits _ c.if-n-lt8.true

pub returns-else-n-lt8 : goal.returns-else-n-lt8
returns-else-n-lt8 c = simp (le-ltb _ _ c.if-n-lt8.false) refl
