-- `channel::queries::only` meets its contract: a shift is a power of two.
-- Assumes nothing.
use mathlib.Core.Path.{refl}
use borrow.Author.Tests.{le-ltb}
use Rattle.channel.proofs.Sets.{only-bit}
use Rattle.channel.proofs.queries.only.Goals as goal

pub returns-then-d-lt8 : goal.returns-then-d-lt8
returns-then-d-lt8 c = only-bit _ c.if-d-lt8.true

pub returns-else-d-lt8 : goal.returns-else-d-lt8
returns-else-d-lt8 c = simp (le-ltb _ _ c.if-d-lt8.false) refl
