-- `channel::queries::is_in` meets its contract: the bit of the desk, and none from place 8 on.
-- Assumes nothing.
use mathlib.Core.Path.{sym}
use Prim.Native.Nat.{◌<◌}
use native.Mathlib.Omega.{arith}
use Rattle.channel.proofs.Sets.{in_bit, none_above}
use Rattle.channel.proofs.queries.is_in.Goals as goal

pub returns-then-there : goal.returns-then-there
returns-then-there c = sym (in_bit _ _)

pub returns-else-there : goal.returns-else-there
returns-else-there c = let b : c.args.m < 256 = omega arith in sym (none_above 8 _ _ c.if-there.false b)
