-- `plain_set::convert::channels_of` meets its contract: a channel a turn.
-- Assumes nothing.
use borrow.Author.Rules.{rules}
use Rattle.plain_set.proofs.Maps.{map-start, map_next, map-done}
use Rattle.plain_set.proofs.convert.channels_of.Goals as goal

pub loop-i-init : goal.loop-i-init
loop-i-init c = map-start (search rules) (search rules)

pub loop-i-preserved : goal.loop-i-preserved
loop-i-preserved c = map_next c.loop-i.invariant c.loop-i-test.true _ c.channel_of.ensures

pub returns : goal.returns
returns c = map-done c.loop-i.invariant c.loop-i-test.false
