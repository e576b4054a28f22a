-- `streams::failure::say` meets its contract: what it says of a read is not what it says of a write.
-- Assumes nothing.
use Rattle.text.specs.Ascii.{ascii}
use Rattle.streams.proofs.failure.say.Goals as goal

pub returns-in-Unreadable-clause-said : goal.returns-in-Unreadable-clause-said
unfolding ascii
returns-in-Unreadable-clause-said g c = rw c.in-Unreadable.is c.say_what.ensures.said

pub returns-in-Unwritable-clause-said : goal.returns-in-Unwritable-clause-said
unfolding ascii
returns-in-Unwritable-clause-said g c = rw c.in-Unwritable.is c.say_what-in-Unwritable.ensures.said
