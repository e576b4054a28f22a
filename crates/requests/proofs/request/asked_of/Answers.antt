-- `requests::request::asked_of` meets its contract: what was refused as it was read stays so.
-- Assumes nothing.
use mathlib.Core.Path.{refl}
use borrow.Author.Tests.{ne_eqb}
use Rattle.set_state.proofs.Kept.{numbered_from_one}
use Rattle.requests.specs.Asking.{asked_of}
use Rattle.requests.proofs.request.asked_of.Goals as goal

pub returns-in-Ok : goal.returns-in-Ok
returns-in-Ok c = λ found d k. rw c.in-Ok.is (c.asked_of_entry.ensures found d (rw c.in-Ok.is at k))

pub returns-in-Err : goal.returns-in-Err
unfolding asked_of
returns-in-Err c = λ found d k. rw (c.in-Err.is, ne_eqb _ 0 (numbered_from_one c.in-Err.refusal)) refl
