-- No refusal has the number of what is accepted.
-- Assumes nothing.
use native.Mathlib.Omega.{arith}
use Rattle.set_state.specs.declared.state.Refusal.TheVariants.{Length, Version, Payload, NoPlan, AlreadyPlanned, BadPlan, UnknownDesk, Header, Identifier, Body, Phase, NotEntitled, WrongNumber, NotHolder, Again, NoRoom, CannotRing}
use Rattle.set_state.specs.Promises.{NumberedFromOne}

pub numbered_from_one : NumberedFromOne
numbered_from_one Length z = omega arith
numbered_from_one Version z = omega arith
numbered_from_one Payload z = omega arith
numbered_from_one NoPlan z = omega arith
numbered_from_one AlreadyPlanned z = omega arith
numbered_from_one BadPlan z = omega arith
numbered_from_one UnknownDesk z = omega arith
numbered_from_one Header z = omega arith
numbered_from_one Identifier z = omega arith
numbered_from_one Body z = omega arith
numbered_from_one Phase z = omega arith
numbered_from_one NotEntitled z = omega arith
numbered_from_one WrongNumber z = omega arith
numbered_from_one NotHolder z = omega arith
numbered_from_one Again z = omega arith
numbered_from_one NoRoom z = omega arith
numbered_from_one CannotRing z = omega arith
