-- What an entry asks for, and the numbers of refusals.
use Rattle.std.specs.Prelude.{ℕ, Result, Ok, Err}
use Rattle.set_state.specs.declared.state.Refusal.{Refusal}
use Rattle.set_state.specs.declared.state.Refusal.TheVariants.{Length, Version, Payload, NoPlan, AlreadyPlanned, BadPlan, UnknownDesk, Header, Identifier, Body, Phase, NotEntitled, WrongNumber, NotHolder, Again, NoRoom, CannotRing}
use Rattle.set_state.specs.declared.state.Entry.{Entry}
use Rattle.set_state.specs.declared.state.Entry.TheVariants.{Telegram, Press, Cut, MobileOn, MobileOff, Tick, Plan, Handover, MobileCall, MobileCancel}

-- 01, Refusal numbers, and 02 §1's 17
abbrev pub number_of : Refusal → ℕ
number_of Length = 1
number_of Version = 2
number_of Payload = 3
number_of NoPlan = 4
number_of AlreadyPlanned = 5
number_of BadPlan = 6
number_of UnknownDesk = 7
number_of Header = 8
number_of Identifier = 9
number_of Body = 10
number_of Phase = 11
number_of NotEntitled = 12
number_of WrongNumber = 13
number_of NotHolder = 14
number_of Again = 15
number_of NoRoom = 16
number_of CannotRing = 17

-- the number of a result: "0 if accepted"
abbrev pub refusal_in : {A : Type 0} → Result A Refusal → ℕ
refusal_in (Ok a) = 0
refusal_in (Err r) = number_of r

-- the same result with the refusal's number
abbrev pub numbered : {A : Type 0} → Result A Refusal → Result A ℕ
numbered (Ok a) = Ok a
numbered (Err r) = Err (number_of r)

-- "the byte count written": none by a refusal
abbrev pub count_in : Result ℕ Refusal → ℕ
count_in (Ok n) = n
count_in (Err r) = 0

-- the desk that an entry comes from, and the channel that it names; 0 where there is none
abbrev pub desk_from : Entry → ℕ
desk_from (Telegram d) = d
desk_from (Press d ch on) = d
desk_from (Cut d ch) = d
desk_from _ = 0

abbrev pub channel_from : Entry → ℕ
channel_from (Press d ch on) = ch
channel_from (Cut d ch) = ch
channel_from (MobileOn ch b n) = ch
channel_from (MobileOff ch) = ch
channel_from (MobileCall ch b n m) = ch
channel_from (MobileCancel ch) = ch
channel_from _ = 0
