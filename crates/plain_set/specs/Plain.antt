-- A set as the numbers that a caller's memory holds: which set they are, and which numbers a set is kept as.
use Rattle.std.specs.Prelude.{ℕ, List, map, Bool, cond, eqb, replicate, Option, None, Some}
use Rattle.telegram.specs.Telegram.{num}
use Rattle.channel.specs.declared.state.Call.{Call}
use Rattle.channel.specs.declared.state.Arrival.{Arrival}
use Rattle.channel.specs.declared.state.Channel.{Channel}
use Rattle.set_state.specs.declared.state.Desk.{Desk}
use Rattle.set_state.specs.declared.state.LineSet.{LineSet}
use Rattle.plain_set.specs.declared.plain.PlainParty.{PlainParty}
use Rattle.plain_set.specs.declared.plain.PlainCall.{PlainCall}
use Rattle.plain_set.specs.declared.plain.PlainArrival.{PlainArrival}
use Rattle.plain_set.specs.declared.plain.PlainChannel.{PlainChannel}
use Rattle.plain_set.specs.declared.plain.PlainDesk.{PlainDesk}
use Rattle.plain_set.specs.declared.plain.PlainSet.{PlainSet}

-- ---- the set that the numbers are, however they begin

abbrev pub party_in : PlainParty → Option ℕ
party_in p = cond (eqb p.held 1) (Some p.desk) None

abbrev pub call_in : PlainCall → Option Call
call_in p =
    cond (eqb p.opened 1) (Some (record { kind = p.kind; direction = p.direction; recipients = p.recipients; base = p.base; source = num p.source })) None

abbrev pub arrival_in : PlainArrival → Option Arrival
arrival_in p =
    cond (eqb p.present 1) (Some (record { kind = p.kind; recipients = p.recipients; base = p.base; number = num p.number })) None

abbrev pub channel_in : PlainChannel → Channel
channel_in p =
    record { code = p.code; entitled = p.entitled; holder = party_in p.holder; presser = party_in p.presser; quiet = p.quiet; release = p.release; ring = p.ring; call = call_in p.call; arrival = arrival_in p.arrival }

abbrev pub desk_in : PlainDesk → Desk
desk_in p = record { code = p.code; number = num p.number; link = record { phase = p.phase } }

abbrev pub set_in : PlainSet → LineSet
set_in p =
    record { channels = map channel_in p.channels; desks = map desk_in p.desks; size = record { desks = p.size.desks; channels = p.size.channels }; planned = eqb p.planned 1 }

-- ---- the numbers that a set is kept as

abbrev pub flag_of : Bool → ℕ
flag_of b = cond b 1 0

abbrev pub party_of : Option ℕ → PlainParty
party_of None = record { held = 0; desk = 0 }
party_of (Some d) = record { held = 1; desk = d }

abbrev pub call_of : Option Call → PlainCall
call_of None = record { source = 0; base = 0; opened = 0; kind = 0; direction = 0; recipients = 0; spare = 0 }
call_of (Some k) =
    record { source = k.source.digits; base = k.base; opened = 1; kind = k.kind; direction = k.direction; recipients = k.recipients; spare = 0 }

abbrev pub arrival_of : Option Arrival → PlainArrival
arrival_of None = record { number = 0; base = 0; spare = 0; present = 0; kind = 0; recipients = 0; tail = replicate 3 0 }
arrival_of (Some a) =
    record { number = a.number.digits; base = a.base; spare = 0; present = 1; kind = a.kind; recipients = a.recipients; tail = replicate 3 0 }

abbrev pub channel_of : Channel → PlainChannel
channel_of c =
    record { call = call_of c.call; arrival = arrival_of c.arrival; holder = party_of c.holder; presser = party_of c.presser; code = c.code; entitled = c.entitled; quiet = c.quiet; release = c.release; ring = c.ring; spare = replicate 3 0 }

abbrev pub desk_of : Desk → PlainDesk
desk_of d = record { code = d.code; number = d.number.digits; phase = d.link.phase }

abbrev pub plain_of : List ℕ → LineSet → PlainSet
plain_of layout s =
    record { layout = layout; channels = map channel_of s.channels; desks = map desk_of s.desks; size = record { desks = s.size.desks; channels = s.size.channels }; planned = flag_of s.planned; spare = 0 }
