-- What other crates cite of records, answers, entries and plans, beside the promises: laws, each under the name given with it in
-- `proofs/Kept.antt`. They are proved, and no rule rests on them.
use Rattle.std.specs.Prelude.{ℕ, zero, suc, ◌+◌, ◌/◌, ◌%◌, ◌<◌, List, ◌++◌, ◌≡◌, eqb, length, Ok, Err}
use Rattle.laws.specs.Each.{Each}
use Rattle.telegram.specs.Telegram.{over}
use Rattle.channel.specs.State.{is_in}
use Rattle.channel.specs.declared.state.Channel.{Channel}
use Rattle.channel.specs.declared.state.Send.{Send}
use Rattle.line_rules.specs.Notices.{Content}
use Rattle.set_rules.specs.Entries.{ReadEntry, entry_kind, payload}
use Rattle.set_rules.specs.Plan.{desks_in, channels_in}
use Rattle.set_rules.specs.Records.{Delivery, delivered, record_for, record_size, records_of, space_of}
use Rattle.set_rules.specs.SetRules.{Effect, sends_of}
use Rattle.set_rules.specs.Feeds.{Outcome, answer_of, Gives, refuse, emit}
use Rattle.set_state.specs.Entry.{number_of}
use Rattle.set_state.specs.declared.state.Answer.{Answer}
use Rattle.set_state.specs.declared.state.Refusal.{Refusal}
use Rattle.set_state.specs.declared.state.Refusal.TheVariants.{Payload}
use Rattle.set_state.specs.declared.state.Desk.{Desk}
use Rattle.set_state.specs.declared.state.LineSet.{LineSet}

-- ---- how long records are

-- what a delivery says takes the same space to each desk
abbrev pub EvenSized : Delivery → Type 0
EvenSized v = (d : ℕ) → record_size (v.content d) ≡ record_size (v.content 0)

abbrev pub AllEven : List Delivery → Type 0
AllEven = Each EvenSized

-- A record is as long as its size says (`record_length`), and records as the space that is summed for them (`space-length`).
abbrev pub RecordIsLong : Type 0
RecordIsLong = (ds : List Desk) (d : ℕ) (x : Content) → length (record_for ds d x) ≡ record_size x

abbrev pub SpaceIsLength : Type 0
SpaceIsLength = (ds : List Desk) (vs : List Delivery) → AllEven vs → space_of vs ≡ length (records_of ds vs)

-- What is sent in turn takes the space of both (`space-append`).
abbrev pub SpaceInTurn : Type 0
SpaceInTurn = (vs ws : List Delivery) → space_of (vs ++ ws) ≡ space_of vs + space_of ws

-- What one channel sends takes the same space to each desk (`even_sends`), and so does what all send (`even_all`).
abbrev pub EvenSends : Type 0
EvenSends = (ds : List Desk) (ch : ℕ) (ss : List Send) → AllEven (delivered ds ch ss)

abbrev pub EvenAll : Type 0
EvenAll = (ds : List Desk) (f : Channel → List Send) (cs : List Channel) → AllEven (sends_of ds f cs)

-- ---- the desks of a mask, one after another

-- a mask without its lowest d bits
unfoldable pub without_lowest : ℕ → ℕ → ℕ
without_lowest zero m = m
without_lowest (suc d) m = without_lowest d (m / 2)

-- One bit more is a half (`halves_half`), and a desk is in the mask if the lowest bit left is 1 (`in_halves`).
abbrev pub OneMoreHalf : Type 0
OneMoreHalf = (d m : ℕ) → without_lowest (suc d) m ≡ without_lowest d m / 2

abbrev pub LowestBit : Type 0
LowestBit = (d m : ℕ) → is_in d m ≡ eqb (without_lowest d m % 2) 1

-- ---- answers and buffers

-- Equal outcomes give the same, whichever they are (`Gives-as`).
abbrev pub GivesAlike : Outcome → Outcome → Answer → List ℕ → List ℕ → Type 0
GivesAlike o o' r b a = o ≡ o' → Gives o r b a → Gives o' r b a

-- A refusal leaves set and buffer, whatever its number (`refusal_leaves`), so the answer too (`left_as_was`), and what there is no room
-- for is refused (`no_room`).
abbrev pub RefusalLeaves : Type 0
RefusalLeaves = (s : LineSet) (n : ℕ) (b : List ℕ) → (answer_of (refuse n s) ≡ record { set = s; count = 0; refusal = n }) × (b ≡ over (refuse n s).bytes b)

abbrev pub LeftAsWas : Type 0
LeftAsWas = (s : LineSet) (n : Refusal) (b : List ℕ) → Gives (refuse (number_of n) s) (record { set = s; reply = Err n }) b b

abbrev pub NoRoom : LineSet → List ℕ → Effect → Answer → Type 0
NoRoom s b f r = length b < space_of f.sent → Gives (refuse 16 s) r b b → Gives (emit s f (length b)) r b b

-- the answer to what is not refused
abbrev pub accepted_with : LineSet → ℕ → Answer
accepted_with t n = record { set = t; reply = Ok n }

-- ---- entries

-- What a payload asks for is of its kind; what is no kind is refused with 3 (`payload_of_kind`).
abbrev pub OfKind : ℕ → ReadEntry → Type 0
OfKind k (Ok x) = entry_kind (Ok x) ≡ k
OfKind k (Err r) = r ≡ Payload

abbrev pub PayloadOfKind : Type 0
PayloadOfKind = (k : ℕ) (e : List ℕ) → OfKind k (payload k e)

-- ---- plans

-- A plan has as many desks, and as many channels, as it says (`length-desks`, `length-channels`).
abbrev pub DesksAsSaid : Type 0
DesksAsSaid = (n : ℕ) (b : List ℕ) → length (desks_in n b) ≡ n

abbrev pub ChannelsAsSaid : Type 0
ChannelsAsSaid = (n : ℕ) (b : List ℕ) → length (channels_in n b) ≡ n
