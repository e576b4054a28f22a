-- What is promised of the set, as statements about the definitions. `proofs/` proves each under the name given with it. Two tables
-- stand beside them: the cases marked (p) in `Marked.antt`, and worked examples in `Examples.antt`.
use Rattle.std.specs.Prelude.{ℕ, ◌≤◌, ◌<◌, List, [], ◌∷◌, ◌++◌, Bool, true, false, cond, ◌⊎◌, ◌≡◌, length, take, drop, get_or, Option, None, Some}
use Rattle.laws.specs.Each.{Each}
use Rattle.laws.specs.Alike.{AlikeBut}
use Rattle.numerals.specs.Digits.{digits_of}
use Rattle.telegram.specs.Promises.{digits_at}
use Rattle.telegram.specs.Telegram.{read_telegram, over}
use Rattle.telegram.specs.declared.message.Number.{Number}
use Rattle.line_rules.specs.Rules.{is_pressed, is_ringing}
use Rattle.line_rules.specs.Notices.{telegram}
use Rattle.line_rules.specs.Invariant.{Idle}
use Rattle.line_rules.specs.Among.{numbers_in, ForDesk}
use Rattle.channel.specs.State.{is_in}
use Rattle.channel.specs.declared.state.Event.TheVariants.{Release}
use Rattle.set_state.specs.State.{new_set, no_desk, own_of, channels_of, channel_at, listeners_of}
use Rattle.frames.specs.Bytes.{byte}
use Rattle.set_rules.specs.Entries.{mobile_in, called_in, read_entry, telegram_in, entry_kind, entry_desk, entry_channel, entry_on, entry_number, entry_called, ReadEntry}
use Rattle.set_rules.specs.Refusals.{is_kind, is_caller, asked_in, named, number_in, called_place}
use Rattle.set_rules.specs.SetRules.{Effect, is_called, answers_in, accepted}
use Rattle.set_rules.specs.Invariant.{SetOk, Shaped, Running, around_of, AllAmong}
use Rattle.set_rules.specs.Feeds.{Outcome, Item, step_of, step_by, run, after, written_in, views}
use Rattle.set_rules.specs.Letters.{Letter, says, rings, unread, letters_in, letters_of, channel_named}
use Rattle.set_state.specs.Entry.{refusal_in}
use Rattle.set_state.specs.declared.state.LineSet.{LineSet}
use Rattle.set_state.specs.declared.state.Request.{Request}
use Rattle.set_state.specs.declared.state.Request.TheVariants.{OnChannel, Foreign}

-- 1. An answer with a refusal number other than 0 has count 0, the same set, and no byte written (`Answers.refused`).
abbrev pub Refused : Type 0
Refused =
    (s : LineSet) (e : List ℕ) (room : ℕ) → ((step_of s e room).refusal ≡ 0 → ⊥)
    → ((step_of s e room).count ≡ 0) × ((step_of s e room).after ≡ s) × ((step_of s e room).bytes ≡ [])

-- 2. The count is the length of the records written (`Answers.counted`).
abbrev pub Counted : Type 0
Counted = (s : LineSet) (e : List ℕ) (room : ℕ) → (step_of s e room).count ≡ length (step_of s e room).bytes

-- 3. After an entry a buffer is as long as it was, has the records written up to the count, and behind them the bytes that it had
-- (`Answers.written`).
abbrev pub Written : Type 0
Written =
    (s : LineSet) (i : Item)
    → let o : Outcome = step_by s i in
    (length (over o.bytes i.buffer) ≡ length i.buffer)
    × ((written_in i o ≡ o.bytes)
    × (drop o.count (over o.bytes i.buffer) ≡ drop o.count i.buffer))

-- ---- 4. Demand 3, its first part (`Isolation.isolated`)

-- "mobile ons, accepted or refused, alike but for the number", and mobile calls likewise. Of two that read, one number can be a
-- mobile's exactly when the other can: what is "not 8 digits or the none-number" is refused with 13, and the refusals are for B to see.
pub record Renumbered (kind : ℕ) (e e' : List ℕ) : Type 0 where
  pub kind-is : byte e 3 ≡ kind
  pub bytes : AlikeBut 6 8 e e'
  pub callers : refusal_in (read_entry e) ≡ 0 → is_caller (mobile_in e) ≡ is_caller (mobile_in e')

-- "a desk other than B holds"
abbrev pub OtherHolds : ℕ → Option ℕ → Type 0
OtherHolds B None = ⊥
OtherHolds B (Some d) = d ≡ B → ⊥

-- 02 §1: "where B is not called": the called number is not that of desk B
abbrev pub NotCalled : ℕ → LineSet → Option ℕ → Type 0
NotCalled B s called = B < s.size.desks → called ≡ Some (own_of s.desks B).digits → ⊥

-- 550419s of a desk other than B, alike but for the eight bytes of the source, digits in both or in neither: in a letter's place they
-- are refused with 10. This is wider than 02 §1, which speaks of "the well-formed number in the called desk's 550419": here the desk need
-- not be called, nor the telegram right.
pub record OtherSource (B : ℕ) (e e' : List ℕ) : Type 0 where
  pub kind-is : byte e 3 ≡ 1
  pub other : byte e 4 ≡ B → ⊥
  pub identifier : take 6 (drop 15 e) ≡ digits_of 6 550419
  pub bytes : AlikeBut 26 8 e e'
  pub digits : digits_at 26 8 e ≡ digits_at 26 8 e'

-- Two entries that may stand for each other before a set: the same bytes; mobile ons "whose channel a desk other than B holds"; mobile
-- calls of another desk; ring answers of another desk.
pub data MayDiffer (B : ℕ) (s : LineSet) (e e' : List ℕ) : Type 0 where
  same : e ≡ e' → MayDiffer B s e e'
  talks : Renumbered 4 e e' → OtherHolds B (channel_at s (byte e 4)).holder → MayDiffer B s e e'
  calls-other : Renumbered 9 e e' → NotCalled B s (called_in e) → MayDiffer B s e e'
  other-answers : OtherSource B e e' → MayDiffer B s e e'

-- what an entry asks, if it is a telegram
abbrev pub request_in : List ℕ → Request
request_in e = cond (is_kind 1 (read_entry e)) (asked_in (entry_desk (read_entry e)) (read_telegram (telegram_in e))) Foreign

-- "must match": whether an entry answers a ring
abbrev pub matches_in : LineSet → List ℕ → Bool
matches_in s e = answers_in s (entry_desk (read_entry e)) (request_in e)

-- "every 550419 of that desk": a ring answer, on its channel, of the desk that is called there
abbrev pub from_called : LineSet → List ℕ → Bool
from_called s e = named false (λ ch n. false) (λ m. is_called (entry_desk (read_entry e)) (channel_at s m.channel)) (request_in e)

-- Two entries, each before a set of its own. 02 §1: "every 550419 of that desk, differing or not, must match in one feed exactly when it
-- does in the other". It is asked of the called desk's alone, if that is not B: of B's own, and of those of a desk that is not called, it
-- is proved (`Isolation.own_agrees`).
pub record Alike (B : ℕ) (s s' : LineSet) (e e' : List ℕ) : Type 0 where
  pub may : MayDiffer B s e e'
  pub agree : (entry_desk (read_entry e) ≡ B → ⊥) → from_called s e ≡ true → matches_in s e ≡ matches_in s' e'

-- Two feeds, each from a set, that differ only so, with buffers as long as each other, "whatever that held". "Who holds is what the
-- line rules and refusals give for the entries before", in the first feed; who is called, likewise.
pub data Related (B : ℕ) : LineSet → LineSet → List Item → List Item → Type 0 where
  ended : {s s' : LineSet} → Related B s s' [] []
  more : {s s' : LineSet} {i i' : Item} {f f' : List Item} → Alike B s s' i.entry i'.entry → length i.buffer ≡ length i'.buffer
      → Related B (step_by s i).after (step_by s' i').after f f' → Related B s s' (i ∷ f) (i' ∷ f')

-- For any desk B and two feeds from a new set that differ only in numbers B may not learn, B gets the same records, refusals
-- and counts.
abbrev pub Isolated : Type 0
Isolated = (B : ℕ) (f f' : List Item) → Related B new_set new_set f f' → views B new_set f ≡ views B new_set f'

-- 5. An accepted handover leaves a new set (`Answers.made_new`).
abbrev pub HandoverMakesNew : Type 0
HandoverMakesNew = (s : LineSet) (h : Item) → entry_kind (read_entry h.entry) ≡ 8 → (step_by s h).refusal ≡ 0 → (step_by s h).after ≡ new_set

-- So after any feed that ends with one, whatever feed follows gets the same answers and the same bytes as from a new set
-- (`Answers.renewed`).
abbrev pub Renewed : Type 0
Renewed =
    (f g : List Item) (h : Item) → entry_kind (read_entry h.entry) ≡ 8 → (step_by (after new_set f) h).refusal ≡ 0
    → run (after new_set (f ++ (h ∷ []))) g ≡ run new_set g

-- ---- 6. In every state that a feed from a new set brings about:

-- numbers and codes are in range, timers run exactly when they should and are within their lengths (`Readable.always_ok`);
abbrev pub AlwaysOk : Type 0
AlwaysOk = (f : List Item) → SetOk (after new_set f)

-- the plan fits the arrays with fillers past it, entitled desks are in the plan, and channel codes rise strictly
-- (`Shape.always_shaped`);
abbrev pub AlwaysShaped : Type 0
AlwaysShaped = (f : List Item) → Shaped (after new_set f)

-- every holder and everyone told of a call or of a mobile is a running entitled desk of the plan (`Told.always_among`). M is any
-- property that every mobile's number of the feed has.
abbrev pub BringsNumber : ReadEntry → Type 0
BringsNumber x = (entry_kind x ≡ 4) ⊎ (entry_kind x ≡ 9)

abbrev pub Brings : (Number → Type 0) → Item → Type 0
Brings M i = BringsNumber (read_entry i.entry) → M (number_in (entry_number (read_entry i.entry)))

abbrev pub AlwaysAmong : Type 1
AlwaysAmong = (M : Number → Type 0) (f : List Item) → Each (Brings M) f → AllAmong M (after new_set f)

-- 7. Nothing shows of what fills the arrays: two sets that feeds bring about, with the same desks and channels in the plan, are the
-- same (`Shape.same_plan`).
pub record SamePlan (s s' : LineSet) : Type 0 where
  pub planned : s.planned ≡ s'.planned
  pub size : s.size ≡ s'.size
  pub desks : take s.size.desks s.desks ≡ take s'.size.desks s'.desks
  pub channels : channels_of s ≡ channels_of s'

abbrev pub FillersNeverShow : Type 0
FillersNeverShow = (f f' : List Item) → SamePlan (after new_set f) (after new_set f') → after new_set f ≡ after new_set f'

-- 8. Every record among the bytes of a buffer is, under its desk's code, the telegram or contact that the rule names, and no other
-- stands there (`Readable.readable`).
abbrev pub Readable : Type 0
Readable =
    (f : List Item) (i : Item) → (step_by (after new_set f) i).refusal ≡ 0
    → let x : Effect = accepted (after new_set f) i.entry (read_entry i.entry) in
    letters_in (written_in i (step_by (after new_set f) i)) ≡ letters_of x.desks x.sent

-- ---- 9. Who is told, and of which numbers (`Told.told-right`)

-- a running desk that is entitled to a channel
abbrev pub Hears : LineSet → ℕ → ℕ → Type 0
Hears s d ch = Running s d × (is_in d (channel_at s ch).entitled ≡ true)

-- A record to a desk of the plan, under its code. If it is about a channel, the desk is running and entitled to it. Every number in
-- it is the none-number, the desk's own, or a mobile's.
abbrev pub Right : LineSet → (Number → Type 0) → Letter → Type 0
Right s M (says d c m) =
    (d < s.size.desks)
    × ((c ≡ (get_or s.desks d no_desk).code) × (Each (Hears s d) (channel_named m) × Each (ForDesk (around_of s M) d) (numbers_in (telegram m))))
Right s M (rings d k ch on) = (d < s.size.desks) × Hears s d ch
Right s M unread = ⊥

-- the set whose plan an entry goes by: a plan's own, if it is one that is accepted
abbrev pub served_by : LineSet → Outcome → LineSet
served_by s o = cond s.planned s o.after

-- In every state that a feed brings about, every record among the bytes written is right. So no desk is told of a channel that it is
-- not entitled to, and a desk's own number reaches no other desk, unless a mobile has it.
abbrev pub ToldRight : Type 1
ToldRight =
    (M : Number → Type 0) (f : List Item) (i : Item) → Each (Brings M) f → Brings M i
    → let o : Outcome = step_by (after new_set f) i in
    Each (Right (served_by (after new_set f) o) M) (letters_in (written_in i o))

-- 10. 22,976 bytes are enough: with a buffer so long no entry is refused with 16, whatever the feed before (`Room.roomy`).
abbrev pub room_enough : ℕ
room_enough = 22976

abbrev pub Roomy : Type 0
Roomy = (f : List Item) (i : Item) → room_enough ≤ length i.buffer → (step_by (after new_set f) i).refusal ≡ 16 → ⊥

-- ---- 11. Holdings (`Holdings.holding_ends`)

-- what ends the holding of desk d on channel ch: its release, its cut, the timer, a handover
pub data Ends (s : LineSet) (e : List ℕ) (d ch : ℕ) : Type 0 where
  released : (n : Number) → entry_kind (read_entry e) ≡ 1 → entry_desk (read_entry e) ≡ d
      → asked_in d (read_telegram (telegram_in e)) ≡ OnChannel ch n (Release d) → Ends s e d ch
  cut : entry_kind (read_entry e) ≡ 3 → entry_desk (read_entry e) ≡ d → entry_channel (read_entry e) ≡ ch → Ends s e d ch
  timed_out : entry_kind (read_entry e) ≡ 6 → (channel_at s ch).release ≡ 1 → Ends s e d ch
  handed-over : entry_kind (read_entry e) ≡ 8 → Ends s e d ch

-- A holding lasts, or its holder, its timer or a handover ends it.
abbrev pub HoldingEnds : Type 0
HoldingEnds =
    (f : List Item) (i : Item) (ch d : ℕ) → (channel_at (after new_set f) ch).holder ≡ Some d
    → ((channel_at (step_by (after new_set f) i).after ch).holder ≡ Some d) ⊎ Ends (after new_set f) i.entry d ch

-- 12. What an accepted entry finds (`Holdings.finds`): a press or a cut is the holder's; a press on finds no press, a mobile on no
-- mobile and no ring, a mobile call an idle channel and a desk of the called number that listens on it, and a cancel a ring.
pub record Finds (s : LineSet) (x : ReadEntry) : Type 0 where
  pub press-held : entry_kind x ≡ 2 → (channel_at s (entry_channel x)).holder ≡ Some (entry_desk x)
  pub cut-held : entry_kind x ≡ 3 → (channel_at s (entry_channel x)).holder ≡ Some (entry_desk x)
  pub press_new : entry_kind x ≡ 2 → entry_on x ≡ 1 → is_pressed (channel_at s (entry_channel x)) ≡ false
  pub mobile_new : entry_kind x ≡ 4 → (channel_at s (entry_channel x)).arrival ≡ None
  pub mobile-silent : entry_kind x ≡ 4 → is_ringing (channel_at s (entry_channel x)) ≡ false
  pub call-idle : entry_kind x ≡ 9 → Idle (channel_at s (entry_channel x))
  pub call-heard : entry_kind x ≡ 9 → is_in (called_place s.desks s.size.desks (entry_called x)) (listeners_of s.desks s.size.desks (channel_at s (entry_channel x))) ≡ true
  pub cancel_rings : entry_kind x ≡ 10 → is_ringing (channel_at s (entry_channel x)) ≡ true

abbrev pub AcceptedFinds : Type 0
AcceptedFinds = (s : LineSet) (i : Item) → (step_by s i).refusal ≡ 0 → Finds s (read_entry i.entry)
