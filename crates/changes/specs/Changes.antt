-- What an entry about one desk's link or one channel gives, as the code holds it: the desks or that channel after it, to be stored
-- in any set that has them.
use Rattle.std.specs.Prelude.{ℕ, List, Bool, true, ◌⊎◌, ◌≡◌, length, get_or, set, Result, Ok, Err}
use Rattle.telegram.specs.declared.message.Number.{Number}
use Rattle.channel.specs.State.{is_in}
use Rattle.channel.specs.declared.state.Channel.{Channel}
use Rattle.channel.specs.declared.state.Event.{Event}
use Rattle.channel.specs.declared.state.Event.TheVariants.{Ring, RingAnswer as Answered}
use Rattle.set_state.specs.State.{own_of, no_channel, place_in, has_channel, channel_at, listeners_of, with_desks, with_channels}
use Rattle.set_state.specs.declared.state.Refusal.{Refusal}
use Rattle.set_rules.specs.Entries.{entry_kind}
use Rattle.set_rules.specs.Refusals.{refusal_of}
use Rattle.set_rules.specs.SetRules.{answers_ring}
use Rattle.set_rules.specs.Feeds.{Outcome, Gives, outcome_of}
use Rattle.set_state.specs.declared.state.Desk.{Desk}
use Rattle.set_state.specs.declared.state.Entry.{Entry}
use Rattle.set_state.specs.declared.state.LineSet.{LineSet}
use Rattle.set_state.specs.declared.state.Answer.{Answer}
use Rattle.telegram_requests.specs.Asking.{code_of}
use Rattle.telegram_requests.specs.declared.request.Asked.TheVariants.{OfLine}
use Rattle.telegram_requests.specs.declared.request.LineRequest.{LineRequest}
use Rattle.telegram_requests.specs.declared.request.LineRequest.TheVariants.{OnChannel, AnswersRing}
use Rattle.requests.specs.Asking.{seen, asked_of}
use Rattle.judging.specs.Promises.{LineKind}
use Rattle.changes.specs.declared.change.Change.{Change}
use Rattle.changes.specs.declared.link.LinkChange.{LinkChange}

-- a set of which n desks of ds are planned, and k of some channels
abbrev pub set_with : Bool → List Desk → ℕ → List Channel → ℕ → LineSet
set_with planned ds n cs k = record { channels = cs; desks = ds; size = record { desks = n; channels = k }; planned = planned }

-- ---- a telegram about a desk's link

-- the change stored in a set; a refusal changes nothing
abbrev pub stored_link : LineSet → Result LinkChange Refusal → Answer
stored_link s (Ok r) = record { set = with_desks r.desks s; reply = Ok r.count }
stored_link s (Err n) = record { set = s; reply = Err n }

-- a change made with these desks is what an outcome gives, in every set that has them
abbrev pub InDesks : List Desk → (LineSet → ℕ → Outcome) → Result LinkChange Refusal → List ℕ → List ℕ → Type 0
InDesks ds f r before after =
    (planned : Bool) (n : ℕ) (cs : List Channel) (k : ℕ)
    → Gives (f (set_with planned ds n cs k) (length before)) (stored_link (set_with planned ds n cs k) r) before after

-- ---- an entry about a channel

-- the change stored in a set, at a place; a refusal changes nothing
abbrev pub stored : LineSet → ℕ → Result Change Refusal → Answer
stored s place (Ok r) = record { set = with_channels (set s.channels place r.channel) s; reply = Ok r.count }
stored s place (Err n) = record { set = s; reply = Err n }

-- c stands at a place of the set, and is the channel with a code if the plan has that
pub record Stands (s : LineSet) (ch place : ℕ) (found : Bool) (c : Channel) : Type 0 where
  pub at : get_or s.channels place no_channel ≡ c
  pub is : found ≡ has_channel s ch
  pub place_is : found ≡ true → place ≡ place_in s ch
  pub channel-is : found ≡ true → c ≡ channel_at s ch

-- what is known before an entry is judged that asks something of the channel with a code
pub record Asks (s : LineSet) (e : List ℕ) (x : Entry) (q : LineRequest) (place : ℕ) (found : Bool) (c : Channel) : Type 0 where
  pub asked : Ok (OfLine q) ≡ asked_of (seen s.planned s.desks s.size.desks found c) e (Ok x)
  pub stands : Stands s (code_of q) place found c
  pub kinds : (entry_kind (Ok x) ≡ 1) ⊎ LineKind (entry_kind (Ok x))

-- whether the desk that a mobile rings, of the first n, listens on a channel
abbrev pub Hears : List Desk → ℕ → Channel → Event → Bool → Type 0
Hears ds n c v heard = (d b : ℕ) (k : Number) → v ≡ Ring d b k → heard ≡ is_in d (listeners_of ds n c)

-- what happens if desk d asks; a ring answer is compared with the ring
abbrev pub event_for : List Desk → ℕ → LineRequest → Channel → Event
event_for ds d (OnChannel ch m v) c = v
event_for ds d (AnswersRing m) c = Answered d (answers_ring d (own_of ds d) m c)

-- a change made with these desks and this channel, which the plan has, is what an outcome gives, in every set that has them
abbrev pub InSets : List Desk → ℕ → ℕ → Channel → (LineSet → ℕ → Outcome) → Result Change Refusal → List ℕ → List ℕ → Type 0
InSets ds n ch c f r before after =
    (planned : Bool) (cs : List Channel) (k place : ℕ) → Stands (set_with planned ds n cs k) ch place true c
    → Gives (f (set_with planned ds n cs k) (length before)) (stored (set_with planned ds n cs k) place r) before after

-- a number is the rules' refusal of an entry of any bytes that asks for this, but for 16
abbrev pub RefusedWith : List Desk → ℕ → Entry → LineRequest → Bool → Channel → ℕ → Type 0
RefusedWith ds n x q found c r =
    (planned : Bool) (cs : List Channel) (k place : ℕ) (e : List ℕ) → Asks (set_with planned ds n cs k) e x q place found c
    → refusal_of (set_with planned ds n cs k) e (Ok x) ≡ r

-- a change is the rules' answer to it
abbrev pub AnswersTo : List Desk → ℕ → Entry → LineRequest → Bool → Channel → Result Change Refusal → List ℕ → List ℕ → Type 0
AnswersTo ds n x q found c r before after =
    (planned : Bool) (cs : List Channel) (k place : ℕ) (e : List ℕ) → Asks (set_with planned ds n cs k) e x q place found c
    → Gives (outcome_of (set_with planned ds n cs k) e (Ok x) (length before)) (stored (set_with planned ds n cs k) place r) before after
