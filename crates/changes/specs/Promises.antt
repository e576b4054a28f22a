-- What is promised of entries about one desk's link or one channel, beside the contracts. `proofs/Kept.antt` has the proof of
-- each under the name given with it, and is the one module of the proofs that other crates cite.
use Rattle.std.specs.Prelude.{ℕ, List, Bool, ◌≡◌, Ok, Err}
use Rattle.channel.specs.declared.state.Channel.{Channel}
use Rattle.channel.specs.declared.state.Send.{Send}
use Rattle.sends.specs.Scripts.{heard}
use Rattle.set_rules.specs.Entries.{ReadEntry}
use Rattle.set_rules.specs.Records.{delivered, records_of, space_of}
use Rattle.set_rules.specs.SetRules.{on_link}
use Rattle.set_rules.specs.Feeds.{refuse, emit, outcome_of}
use Rattle.set_state.specs.Entry.{desk_from}
use Rattle.set_state.specs.declared.state.Desk.{Desk}
use Rattle.set_state.specs.declared.state.Entry.{Entry}
use Rattle.set_state.specs.declared.state.LinkRequest.{LinkRequest}
use Rattle.telegram_requests.specs.declared.request.Asked.TheVariants.{OfLink}
use Rattle.requests.specs.Asking.{seen, asked_of}
use Rattle.changes.specs.Changes.{set_with}

-- Sends that are heard alike take the same space (`same-space`) and have the same records (`same-records`).
abbrev pub SameSpace : Type 0
SameSpace = (ds : List Desk) (ch : ℕ) (ss ts : List Send) → heard ss ≡ heard ts → space_of (delivered ds ch ss) ≡ space_of (delivered ds ch ts)

abbrev pub SameRecords : Type 0
SameRecords =
    (ds : List Desk) (ch : ℕ) (ss ts : List Send) → heard ss ≡ heard ts → records_of ds (delivered ds ch ss) ≡ records_of ds (delivered ds ch ts)

-- An entry that asks for nothing is refused, one that could not be read too (`refused_as`).
abbrev pub RefusedAs : Type 0
RefusedAs =
    (planned : Bool) (ds : List Desk) (n : ℕ) (cs : List Channel) (k : ℕ) (e : List ℕ) (x : ReadEntry) (found : Bool) (c : Channel) (m room : ℕ)
    → Err m ≡ asked_of (seen planned ds n found c) e x → refuse m (set_with planned ds n cs k) ≡ outcome_of (set_with planned ds n cs k) e x room

-- One that asks something of a link is what the rule of links gives (`linked_as`).
abbrev pub LinkedAs : Type 0
LinkedAs =
    (planned : Bool) (ds : List Desk) (n : ℕ) (cs : List Channel) (k : ℕ) (e : List ℕ) (x : Entry) (found : Bool) (c : Channel) (q : LinkRequest) (room : ℕ)
    → Ok (OfLink q) ≡ asked_of (seen planned ds n found c) e (Ok x)
    → emit (set_with planned ds n cs k) (on_link (set_with planned ds n cs k) (desk_from x) q) room ≡ outcome_of (set_with planned ds n cs k) e (Ok x) room
