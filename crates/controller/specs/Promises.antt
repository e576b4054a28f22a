-- What is promised of a set in a caller's memory.
use Rattle.std.specs.Prelude.{ℕ, List, [], ◌∷◌, map, ◌≡◌, take}
use Rattle.set_state.specs.State.{new_set}
use Rattle.set_state.specs.declared.state.LineSet.{LineSet}
use Rattle.set_rules.specs.Entries.{read_entry, entry_kind}
use Rattle.set_rules.specs.Feeds.{Item, Seen, step_of, received}
use Rattle.set_rules.specs.Promises.{Related}
use Rattle.plain_set.specs.Plain.{set_in, plain_of}
use Rattle.plain_set.specs.declared.plain.PlainSet.{PlainSet}
use Rattle.controller.specs.Memory.{layout_now, plain_after, KeepsIn}

-- 1. A refused entry leaves every number, whatever the numbers are (`Stepped.untouched`).
abbrev pub Untouched : Type 0
Untouched =
    (p : PlainSet) (e : List ℕ) (room : ℕ) → ((step_of (set_in p) e room).refusal ≡ 0 → ⊥) → plain_after p (step_of (set_in p) e room) ≡ p

-- 2. After an entry the numbers are the set after it, where they were a set's before (`Stepped.stepped`).
abbrev pub Stepped : Type 0
Stepped =
    (layout : List ℕ) (s : LineSet) (e : List ℕ) (room : ℕ)
    → plain_after (plain_of layout s) (step_of (set_in (plain_of layout s)) e room) ≡ plain_of layout (step_of s e room).after

-- ---- whole feeds, stepped where the set lies

-- what a caller has after a call of `imjauska_step`, beside the set: the number that came back, the count, and the buffer
pub record Called : Type 0 where
  pub refusal : ℕ
  pub count : ℕ
  pub buffer : List ℕ

-- Calls of `imjauska_step` with the entries and buffers of a feed, each on the memory that the one before left: of each holds what
-- the contract says.
pub data Calls : PlainSet → List Item → List Called → PlainSet → Type 0 where
  none : {p : PlainSet} → Calls p [] [] p
  next : {p q r : PlainSet} {i : Item} {n count : ℕ} {after : List ℕ} {f : List Item} {cs : List Called}
      → KeepsIn p i.entry n count q i.buffer after → Calls q f cs r
      → Calls p (i ∷ f) (record { refusal = n; count = count; buffer = after } ∷ cs) r

-- what desk B gets of a call: the refusal, the count, and the records with its desk byte in the buffer up to the count
abbrev pub seen_in : ℕ → Called → Seen
seen_in B a = record { refusal = a.refusal; count = a.count; records = received B (take a.count a.buffer) }

-- 3. Isolation where the set lies: for any desk B and two feeds that differ only in numbers B may not learn, each stepped in memory
-- that `imjauska_new` made, B gets the same records, refusals and counts (`Feeds.isolated_in_memory`).
abbrev pub IsolatedInMemory : Type 0
IsolatedInMemory =
    (B : ℕ) (f f' : List Item) (cs cs' : List Called) (q q' : PlainSet) → Related B new_set new_set f f'
    → Calls (plain_of layout_now new_set) f cs q → Calls (plain_of layout_now new_set) f' cs' q' → map (seen_in B) cs ≡ map (seen_in B) cs'

-- 4. After any feed stepped in memory that `imjauska_new` made, an accepted handover leaves there, number by number, what
-- `imjauska_new` makes (`Feeds.renewed_in_memory`).
abbrev pub RenewedInMemory : Type 0
RenewedInMemory =
    (f : List Item) (cs : List Called) (p q : PlainSet) (h : Item) (count : ℕ) (after : List ℕ)
    → Calls (plain_of layout_now new_set) f cs p → entry_kind (read_entry h.entry) ≡ 8 → KeepsIn p h.entry 0 count q h.buffer after
    → q ≡ plain_of layout_now new_set
