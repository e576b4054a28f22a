-- One entry, and feeds: "a list of entries of any bytes, refused ones included, each with a lent buffer".
use Rattle.std.specs.Prelude.{ℕ, List, [], ◌∷◌, ◌++◌, cond, ◌≡◌, eqb, leb, length, take, get_or, Result}
use Rattle.telegram.specs.Telegram.{over}
use Rattle.frames.specs.Frames.{frames_in}
use Rattle.set_rules.specs.Entries.{read_entry, ReadEntry}
use Rattle.set_rules.specs.Refusals.{refusal_of}
use Rattle.set_rules.specs.Records.{records_of, space_of}
use Rattle.set_rules.specs.SetRules.{Effect, accepted}
use Rattle.set_state.specs.declared.state.LineSet.{LineSet}
use Rattle.set_state.specs.declared.state.Answer.{Answer}
use Rattle.set_state.specs.declared.state.Refusal.{Refusal}
use Rattle.set_state.specs.Entry.{refusal_in, count_in}

-- "The answer is the refusal number (0 if accepted), the byte count written, and the set after"; and the bytes written
pub record Outcome : Type 0 where
  pub refusal : ℕ
  pub count : ℕ
  pub after : LineSet
  pub bytes : List ℕ

-- an answer in such numbers
pub record Numbers : Type 0 where
  pub set : LineSet
  pub count : ℕ
  pub refusal : ℕ

abbrev pub answer_of : Outcome → Numbers
answer_of o = record { set = o.after; count = o.count; refusal = o.refusal }

-- the same of the answer that the code gives
abbrev pub numbers_in : Answer → Numbers
numbers_in r = record { set = r.set; count = count_in r.reply; refusal = refusal_in r.reply }

-- an answer and a buffer after, as an outcome gives them; "bytes past the last record stay as they were"
pub record Gives (o : Outcome) (r : Answer) (before after : List ℕ) : Type 0 where
  pub answer : numbers_in r ≡ answer_of o
  pub bytes : after ≡ over o.bytes before

-- the same where the set is lent: the set after is where the set lay
abbrev pub GivesIn : Outcome → Result ℕ Refusal → LineSet → List ℕ → List ℕ → Type 0
GivesIn o r set before after = Gives o (record { set = set; reply = r }) before after

-- "Each refusal returns count 0 and leaves set and buffer untouched."
abbrev pub refuse : ℕ → LineSet → Outcome
refuse n s = record { refusal = n; count = 0; after = s; bytes = [] }

-- 16: "the records don't fit the buffer"
abbrev pub emit : LineSet → Effect → ℕ → Outcome
emit s f room =
    cond (leb (space_of f.sent) room)
    (record { refusal = 0; count = space_of f.sent; after = f.after; bytes = records_of f.desks f.sent })
    (refuse 16 s)

-- an entry x, read from the bytes e, before a set, with a buffer of so many bytes
unfoldable pub outcome_of : LineSet → List ℕ → ReadEntry → ℕ → Outcome
outcome_of s e x room = cond (eqb (refusal_of s e x) 0) (emit s (accepted s e x) room) (refuse (refusal_of s e x) s)

-- an entry of any bytes
unfoldable pub step_of : LineSet → List ℕ → ℕ → Outcome
step_of s e room = outcome_of s e (read_entry e) room

-- an entry and the buffer lent with it, "whatever that held"
pub record Item : Type 0 where
  pub entry : List ℕ
  pub buffer : List ℕ

abbrev pub step_by : LineSet → Item → Outcome
step_by s i = step_of s i.entry (length i.buffer)

-- "Each entry gets the set that the one before left"
unfoldable pub run : LineSet → List Item → List Outcome
run s [] = []
run s (i ∷ is) = step_by s i ∷ run (step_by s i).after is

unfoldable pub after : LineSet → List Item → LineSet
after s [] = s
after s (i ∷ is) = after (step_by s i).after is

-- ---- what a desk receives

-- "the bytes written": those of the buffer after an entry, up to the count
abbrev pub written_in : Item → Outcome → List ℕ
written_in i o = take o.count (over o.bytes i.buffer)

-- the records among bytes, each behind its length
abbrev pub records_in : List ℕ → List (List ℕ)
records_in = frames_in

-- "it receives the records with that desk byte among the bytes written"
unfoldable pub of_desk : ℕ → List (List ℕ) → List ℕ
of_desk B [] = []
of_desk B (r ∷ rs) = cond (eqb (get_or r 3 256) B) r [] ++ of_desk B rs

abbrev pub received : ℕ → List ℕ → List ℕ
received B bs = of_desk B (records_in bs)

-- what B gets of a feed: of each entry its refusal, its count and B's records
pub record Seen : Type 0 where
  pub refusal : ℕ
  pub count : ℕ
  pub records : List ℕ

abbrev pub seen_of : ℕ → Item → Outcome → Seen
seen_of B i o = record { refusal = o.refusal; count = o.count; records = received B (written_in i o) }

unfoldable pub views : ℕ → LineSet → List Item → List Seen
views B s [] = []
views B s (i ∷ is) = seen_of B i (step_by s i) ∷ views B (step_by s i).after is
