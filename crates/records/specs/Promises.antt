-- What is promised of bytes written at a place of a buffer, one run after another, and of records at its front, beside the
-- contracts. `proofs/Kept.antt` has the proof of each under the name given with it, and is the one module of the proofs that
-- other crates cite.
use Rattle.std.specs.Prelude.{ℕ, ◌+◌, ◌≤◌, List, [], ◌++◌, ◌≡◌, length}
use Rattle.set_rules.specs.Records.{Delivery, to_each, records_of, space_of}
use Rattle.set_rules.specs.RecordLaws.{AllEven, accepted_with}
use Rattle.set_rules.specs.SetRules.{Effect}
use Rattle.set_rules.specs.Feeds.{Gives, emit}
use Rattle.set_state.specs.declared.state.Answer.{Answer}
use Rattle.set_state.specs.declared.state.Desk.{Desk}
use Rattle.set_state.specs.declared.state.LineSet.{LineSet}
use Rattle.records.specs.Emitting.{written, PutAt}

-- No bytes change nothing (`written_none`), and a delivery to nobody has none (`nobody`).
abbrev pub NoneWritten : Type 0
NoneWritten = (l : List ℕ) (i : ℕ) → written l i [] ≡ l

abbrev pub ToNobody : Type 0
ToNobody = (ds : List Desk) (v : Delivery) → v.recipients ≡ 0 → to_each 8 0 ds v ≡ []

-- ---- writing in several turns

-- `total` is to be written at place `at` of b₀; by now the buffer is b, and `rest` is still to be written, at place p
pub record Writing (b₀ : List ℕ) (at : ℕ) (total : List ℕ) (b : List ℕ) (p : ℕ) (rest : List ℕ) : Type 0 where
  pub bytes : written b p rest ≡ written b₀ at total
  pub ends : p + length rest ≡ at + length total
  pub same : length b ≡ length b₀

-- `rest` is xs, then ys: a record, so that antt finds xs and ys, which `◌++◌` hides
pub record Split (rest xs ys : List ℕ) : Type 0 where
  pub parts : rest ≡ xs ++ ys

-- At first all is left (`start`).
abbrev pub Start : Type 0
Start = (b : List ℕ) (at : ℕ) (total : List ℕ) → Writing b at total b at total

-- After xs has been written, where xs and then ys was left, ys is left (`next`).
abbrev pub Next : List ℕ → ℕ → List ℕ → List ℕ → ℕ → List ℕ → List ℕ → List ℕ → List ℕ → ℕ → Type 0
Next b₀ at total b p rest xs ys b' p' =
    Writing b₀ at total b p rest → Split rest xs ys → p' ≡ p + length xs → b' ≡ written b p xs → Writing b₀ at total b' p' ys

-- There is room for the first of what is left (`room`).
abbrev pub RoomLeft : List ℕ → ℕ → List ℕ → List ℕ → ℕ → List ℕ → List ℕ → List ℕ → Type 0
RoomLeft b₀ at total b p rest xs ys =
    Writing b₀ at total b p rest → Split rest xs ys → at + length total ≤ length b₀ → p + length xs ≤ length b

-- Where nothing is left, all was put (`all_put`).
abbrev pub AllPut : List ℕ → ℕ → List ℕ → List ℕ → ℕ → List ℕ → Type 0
AllPut b₀ at total b p rest = Writing b₀ at total b p rest → rest ≡ [] → PutAt at total p b₀ b

-- ---- records that fit, at the front of a buffer

-- Written there, they are what the entry gives (`emitted`).
abbrev pub Emitted : LineSet → Effect → List ℕ → Answer → List ℕ → Type 0
Emitted s f b r a =
    space_of f.sent ≤ length b → AllEven f.sent → a ≡ written b 0 (records_of f.desks f.sent)
    → r ≡ accepted_with f.after (space_of f.sent) → Gives (emit s f (length b)) r b a

-- Put there, with the place behind them for the count, they are too (`put_first`).
abbrev pub PutFirst : LineSet → Effect → List ℕ → LineSet → ℕ → List ℕ → Type 0
PutFirst s f b t at a =
    space_of f.sent ≤ length b → AllEven f.sent → PutAt 0 (records_of f.desks f.sent) at b a → t ≡ f.after
    → Gives (emit s f (length b)) (accepted_with t at) b a
