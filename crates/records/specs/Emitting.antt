-- How the code writes records: bytes at a place of a buffer, and the parts of a record.
use Rattle.std.specs.Prelude.{ℕ, ◌+◌, ◌/◌, ◌%◌, List, [], ◌∷◌, cond, ◌≡◌, eqb, length}
use Rattle.std.proofs.lemmas.List.Edits.{sets}
use Rattle.telegram.specs.Telegram.{telegram_of}
use Rattle.line_rules.specs.Notices.{Content, telegram, contact}
use Rattle.set_state.specs.State.{own_of}
use Rattle.set_rules.specs.Records.{record_for}
use Rattle.set_state.specs.declared.state.Desk.{Desk}
use Rattle.bodies.specs.Bodies.{body_for}
use Rattle.bodies.specs.declared.body.Body.{Body}

-- a buffer after bytes were stored from a place on; the others stay
unfoldable pub written : List ℕ → ℕ → List ℕ → List ℕ
written b at bs = sets b at bs

-- bytes were stored from a place on, and r is the place behind them
abbrev pub PutAt : ℕ → List ℕ → ℕ → List ℕ → List ℕ → Type 0
PutAt at bs r before after = (r ≡ at + length bs) × (after ≡ written before at bs)

-- ---- the parts of a record

-- a head of five bytes: "length (2 bytes, as above), version 1, desk, then 1 .. or 2"
abbrev pub head_bytes : ℕ → ℕ → ℕ → List ℕ
head_bytes size d kind = size / 256 ∷ size % 256 ∷ 1 ∷ d ∷ kind ∷ []

abbrev pub kind_of : Content → ℕ
kind_of (telegram m) = 1
kind_of (contact k ch on) = 2

-- what follows the head: "a telegram under that desk's code, or .. a contact (1 press answer or 2 incoming; channel; on)"
abbrev pub rest_bytes : ℕ → Content → List ℕ
rest_bytes code (telegram m) = telegram_of code m
rest_bytes code (contact k ch on) = k ∷ ch ∷ on ∷ []

-- the record to one desk, if the lowest bit of m says that it is told
unfoldable pub to_one : List Desk → ℕ → ℕ → Body → List ℕ
to_one ds d m b = cond (eqb (m % 2) 1) (record_for ds d (body_for d (own_of ds d) b)) []
