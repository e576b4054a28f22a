-- What is promised of what records say, beside the contracts: what the telegrams of a body have in common, whichever desk they
-- go to. `proofs/Kept.antt` has the proof of each under the name given with it, and is the one module of the proofs that other
-- crates cite.
use Rattle.std.specs.Prelude.{ℕ, ◌+◌, ◌≤◌, List, ◌≡◌, replicate}
use Rattle.std.proofs.lemmas.List.Edits.{sets}
use Rattle.telegram.specs.Telegram.{size_of, num, telegram_of}
use Rattle.telegram.specs.declared.message.Number.{Number}
use Rattle.telegram.specs.declared.message.Message.{Message}
use Rattle.line_rules.specs.Notices.{telegram, contact}
use Rattle.set_rules.specs.Records.{record_size}
use Rattle.bodies.specs.Bodies.{body_for, shape_of, form_of, numbered_for, own_end}
use Rattle.bodies.specs.declared.body.Body.{Body}
use Rattle.bodies.specs.declared.shape.Own.{Own}
use Rattle.bodies.specs.declared.shape.Shape.TheVariants.{Contact, Telegram}

-- A body of a contact's shape is that contact to every desk (`as_contact`), and no telegram is made for it (`no_form`).
abbrev pub AsContact : Body → ℕ → ℕ → ℕ → Type 0
AsContact b k ch on = shape_of b ≡ Contact k ch on → (d : ℕ) (own : Number) → body_for d own b ≡ contact k ch on

abbrev pub NoForm : Body → ℕ → ℕ → ℕ → Type 0
NoForm b k ch on = shape_of b ≡ Contact k ch on → replicate 46 0 ≡ form_of b

-- what the telegrams of a body say, and how the one that is made first becomes that of a desk
pub record AsTelegram (b : Body) (o : Own) (size : ℕ) : Type 0 where
  pub says : ℕ → Number → Message
  pub content : (d : ℕ) (own : Number) → body_for d own b ≡ telegram (says d own)
  pub sized : (d : ℕ) (own : Number) → size ≡ 5 + size_of (says d own)
  pub ends : 5 + own_end o ≤ size
  pub numbered : (z : List ℕ) (c d : ℕ) (own : Number) → numbered_for o d own (sets z 0 (telegram_of c (says 0 (num 0)))) ≡ sets z 0 (telegram_of c (says d own))

-- A body of a telegram's shape has such telegrams (`as_telegram`); their records are of the size that the shape says
-- (`size_is`), which is at most 51 (`size-most`).
abbrev pub HasTelegrams : Body → Own → ℕ → Type 0
HasTelegrams b o size = shape_of b ≡ Telegram o size → AsTelegram b o size

abbrev pub SizeIs : Body → Own → ℕ → Type 0
SizeIs b o size = AsTelegram b o size → (d : ℕ) (own : Number) → size ≡ record_size (body_for d own b)

abbrev pub AtMost51 : Body → Own → ℕ → Type 0
AtMost51 b o size = AsTelegram b o size → size ≤ 51
