-- A set in a caller's memory: its size, how it begins, and what an entry leaves there.
use Rattle.std.specs.Prelude.{ℕ, List, [], ◌∷◌, Bool, ◌&&◌, cond, ◌≡◌, eqb, length, get_or}
use Rattle.telegram.specs.Telegram.{over}
use Rattle.set_rules.specs.Feeds.{Outcome, step_of}
use Rattle.plain_set.specs.Plain.{set_in, plain_of}
use Rattle.plain_set.specs.declared.plain.PlainSet.{PlainSet}
use Rattle.controller.specs.declared.exports.Kept.{Kept}

-- ---- the memory of a set, which the compiler lays out by C's rules: four bytes, channels of 36, desks of 12, and four

abbrev pub set_size : ℕ
set_size = 1208

abbrev pub set_align : ℕ
set_align = 4

-- how it begins: "IMJ", and the number of this layout
abbrev pub layout_now : List ℕ
layout_now = 73 ∷ 77 ∷ 74 ∷ 2 ∷ []

abbrev pub begins_at : ℕ → List ℕ → Bool
begins_at i b = eqb (get_or b i 0) (get_or layout_now i 0)

-- bytes as long as a set that begin so
abbrev pub is_current : List ℕ → Bool
is_current b = eqb (length b) set_size && (begins_at 0 b && (begins_at 1 b && (begins_at 2 b && begins_at 3 b)))

-- ---- an entry

-- the numbers after an entry, which leaves how they begin; "each refusal .. leaves set and buffer untouched", whatever they are
abbrev pub plain_after : PlainSet → Outcome → PlainSet
plain_after p o = cond (eqb o.refusal 0) (plain_of p.layout o.after) p

-- the answer to an entry, with the set as numbers
abbrev pub kept_of : PlainSet → Outcome → Kept
kept_of p o = record { set = plain_after p o; count = o.count; refusal = o.refusal }

-- an entry for numbers with a buffer: its answer, and the buffer after it
pub record Keeps (p : PlainSet) (e : List ℕ) (r : Kept) (before after : List ℕ) : Type 0 where
  pub answer : r ≡ kept_of p (step_of (set_in p) e (length before))
  pub bytes : after ≡ over (step_of (set_in p) e (length before)).bytes before

-- the same where the numbers and the count lie in the caller's memory: q and n are what lies there after it
abbrev pub KeepsIn : PlainSet → List ℕ → ℕ → ℕ → PlainSet → List ℕ → List ℕ → Type 0
KeepsIn p e r n q before after = Keeps p e (record { set = q; count = n; refusal = r }) before after
