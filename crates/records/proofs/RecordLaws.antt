-- One record: its head and what follows, and the desks of a set one by one.
-- Assumes nothing.
use Prim.Native.Nat.{ℕ, zero, suc, ◌+◌, ◌-◌, ◌/◌, ◌%◌, ◌≤◌, ◌<◌}
use mathlib.Core.List.{List, [], ◌∷◌, ◌++◌, append-nil}
use mathlib.Core.Path.{◌≡◌, refl, sym, ap, ◌∙◌}
use native.Mathlib.Numerals.{add-one}
use native.Mathlib.Omega.{arith}
use lib.ListN.{length, take, drop, get_or}
use lib.Seq.{sets}
use borrow.Author.Tests.{eq-eqb, ne_eqb}
use Rattle.numerals.specs.Digits.{digits_of}
use Rattle.telegram.specs.Telegram.{size_of, num, telegram_of}
use Rattle.telegram.specs.declared.message.Number.{Number}
use Rattle.telegram.proofs.Kept.{length-telegram}
use Rattle.telegram_forms.proofs.Kept.{form_put}
use Rattle.line_rules.specs.Notices.{Content, telegram, contact}
use Rattle.set_state.specs.State.{no_desk, own_of}
use Rattle.set_rules.specs.Records.{Delivery, record_for, record_size, to_each, records_of}
use Rattle.set_state.specs.declared.state.Desk.{Desk}
use Rattle.set_rules.specs.RecordLaws.{without_lowest}
use Rattle.set_rules.proofs.Kept.{halves_half, in_halves}
use Rattle.bodies.specs.Bodies.{body_for, delivery, form_of, numbered_for}
use Rattle.bodies.specs.declared.body.Body.{Body}
use Rattle.bodies.specs.declared.shape.Own.{Own}
use Rattle.bodies.specs.Promises.{AsTelegram}
use Rattle.bodies.proofs.Kept.{size_is}
use Rattle.records.specs.Emitting.{written, head_bytes, kind_of, rest_bytes, to_one}
use Rattle.records.specs.Promises.{Split}

-- ---- one record

parts_of : (ds : List Desk) (d : ℕ) (x : Content)
    → record_for ds d x ≡ head_bytes (record_size x - 2) d (kind_of x) ++ rest_bytes (get_or ds d no_desk).code x
parts_of ds d (telegram m) =
    let size : 5 + size_of m - 2 ≡ suc (suc (suc (size_of m))) = omega arith in
    rw (length-telegram (get_or ds d no_desk).code m, size) refl
parts_of ds d (contact k ch on) = refl

module _ {b : Body} {o : Own} {size : ℕ} (t : AsTelegram b o size) where
  -- a record is its head and the telegram, by the desk that the code has
  pub parts : (ds : List Desk) (d : ℕ) {desk : Desk} → desk ≡ get_or ds d no_desk
      → Split (record_for ds d (body_for d (own_of ds d) b)) (head_bytes (size - 2) d 1) (rest_bytes desk.code (body_for d desk.number b))
  parts ds d e = record { parts = rw (e, size_is t d (own_of ds d)) (parts_of ds d (body_for d (own_of ds d) b) ∙ ap (λ (k : ℕ). head_bytes (record_size (body_for d (own_of ds d) b) - 2) d k ++ rest_bytes (get_or ds d no_desk).code (body_for d (own_of ds d) b)) (ap kind_of (t.content d (own_of ds d)))) }

  -- the form, put under a code
  pub formed : (c : ℕ) (part : List ℕ) {form after : List ℕ} → form ≡ form_of b → size ≤ 5 + length part
      → after ≡ sets (take (size - 5) form ++ drop (size - 5) part) 6 (digits_of 4 c)
      → after ≡ sets part 0 (telegram_of c (t.says 0 (num 0)))
  formed c part {form} {after} e h p =
      let n : size - 5 ≡ size_of (t.says 0 (num 0)) = omega (arith, t.sized 0 (num 0)) in
      let fits : size_of (t.says 0 (num 0)) ≤ length part = omega (arith, h, t.sized 0 (num 0)) in
      p ∙ rw (n, e, t.content 0 (num 0)) (form_put c (t.says 0 (num 0)) part fits)

  -- and with the own number of a desk
  pub told : (c d : ℕ) (own : Number) (part : List ℕ) {after : List ℕ} → after ≡ sets part 0 (telegram_of c (t.says 0 (num 0)))
      → numbered_for o d own after ≡ written part 0 (rest_bytes c (body_for d own b))
  unfolding written
  told c d own part e = rw (e, t.content d own) (t.numbered _ c d own)

-- ---- the desks of a set

pub one-taken : (ds : List Desk) (d m : ℕ) (b : Body) → m % 2 ≡ 1 → to_one ds d m b ≡ record_for ds d (body_for d (own_of ds d) b)
unfolding to_one
one-taken ds d m b h = rw (eq-eqb _ _ h) refl

pub one_left : (ds : List Desk) (d m : ℕ) (b : Body) → (m % 2 ≡ 1 → ⊥) → to_one ds d m b ≡ []
unfolding to_one
one_left ds d m b h = rw (ne_eqb _ _ h) refl

-- the next desk, and those after it
pub each_turn : (ds : List Desk) (d m r : ℕ) (b : Body) → d < 8 → m ≡ without_lowest d r
    → Split (to_each (8 - d) d ds (delivery ds r b)) (to_one ds d m b) (to_each (8 - (d + 1)) (d + 1) ds (delivery ds r b))
unfolding to_each to_one
each_turn ds d m r b h e =
    let k : 8 - d ≡ suc (8 - (d + 1)) = omega arith in
    record { parts = rw (k, in_halves d r, e, add-one) refl }

pub half_turn : (d m r : ℕ) → m ≡ without_lowest d r → m / 2 ≡ without_lowest (d + 1) r
half_turn d m r e = rw (e, add-one) (sym (halves_half d r))

-- to nobody from place d on
pub each_none : (k d : ℕ) (ds : List Desk) (v : Delivery) → without_lowest d v.recipients ≡ 0 → to_each k d ds v ≡ []
unfolding to_each
each_none zero d ds v h = refl
each_none (suc k) d ds v h =
    rw (in_halves d v.recipients, h) (each_none k (suc d) ds v (rw (halves_half d v.recipients, h) refl))

-- one delivery alone
pub records-one : (ds : List Desk) (v : Delivery) → records_of ds (v ∷ []) ≡ to_each 8 0 ds v
unfolding records_of
records-one ds v = append-nil (to_each 8 0 ds v)
