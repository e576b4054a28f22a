-- Whole feeds stepped in a caller's memory: the calls answer as the entries do from the set that lies there, and leave how the memory
-- begins. So what is promised of sets over whole feeds holds of the memory.
-- Assumes nothing.
use Prim.Native.Nat.{ℕ}
use mathlib.Core.List.{List, map}
use mathlib.Core.Path.{◌≡◌, refl, sym, ap, ◌∙◌}
use lib.ListN.{length}
use Rattle.set_state.specs.State.{new_set}
use Rattle.set_state.specs.declared.state.LineSet.{LineSet}
use Rattle.set_rules.specs.Feeds.{Item, step_by, seen_of, views}
use Rattle.set_rules.proofs.Kept.{isolated, made_new}
use Rattle.plain_set.specs.Plain.{set_in, plain_of}
use Rattle.plain_set.specs.declared.plain.PlainSet.{PlainSet}
use Rattle.plain_set.proofs.Kept.{returns}
use Rattle.controller.specs.Memory.{layout_now, KeepsIn}
use Rattle.controller.specs.Promises.{Called, Calls, none, next, seen_in, IsolatedInMemory, RenewedInMemory}
use Rattle.controller.specs.declared.exports.Kept.{Kept}
use Rattle.controller.proofs.Stepped.{set_after, layout_after}

-- ---- one call, on any memory

module _ {p q : PlainSet} {n count : ℕ} {after : List ℕ} (i : Item) (k : KeepsIn p i.entry n count q i.buffer after) where
  set-left : set_in q ≡ (step_by (set_in p) i).after
  set-left = ap (λ (r : Kept). set_in r.set) k.answer ∙ set_after p i.entry (length i.buffer)

  layout_left : q.layout ≡ p.layout
  layout_left = ap (λ (r : Kept). r.set.layout) k.answer ∙ layout_after p i.entry (length i.buffer)

  shows : (B : ℕ) → seen_in B (record { refusal = n; count = count; buffer = after }) ≡ seen_of B i (step_by (set_in p) i)
  shows B =
      let o = step_by (set_in p) i in
      ap (λ (r : Kept). seen_in B (record { refusal = r.refusal; count = r.count; buffer = after })) k.answer
      ∙ ap (λ (b : List ℕ). seen_in B (record { refusal = o.refusal; count = o.count; buffer = b })) k.bytes

-- ---- calls, one after another

views_in : {p q : PlainSet} {f : List Item} {cs : List Called} (B : ℕ) → Calls p f cs q → map (seen_in B) cs ≡ views B (set_in p) f
unfolding views
views_in B none = refl
views_in B (next {i = i} {f = f} k rest) =
    let left = views_in B rest ∙ ap (λ (s : LineSet). views B s f) (set-left i k) in
    rw (shows i k B, left)

layout_in : {p q : PlainSet} {f : List Item} {cs : List Called} → Calls p f cs q → q.layout ≡ p.layout
layout_in none = refl
layout_in (next {i = i} k rest) = layout_in rest ∙ layout_left i k

pub isolated_in_memory : IsolatedInMemory
isolated_in_memory B f f' cs cs' q q' r x x' =
    let new : (g : List Item) → views B (set_in (plain_of layout_now new_set)) g ≡ views B new_set g = λ g. ap (λ (s : LineSet). views B s g) (returns layout_now new_set) in
    views_in B x ∙ new f ∙ isolated B f f' r ∙ sym (views_in B x' ∙ new f')

-- the numbers are all that the set after says, but for how they begin
pub renewed_in_memory : RenewedInMemory
renewed_in_memory f cs p q h count after x k kept =
    let z : (step_by (set_in p) h).refusal ≡ 0 = sym (ap (λ (r : Kept). r.refusal) kept.answer) in
    let left : q ≡ plain_of p.layout (step_by (set_in p) h).after = rw z at (ap (λ (r : Kept). r.set) kept.answer) in
    left ∙ ap (λ (l : List ℕ). plain_of l (step_by (set_in p) h).after) (layout_in x) ∙ ap (plain_of layout_now) (made_new (set_in p) h k z)
