-- What an entry leaves in memory: a refused one all that was there, and each the numbers of the set after it.
-- Assumes nothing.
use Prim.Native.Nat.{ℕ}
use mathlib.Core.List.{List}
use mathlib.Core.Bool.{false, false≢true}
use mathlib.Core.Path.{◌≡◌, refl, sym, ap, ◌∙◌}
use lib.Dec.{eqb}
use borrow.Author.Tests.{eq-eqb, ne_eqb}
use Rattle.laws.proofs.Tests.{by_test, either}
use Rattle.set_rules.proofs.Kept.{refused}
use Rattle.set_rules.specs.Feeds.{step_of}
use Rattle.set_state.specs.declared.state.LineSet.{LineSet}
use Rattle.plain_set.specs.Plain.{set_in, plain_of}
use Rattle.plain_set.specs.declared.plain.PlainSet.{PlainSet}
use Rattle.plain_set.proofs.Kept.{returns}
use Rattle.controller.specs.Memory.{plain_after}
use Rattle.controller.specs.Promises.{Untouched, Stepped}

pub untouched : Untouched
untouched p e room h = rw (ne_eqb (step_of (set_in p) e room).refusal 0 h) refl

-- what is not accepted leaves the set
stays : (s : LineSet) (e : List ℕ) (room : ℕ) → eqb (step_of s e room).refusal 0 ≡ false → s ≡ (step_of s e room).after
stays s e room k = sym (refused s e room (λ z. false≢true (sym k ∙ eq-eqb (step_of s e room).refusal 0 z))).1

pub stepped : Stepped
stepped layout s e room =
    rw (returns layout s)
    (by_test (eqb (step_of s e room).refusal 0)
    (λ k. rw k refl)
    (λ k. rw k (ap (plain_of layout) (stays s e room k))))

-- of any numbers: those after an entry are the set after it, and begin as they did
pub set_after : (p : PlainSet) (e : List ℕ) (room : ℕ) → set_in (plain_after p (step_of (set_in p) e room)) ≡ (step_of (set_in p) e room).after
set_after p e room =
    by_test (eqb (step_of (set_in p) e room).refusal 0)
    (λ k. rw k (returns p.layout (step_of (set_in p) e room).after))
    (λ k. rw k (stays (set_in p) e room k))

pub layout_after : (p : PlainSet) (e : List ℕ) (room : ℕ) → (plain_after p (step_of (set_in p) e room)).layout ≡ p.layout
layout_after p e room = either (λ (q : PlainSet). q.layout ≡ p.layout) (eqb (step_of (set_in p) e room).refusal 0) _ _ refl refl
