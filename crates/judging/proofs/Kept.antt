-- The promises of `specs/Promises.antt`, kept.
-- Assumes nothing.
use Prim.Native.Nat.{ℕ}
use mathlib.Core.Logic.{inl, inr}
use mathlib.Core.Path.{◌≡◌, refl}
use native.Mathlib.Omega.{arith}
use borrow.Author.Tests.{eqb-false}
use Rattle.laws.proofs.Tests.{by_test}
use Rattle.set_state.specs.declared.state.Entry.TheVariants.{Telegram, Press, Cut, MobileOn, MobileOff, Tick, Plan, Handover, MobileCall, MobileCancel}
use Rattle.set_rules.specs.Entries.{entry_kind, entry_desk, entry_on, entry_number, entry_called}
use Rattle.set_rules.specs.Refusals.{first_of}
use Rattle.judging.specs.Promises.{LateAsk, LineKind, LateLine, LateAnswer}

pub late_ask : LateAsk
unfolding first_of entry_kind entry_desk
late_ask w e r (Telegram d) ch number v heard h i = rw i refl
late_ask w e r (Press d c on) ch number v heard h i = absurd (omega arith)
late_ask w e r (Cut d c) ch number v heard h i = absurd (omega arith)
late_ask w e r (MobileOn c b n) ch number v heard h i = absurd (omega arith)
late_ask w e r (MobileOff c) ch number v heard h i = absurd (omega arith)
late_ask w e r Tick ch number v heard h i = absurd (omega arith)
late_ask w e r Plan ch number v heard h i = absurd (omega arith)
late_ask w e r Handover ch number v heard h i = absurd (omega arith)
late_ask w e r (MobileCall c b n m) ch number v heard h i = absurd (omega arith)
late_ask w e r (MobileCancel c) ch number v heard h i = absurd (omega arith)

-- no other kind is about a channel
no_line : (k : ℕ) → (k ≡ 2 → ⊥) → (k ≡ 3 → ⊥) → (k ≡ 4 → ⊥) → (k ≡ 5 → ⊥) → (k ≡ 9 → ⊥) → (k ≡ 10 → ⊥) → LineKind k → ⊥
no_line k p q r s t u (inl h) = p h
no_line k p q r s t u (inr (inl h)) = q h
no_line k p q r s t u (inr (inr (inl h))) = r h
no_line k p q r s t u (inr (inr (inr (inl h)))) = s h
no_line k p q r s t u (inr (inr (inr (inr (inl h))))) = t h
no_line k p q r s t u (inr (inr (inr (inr (inr h))))) = u h

pub late-line : LateLine
unfolding first_of entry_kind entry_desk entry_on entry_number entry_called
late-line w e r (Telegram d) number heard h k = absurd (no_line 1 (eqb-false _ _ refl) (eqb-false _ _ refl) (eqb-false _ _ refl) (eqb-false _ _ refl) (eqb-false _ _ refl) (eqb-false _ _ refl) h)
late-line w e r (Press d c on) number heard h k = refl
late-line w e r (Cut d c) number heard h k = refl
late-line w e r (MobileOn c b n) number heard h k = refl
late-line w e r (MobileOff c) number heard h k = refl
late-line w e r Tick number heard h k = absurd (no_line 6 (eqb-false _ _ refl) (eqb-false _ _ refl) (eqb-false _ _ refl) (eqb-false _ _ refl) (eqb-false _ _ refl) (eqb-false _ _ refl) h)
late-line w e r Plan number heard h k = absurd (no_line 7 (eqb-false _ _ refl) (eqb-false _ _ refl) (eqb-false _ _ refl) (eqb-false _ _ refl) (eqb-false _ _ refl) (eqb-false _ _ refl) h)
late-line w e r Handover number heard h k = absurd (no_line 8 (eqb-false _ _ refl) (eqb-false _ _ refl) (eqb-false _ _ refl) (eqb-false _ _ refl) (eqb-false _ _ refl) (eqb-false _ _ refl) h)
late-line w e r (MobileCall c b n m) number heard h k = by_test w.found (λ t. rw (k refl t) refl) (λ t. rw t refl)
late-line w e r (MobileCancel c) number heard h k = refl

pub late-answer : LateAnswer
unfolding first_of
late-answer w e r x m h i = rw (h, i) refl
