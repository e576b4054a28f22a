-- Tests put together, and choices by a test.
-- Assumes nothing.
use mathlib.Core.Bool.{Bool, true, false, ◌&&◌, ◌||◌, cond, false≢true, true≢false}
use mathlib.Core.Path.{◌≡◌, refl, sym, ap, ◌∙◌}
use Rattle.std.specs.Prelude.{Some, None}
use Rattle.std.proofs.lemmas.Option.{none-some}

-- both halves of a conjunction
pub both : (a b : Bool) → (a && b) ≡ true → (a ≡ true) × (b ≡ true)
both true b e = (refl, e)
both false b e = absurd (false≢true e)

-- both halves of a disjunction that fails
pub neither : (a b : Bool) → (a || b) ≡ false → (a ≡ false) × (b ≡ false)
neither true b e = absurd (true≢false e)
neither false b e = (refl, e)

-- a test holds or fails
pub by_test : {P : Type 0} (t : Bool) → (t ≡ true → P) → (t ≡ false → P) → P
by_test true p q = p refl
by_test false p q = q refl

-- what holds of both branches holds of the choice
pub either : {A : Type 0} (P : A → Type 0) (t : Bool) (a b : A) → P a → P b → P (cond t a b)
either P true a b p q = p
either P false a b p q = q

-- the same, where each branch goes by what the test says
pub by_branch : {A : Type 0} (P : A → Type 0) (t : Bool) (a b : A) → (t ≡ true → P a) → (t ≡ false → P b) → P (cond t a b)
by_branch P true a b p q = p refl
by_branch P false a b p q = q refl

-- a function of a choice
pub cond_of : {A B : Type 0} (f : A → B) (t : Bool) (a b : A) → f (cond t a b) ≡ cond t (f a) (f b)
cond_of f true a b = refl
cond_of f false a b = refl

-- a choice that is not its second branch is its first, and the other way round
pub cond-taken : {A : Type 0} (t : Bool) (a b : A) {c : A} → cond t a b ≡ c → (b ≡ c → ⊥) → (t ≡ true) × (a ≡ c)
cond-taken true a b e n = (refl, e)
cond-taken false a b e n = absurd (n e)

pub cond-left : {A : Type 0} (t : Bool) (a b : A) {c : A} → cond t a b ≡ c → (a ≡ c → ⊥) → (t ≡ false) × (b ≡ c)
cond-left true a b e n = absurd (n e)
cond-left false a b e n = (refl, e)

-- what is given where a test holds alone is not given where it fails; the library's `cond_some` is of the other case
pub cond_none : {A : Type 0} (t : Bool) (x : A) → cond t (Some x) None ≡ None → t ≡ false
cond_none true x e = absurd (none-some x (sym e))
cond_none false x e = refl

-- a choice whose branches a flag tells apart
pub flag-taken : {A : Type 0} (flag : A → Bool) (t : Bool) (a b : A) {c : A} → c ≡ cond t a b → flag b ≡ false → flag c ≡ true → (t ≡ true) × (c ≡ a)
flag-taken flag true a b e h k = (refl, e)
flag-taken flag false a b e h k = absurd (false≢true (sym h ∙ (ap flag (sym e) ∙ k)))

pub flag-left : {A : Type 0} (flag : A → Bool) (t : Bool) (a b : A) {c : A} → c ≡ cond t a b → flag a ≡ true → flag c ≡ false → t ≡ false
flag-left flag true a b e h k = absurd (false≢true (sym k ∙ (ap flag e ∙ h)))
flag-left flag false a b e h k = refl
