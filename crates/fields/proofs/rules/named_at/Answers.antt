-- `fields::rules::named_at` meets its contract: each arm is its field's place in `numbered`.
-- Assumes nothing.
use Prim.Native.Nat.{ℕ, zero, suc, ◌≤◌}
use mathlib.Core.Path.{◌≡◌, refl, sym, ap}
use native.Mathlib.Omega.{arith}
use lib.ListN.{get_or, get_or-eq_default}
use Rattle.fields.specs.Fields.{Field, plain}
use Rattle.fields.specs.Held.{numbered}
use Rattle.fields.proofs.rules.named_at.Goals as goal

-- a place at which no rule stands
no_rule : (r : ℕ) → (1 ≤ r → 14 ≤ r) → (get_or numbered r (plain 0)).allows ≡ (plain 0).allows
no_rule zero h = refl
no_rule (suc r) h = ap (λ (f : Field). f.allows) (get_or-eq_default numbered (plain 0) {n = suc r} (h (omega arith)))

pub returns-in_default : goal.returns-in_default
returns-in_default c = record { named = refl; rule = sym (no_rule c.args.place (λ h. omega arith)) }
