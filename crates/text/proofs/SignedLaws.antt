-- Laws of numbers that may be below zero.
-- Assumes nothing.
use mathlib.Core.List.{[], ◌∷◌, ◌++◌}
use mathlib.Core.Bool.{Bool, cond}
use mathlib.Core.Path.{◌≡◌, sym, ap, ◌∙◌}
use native.Mathlib.Omega.{arith}
use lib.IntN.{ℤ, pos, negsuc, nat_abs}
use lib.Signed.{lt_z}
use borrow.Author.Tests.{le-ltb}
use mir.Syntax.{w64}
use mir.Val.{SFits, to_z, of_z}
use mir.Facts.{to_z-of_z}
use Rattle.text.specs.Decimal.{decimal, signed}

-- the sign that is asked for is the one that there is, and then comes the size
signed_of : (z : ℤ) (b : Bool) → lt_z z (pos 0) ≡ b → signed z ≡ cond b (45 ∷ []) [] ++ decimal (nat_abs z)
unfolding signed
signed_of (pos n) b e = rw (← e, le-ltb n 0 (omega arith))
signed_of (negsuc n) b e = rw (← e)

-- a number as the machine reads it back from its bits
abbrev pub back : ℤ → ℤ
back z = to_z w64 (of_z w64 z)

-- the same of what the code tests and measures
pub signed_is : (z : ℤ) (b : Bool) → SFits w64 z → lt_z (back z) (pos 0) ≡ b → signed z ≡ cond b (45 ∷ []) [] ++ decimal (nat_abs (back z))
signed_is z b s e = ap signed (sym (to_z-of_z s)) ∙ signed_of (back z) b e
