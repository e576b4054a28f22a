-- `telegram_copies::copying::put_four` meets its contract: four stores, by hundreds.
-- Assumes nothing.
use Prim.Native.Nat.{ℕ, ◌+◌, ◌/◌, ◌%◌}
use mathlib.Core.List.{List}
use mathlib.Core.Path.{◌≡◌}
use native.Mathlib.Omega.{arith}
use lib.ListN.{set}
use lib.Seq.{sets}
use Rattle.numerals.specs.Digits.{digits_of}
use Rattle.telegram_forms.proofs.Kept.{put_digits}
use Rattle.telegram_copies.proofs.copying.put_four.Goals as goal

-- four digits, by hundreds
put_hundreds : (t : List ℕ) (at v : ℕ)
    → set (set (set (set t at (48 + v / 100 % 100 / 10)) (at + 1) (48 + v / 100 % 100 % 10)) (at + 2) (48 + v % 100 / 10)) (at + 3) (48 + v % 100 % 10)
    ≡ sets t at (digits_of 4 v)
put_hundreds t at v =
    let a : v / 100 % 100 / 10 ≡ v / 10 / 10 / 10 % 10 = omega arith in
    let b : v / 100 % 100 % 10 ≡ v / 10 / 10 % 10 = omega arith in
    let c : v % 100 / 10 ≡ v / 10 % 10 = omega arith in
    let d : v % 100 % 10 ≡ v % 10 = omega arith in
    rw (a, b, c, d) (put_digits 4 t at v)

pub returns : goal.returns
returns c = put_hundreds _ _ _
