-- `telegram_forms::digits::digits` meets its contract: a turn puts the last digit of what is left before those that are put.
-- Assumes nothing.
use Prim.Native.Nat.{suc, ◌+◌, ◌-◌}
use mathlib.Core.Path.{◌≡◌, refl, sym}
use native.Mathlib.Omega.{arith}
use Rattle.numerals.proofs.Kept.{digits-none}
use Rattle.telegram_forms.proofs.PutLaws.{put_before, shifted-out}
use Rattle.telegram_forms.proofs.digits.digits.Goals as goal

pub loop-k-init : goal.loop-k-init
loop-k-init g c =
    let none : g.row.W - g.row.W ≡ 0 = omega arith in
    record { put = rw (none, digits-none) refl; left = rw none refl }

pub loop-k-preserved : goal.loop-k-preserved
loop-k-preserved g c =
    let l = c.loop-k in
    let at = c.args.at in
    let place : at + l.k ≡ suc (at + (l.k - 1)) = omega (arith, c.loop-k-test.true) in
    let more : g.row.W - (l.k - 1) ≡ suc (g.row.W - l.k) = omega (arith, c.loop-k-test.true, l.auto.k) in
    record {
      put = rw (c.digit.ensures, l.invariant.put, l.invariant.left, place, more) (put_before (g.row.W - l.k) c.args.t (at + (l.k - 1)) c.args.v);
      left = rw (l.invariant.left, more) (sym (shifted-out (g.row.W - l.k) c.args.v));
    }
