-- `answer_lines::lines::put_letter` meets its contract: two stores.
-- Assumes nothing.
use Prim.Native.Nat.{◌+◌, suc}
use mathlib.Core.Path.{◌≡◌, refl}
use native.Mathlib.Omega.{arith}
use lib.ListN.{length-set}
use Rattle.text.specs.Written.{written}
use Rattle.answer_lines.proofs.lines.put_letter.Goals as goal

pub bounds-text-at-2 : goal.bounds-text-at-2
bounds-text-at-2 c = simp length-set (omega arith)

pub returns : goal.returns
unfolding written
returns c =
    let p : c.args.at + 1 ≡ suc c.args.at = omega arith in
    record { text = rw p; place = refl }
