-- `records::writer::put_head` meets its contract: five stores.
-- Assumes nothing.
use Prim.Native.Nat.{◌-◌, ◌/◌, ◌%◌}
use mathlib.Core.Path.{◌≡◌, refl}
use native.Mathlib.Omega.{arith}
use Rattle.records.specs.Emitting.{written}
use Rattle.records.proofs.writer.put_head.Goals as goal

pub returns : goal.returns
unfolding written
returns c =
    let size = c.args.size in
    let high : (size - 2) / 256 ≡ 0 = omega arith in
    let low : (size - 2) % 256 ≡ size - 2 = omega arith in
    rw (high, low) refl
