-- `text::put_bytes` meets its contract: the part that they take is theirs.
-- Assumes nothing.
use Prim.Native.Nat.{◌+◌, ◌-◌}
use mathlib.Core.List.{append_assoc}
use mathlib.Core.Path.{◌≡◌, refl}
use native.Mathlib.Omega.{arith}
use lib.ListN.{length}
use lib.Seq.{sets-eq, drop-drop}
use Rattle.text.specs.Written.{written}
use Rattle.text.proofs.put_bytes.Goals as goal

pub returns : goal.returns
unfolding written
returns c =
    let at = c.args.at in
    let bs = c.args.bytes.now in
    let k : at + length bs - at ≡ length bs = omega arith in
    record { text = rw (k, c.copy_from_slice.ensures.after, sets-eq bs c.args.text.now at c.requires, drop-drop, append_assoc) refl; place = refl }
