-- `line_set::all::put_in` meets its contract: sends to nobody have no records.
-- Assumes nothing.
use Prim.Native.Nat.{ℕ, ◌+◌}
use mathlib.Core.List.{List}
use mathlib.Core.Path.{ap, ◌∙◌}
use lib.ListN.{length}
use Rattle.records.specs.Emitting.{written}
use Rattle.changes.proofs.Kept.{same-records}
use Rattle.line_set.proofs.all.put_in.Goals as goal

pub put-requires : goal.put-requires
put-requires c =
    let st = c in
    rw (same-records st.args.desks st.args.c.code _ _ c.moved-m.ensures.1) st.requires

pub returns : goal.returns
returns c =
    let a = c.args in
    let e = same-records a.desks a.c.code _ _ c.moved-m.ensures.1 in
    let put = c.put.ensures in
    (put.0 ∙ ap (λ (l : List ℕ). a.at + length l) e, put.1 ∙ ap (λ (l : List ℕ). written a.buffer.now a.at l) e)
