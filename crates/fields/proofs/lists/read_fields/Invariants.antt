-- `fields::lists::read_fields` meets its contract. The invariant: the bytes are the fields exactly when those from `at` on
-- are the fields from `i` on, and the array then lacks only the numbers of these.
-- Assumes nothing.
use Prim.Native.Nat.{◌≤◌}
use mathlib.Core.Path.{◌≡◌}
use lib.ListN.{length, drop}
use lib.Seq.{sets}
use Rattle.fields.specs.Fields.{body_ok, values_in}
use Rattle.fields.specs.Held.{fields_of, padded}
use Rattle.fields.proofs.lists.read_fields.Given as goal

abbrev pub invariant-loop-i : goal.invariant-loop-i
invariant-loop-i l =
    (l.at ≤ length l.s)
    × (length l.values ≡ 11)
    × (body_ok (fields_of l.fields) 0 0 l.s ≡ body_ok (fields_of (drop l.i l.fields)) l.y l.m (drop l.at l.s))
    × (padded (values_in (fields_of l.fields) l.s) ≡ sets l.values l.i (values_in (fields_of (drop l.i l.fields)) (drop l.at l.s)))
