-- `fields::lists::all_in` meets its contract. The invariant: all fields are in range exactly when those from `i` on are.
-- Assumes nothing.
use mathlib.Core.Path.{◌≡◌}
use lib.ListN.{drop}
use Rattle.fields.specs.Fields.{all_in}
use Rattle.fields.specs.Held.{fields_of}
use Rattle.fields.proofs.lists.all_in.Given as goal

abbrev pub invariant-loop-i : goal.invariant-loop-i
invariant-loop-i l = all_in (fields_of l.fields) 0 0 l.values ≡ all_in (fields_of (drop l.i l.fields)) l.y l.m (drop l.i l.values)
