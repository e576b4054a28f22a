-- `records::prepared::Prepared::put_each` meets its contract. The invariant: the records to the desks from place d on are left, and m is the set
-- without the places before.
-- Assumes nothing.
use Prim.Native.Nat.{◌-◌}
use mathlib.Core.List.{[], ◌∷◌}
use mathlib.Core.Path.{◌≡◌}
use Rattle.set_rules.specs.Records.{to_each, records_of}
use Rattle.set_rules.specs.RecordLaws.{without_lowest}
use Rattle.bodies.specs.Bodies.{delivery}
use Rattle.records.specs.Promises.{Writing}
use Rattle.records.proofs.prepared.Prepared.put_each.Given as goal

abbrev pub invariant-loop-d : goal.invariant-loop-d
invariant-loop-d l = Writing l.initial.buffer l.at (records_of l.desks (delivery l.desks l.recipients l.self.body ∷ [])) l.buffer l.p (to_each (8 - l.d) l.d l.desks (delivery l.desks l.recipients l.self.body)) × (l.m ≡ without_lowest l.d l.recipients)
