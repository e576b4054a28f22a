-- What a channel sends, send by send: the records of the first and of the others.
-- Assumes nothing.
use Prim.Native.Nat.{ℕ, ◌+◌, ◌≤◌, ◌<◌}
use mathlib.Core.List.{List, [], ◌∷◌}
use mathlib.Core.Path.{◌≡◌, refl}
use native.Mathlib.Numerals.{add-one}
use lib.ListN.{length, drop, get_or, drop_of_length-le}
use lib.Seq.{drop-cons}
use Rattle.channel.specs.declared.state.Send.{Send}
use Rattle.set_rules.specs.Records.{delivered, records_of}
use Rattle.set_state.specs.declared.state.Desk.{Desk}
use Rattle.set_rules.specs.RecordLaws.{without_lowest}
use Rattle.bodies.specs.Bodies.{delivery_of}
use Rattle.records.specs.Promises.{ToNobody, Split}
use Rattle.records.proofs.RecordLaws.{each_none, records-one}

pub nobody : ToNobody
unfolding without_lowest
nobody ds v h = each_none 8 0 ds v h

pub send_turn : (ds : List Desk) (ch : ℕ) (ss : List Send) (k : ℕ) (z : Send) → k < length ss
    → Split (records_of ds (delivered ds ch (drop k ss))) (records_of ds (delivery_of ds ch (get_or ss k z) ∷ [])) (records_of ds (delivered ds ch (drop (k + 1) ss)))
unfolding records_of delivered
send_turn ds ch ss k z h = record { parts = rw (add-one, drop-cons ss k z h, records-one) refl }

pub send_end : (ds : List Desk) (ch : ℕ) (ss : List Send) (k : ℕ) → length ss ≤ k → records_of ds (delivered ds ch (drop k ss)) ≡ []
unfolding records_of delivered
send_end ds ch ss k h = rw (drop_of_length-le ss h) refl
