-- Sends to nobody count for nothing: without them a channel's records are the same, and so is their space.
-- Assumes nothing.
use Prim.Native.Nat.{ℕ}
use mathlib.Core.List.{List, [], ◌∷◌}
use mathlib.Core.Bool.{Bool, true, false}
use mathlib.Core.Path.{◌≡◌, refl, sym, ap, ◌∙◌}
use native.Mathlib.Nat.{zero-mul, zero-add}
use lib.Count.{ones_in}
use lib.Dec.{eqb}
use borrow.Author.Tests.{eqb-true}
use Rattle.sends.specs.Scripts.{heard}
use Rattle.channel.specs.declared.state.Send.{Send}
use Rattle.set_rules.specs.Records.{delivered, records_of, space_of}
use Rattle.set_state.specs.declared.state.Desk.{Desk}
use Rattle.bodies.specs.Bodies.{delivery_of}
use Rattle.records.proofs.Kept.{nobody}
use Rattle.changes.specs.Promises.{SameSpace, SameRecords}

pub heard-records : (ds : List Desk) (ch : ℕ) (ss : List Send) → records_of ds (delivered ds ch (heard ss)) ≡ records_of ds (delivered ds ch ss)
unfolding heard delivered records_of
heard-records ds ch [] = refl
heard-records ds ch (s ∷ ss) = go (eqb s.recipients 0) refl (heard-records ds ch ss)
  where
    go : (t : Bool) → eqb s.recipients 0 ≡ t → records_of ds (delivered ds ch (heard ss)) ≡ records_of ds (delivered ds ch ss)
        → records_of ds (delivered ds ch (heard (s ∷ ss))) ≡ records_of ds (delivered ds ch (s ∷ ss))
    go true e r = rw (e, nobody ds (delivery_of ds ch s) (eqb-true _ 0 e)) r
    go false e r = rw (e, r)

no_ones : ones_in 8 0 ≡ 0
unfolding ones_in
no_ones = refl

pub heard-space : (ds : List Desk) (ch : ℕ) (ss : List Send) → space_of (delivered ds ch (heard ss)) ≡ space_of (delivered ds ch ss)
unfolding heard delivered space_of
heard-space ds ch [] = refl
heard-space ds ch (s ∷ ss) = go (eqb s.recipients 0) refl (heard-space ds ch ss)
  where
    go : (t : Bool) → eqb s.recipients 0 ≡ t → space_of (delivered ds ch (heard ss)) ≡ space_of (delivered ds ch ss)
        → space_of (delivered ds ch (heard (s ∷ ss))) ≡ space_of (delivered ds ch (s ∷ ss))
    go true e r = rw (e, eqb-true s.recipients 0 e, no_ones, zero-mul, zero-add) r
    go false e r = rw (e, r)

-- ---- sends that are heard alike

pub same-space : SameSpace
same-space ds ch ss ts h = sym (heard-space ds ch ss) ∙ (ap (λ (l : List Send). space_of (delivered ds ch l)) h ∙ heard-space ds ch ts)

pub same-records : SameRecords
same-records ds ch ss ts h = sym (heard-records ds ch ss) ∙ (ap (λ (l : List Send). records_of ds (delivered ds ch l)) h ∙ heard-records ds ch ts)
