-- Records that fit, at the front of a buffer, as the outcome gives them.
-- Assumes nothing.
use Prim.Native.Nat.{ℕ, ◌≤◌}
use mathlib.Core.List.{List}
use mathlib.Core.Path.{◌≡◌, ap, ap₂, ◌∙◌}
use native.Mathlib.Omega.{arith}
use lib.ListN.{length}
use borrow.Author.Tests.{le-leb}
use Rattle.set_rules.specs.Records.{records_of, space_of}
use Rattle.set_rules.specs.RecordLaws.{accepted_with}
use Rattle.set_rules.specs.SetRules.{Effect}
use Rattle.set_rules.specs.Feeds.{numbers_in}
use Rattle.set_state.specs.declared.state.Answer.{Answer}
use Rattle.set_state.specs.declared.state.LineSet.{LineSet}
use Rattle.set_rules.proofs.Kept.{space-length}
use Rattle.records.specs.Promises.{Emitted, PutFirst}
use Rattle.records.proofs.Writing.{written_over}

pub emitted : (s : LineSet) (f : Effect) (b : List ℕ) {r : Answer} {a : List ℕ} → Emitted s f b r a
emitted s f b h e w k =
    let l : length (records_of f.desks f.sent) ≤ length b = omega (arith, h, space-length f.desks f.sent e) in
    rw (le-leb (space_of f.sent) (length b) h) (record { answer = ap numbers_in k; bytes = w ∙ written_over b _ l })

pub put_first : (s : LineSet) (f : Effect) (b : List ℕ) {t : LineSet} {at : ℕ} {a : List ℕ} → PutFirst s f b t at a
put_first s f b h e p k = emitted s f b h e p.1 (ap₂ accepted_with k (omega (arith, p.0, space-length f.desks f.sent e)))
