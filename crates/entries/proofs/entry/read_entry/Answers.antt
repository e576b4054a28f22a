-- `entries::entry::read_entry` meets its contract: the length, the version and the payload, in that order.
-- Assumes nothing.
use Prim.Native.Nat.{ℕ, ◌+◌, ◌≤◌}
use mathlib.Core.List.{List}
use mathlib.Core.Bool.{true, ◌&&◌}
use mathlib.Core.Path.{refl, ◌≡◌, sym, ◌∙◌}
use native.Mathlib.Omega.{arith}
use lib.Dec.{eqb, leb}
use lib.ListN.{length}
use borrow.Author.Tests.{leb-true, eq-eqb, ne_eqb}
use Rattle.laws.proofs.Tests.{both}
use Rattle.frames.specs.Bytes.{word}
use Rattle.set_rules.specs.Entries.{measured, read_entry}
use Rattle.entries.specs.Payloads.{payload_in}
use Rattle.entries.proofs.entry.read_entry.Goals as goal

-- an entry with a right length has a version and a kind
long : (e : List ℕ) → measured e ≡ true → 4 ≤ length e
long e h = leb-true 4 (length e) (both (leb 4 (length e)) (eqb (word e 0 + 2) (length e)) (both (leb 4 (length e) && eqb (word e 0 + 2) (length e)) (leb (word e 0) 12000) h).0).0

pub returns-then-not-is_measured : goal.returns-then-not-is_measured
unfolding read_entry
returns-then-not-is_measured c = rw (sym c.is_measured.ensures ∙ c.if-not-is_measured.true) refl

pub bounds-entry-2 : goal.bounds-entry-2
bounds-entry-2 c = omega (arith, long c.args.entry.now (sym c.is_measured.ensures ∙ c.if-not-is_measured.false))

pub returns-then-other : goal.returns-then-other
unfolding read_entry
returns-then-other c =
    rw (sym c.is_measured.ensures ∙ c.if-not-is_measured.false, ne_eqb _ _ c.if-other.true) refl

pub bounds-entry-3 : goal.bounds-entry-3
bounds-entry-3 c = omega (arith, long c.args.entry.now (sym c.is_measured.ensures ∙ c.if-not-is_measured.false))

pub returns : goal.returns
unfolding read_entry payload_in
returns c =
    rw (sym c.is_measured.ensures ∙ c.if-not-is_measured.false, eq-eqb _ _ c.if-other.false) c.read_payload.ensures
