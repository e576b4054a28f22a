-- `fields::lists::read_fields` meets its contract. The invariant: the bytes are the fields exactly when those from `at` on
-- are the fields from `i` on, and the array then lacks only the numbers of these.
-- Assumes nothing.
use Prim.Native.Nat.{ℕ, ◌≤◌, ◌-◌, ◌+◌}
use mathlib.Core.List.{List}
use mathlib.Core.Bool.{true, false}
use mathlib.Core.Path.{◌≡◌, sym, ◌∙◌}
use native.Mathlib.Omega.{arith}
use native.Mathlib.Numerals.{add-one}
use lib.ListN.{length, take, drop, get_or, length-set}
use borrow.Author.Tests.{eq-eqb, ne_eqb}
use Rattle.std.specs.Prelude.{None}
use Rattle.fields.specs.Fields.{field_in, body_ok, values_in}
use Rattle.fields.specs.Held.{field_of, fields_of, padded, fields_in}
use Rattle.fields.specs.declared.rules.Field.{Field as Named}
use Rattle.fields.specs.declared.rules.Field.TheVariants.{Length}
use Rattle.fields.proofs.FieldLaws.{values_at, body-on, body-short, body-bad, body_end, field_found, field-bad, fields_in_lem, fields_many}
use Rattle.fields.proofs.lists.read_fields.Goals as goal
use Rattle.fields.proofs.lists.read_fields.Goals.{After-read_field}

-- bytes that are not the fields
refused : (ks : List Named) (s : List ℕ) → length ks ≤ 11 → body_ok (fields_of ks) 0 0 s ≡ false → None ≡ fields_in (fields_of ks) s
refused ks s l e = sym (fields_in_lem ks s l ∙ simp e)

-- what the part of the field at i reads as
part_read : (c : After-read_field) → let l = c.loop-i in let k = field_of (get_or c.args.fields.now l.i Length) in
    field_in k l.y l.m (take k.width (drop l.at c.args.s.now)) ≡ c.read_field.result
part_read c =
    let l = c.loop-i in
    let k = field_of (get_or c.args.fields.now l.i Length) in
    let q : l.at + k.width - l.at ≡ k.width = omega arith in
    sym (rw (c.width-w.ensures, q) at c.read_field.ensures)

pub returns-then-fields-gt11 : goal.returns-then-fields-gt11
returns-then-fields-gt11 c = sym (fields_many c.args.fields.now c.args.s.now c.if-fields-gt11.true)

pub returns-then-s-at : goal.returns-then-s-at
returns-then-s-at c =
    let l = c.loop-i in
    let e = l.invariant.2 ∙ body-short c.args.fields.now c.args.s.now l.i l.at l.y l.m (omega arith) (omega arith) in
    refused c.args.fields.now c.args.s.now (omega arith) e

pub returns-in_err-v : goal.returns-in_err-v
returns-in_err-v c =
    let l = c.loop-i in
    let ks = c.args.fields.now in
    let k = field_of (get_or ks l.i Length) in
    let d = part_read (goal.at.returns-in_err-v c).After-read_field ∙ c.in_err-v.was in
    let e = l.invariant.2 ∙ body-bad ks c.args.s.now l.i l.at l.y l.m (omega arith) (field-bad k _ _ _ d) in
    c.from_residual.ensures ∙ refused ks c.args.s.now (omega arith) e

pub loop-i-preserved : goal.loop-i-preserved
loop-i-preserved c =
    let l = c.loop-i in
    let ks = c.args.fields.now in
    let s = c.args.s.now in
    let k = field_of (get_or ks l.i Length) in
    let f = field_found k _ _ _ c.in_ok-v.v (part_read (goal.at.loop-i-preserved c).After-read_field ∙ c.in_ok-v.was) in
    let i : l.i ≤ length ks = omega arith in (
      omega arith,
      simp length-set l.invariant.1,
      l.invariant.2 ∙ body-on ks s l.i l.at l.y l.m (omega arith) (omega arith) f.0 ∙ rw (f.1, c.width-w.ensures),
      l.invariant.3 ∙ rw (values_at ks s l.i l.at l.y l.m (omega arith), f.1, c.width-w.ensures, add-one),
    )

pub returns-then-at-s : goal.returns-then-at-s
returns-then-at-s c =
    let l = c.loop-i in
    let ks = c.args.fields.now in
    let s = c.args.s.now in
    let b = body_end ks s l.i l.at l.y l.m (omega arith) in
    refused ks s (omega arith) (l.invariant.2 ∙ b.0 ∙ ne_eqb (length s - l.at) 0 (omega arith))

pub returns : goal.returns
returns c =
    let l = c.loop-i in
    let ks = c.args.fields.now in
    let s = c.args.s.now in
    let b = body_end ks s l.i l.at l.y l.m (omega arith) in
    let e : body_ok (fields_of ks) 0 0 s ≡ true = l.invariant.2 ∙ b.0 ∙ eq-eqb (length s - l.at) 0 (omega arith) in
    let p : padded (values_in (fields_of ks) s) ≡ l.values = l.invariant.3 ∙ rw b.1 in
    let n : length ks ≤ 11 = omega arith in
    rw (fields_in_lem ks s n, e, p)
