-- `answer_lines::lines::put_record` meets its contract: the line that its kind has, or none.
-- Assumes nothing.
use Prim.Native.Nat.{◌≤◌}
use mathlib.Core.Logic.{inl, inr}
use mathlib.Core.Path.{◌≡◌, ap, sym, ◌∙◌}
use native.Mathlib.Omega.{arith}
use lib.ListN.{length}
use Rattle.frames.specs.Bytes.{byte}
use Rattle.text.proofs.Kept.{puts_none}
use Rattle.answer_lines.proofs.LineLaws.{kind-there, line-telegram, line-contact, line_other}
use Rattle.answer_lines.proofs.lines.put_record.Goals as goal
use Rattle.answer_lines.proofs.lines.put_record.Goals.{After-shared_slice_known-then-bytes-ge8-1, After-shared_slice_known-then-kind-eq1-1}

-- a telegram, and so there are the bytes before it
telegram : (c : After-shared_slice_known-then-kind-eq1-1) → byte c.args.bytes.now 4 ≡ 1
telegram c = sym c.byte-kind.ensures ∙ c.if-kind-eq1.true

long : (c : After-shared_slice_known-then-kind-eq1-1) → 5 ≤ length c.args.bytes.now
long c = kind-there c.args.bytes.now (telegram c)

-- a contact
contact : (c : After-shared_slice_known-then-bytes-ge8-1) → byte c.args.bytes.now 4 ≡ 2
contact c = sym c.byte-kind.ensures ∙ c.if-contact.true

pub bounds-bytes-3 : goal.bounds-bytes-3
bounds-bytes-3 c = omega (arith, kind-there c.args.bytes.now (sym c.byte-kind.ensures ∙ c.if-kind-eq1.true))

pub slice_bounds-put_telegram-count : goal.slice_bounds-put_telegram-count
slice_bounds-put_telegram-count c = omega (arith, long (goal.at.slice_bounds-put_telegram-count c).After-shared_slice_known-then-kind-eq1-1)

pub slice_bounds-put_telegram-start : goal.slice_bounds-put_telegram-start
slice_bounds-put_telegram-start c = omega (arith, long (goal.at.slice_bounds-put_telegram-start c).After-shared_slice_known-then-kind-eq1-1)

pub put_telegram-requires : goal.put_telegram-requires
put_telegram-requires c =
    let d = c in
    omega (arith, ap length (line-telegram d.args.bytes.now (telegram (goal.at.put_telegram-requires c).After-shared_slice_known-then-kind-eq1-1)))

pub returns-then-kind-eq1 : goal.returns-then-kind-eq1
returns-then-kind-eq1 c = rw (line-telegram _ (telegram (goal.at.returns-then-kind-eq1 c).After-shared_slice_known-then-kind-eq1-1)) c.put_telegram.ensures

pub put_contact-requires : goal.put_contact-requires
put_contact-requires c =
    let d = c in
    omega (arith, ap length (line-contact d.args.bytes.now (contact (goal.at.put_contact-requires c).After-shared_slice_known-then-bytes-ge8-1) d.if-bytes-ge8.true))

pub returns-then-bytes-ge8 : goal.returns-then-bytes-ge8
returns-then-bytes-ge8 c =
    let d = c in
    rw (line-contact _ (contact (goal.at.returns-then-bytes-ge8 c).After-shared_slice_known-then-bytes-ge8-1) d.if-bytes-ge8.true) c.put_contact.ensures

pub returns-else-bytes-ge8 : goal.returns-else-bytes-ge8
returns-else-bytes-ge8 c = rw (line_other _ (λ e. c.if-kind-eq1.false (c.byte-kind.ensures ∙ e)) (inr c.if-bytes-ge8.false)) (puts_none _ _)

pub returns-else-contact : goal.returns-else-contact
returns-else-contact c =
    let e = c.byte-kind.ensures in
    rw (line_other _ (λ f. c.if-kind-eq1.false (e ∙ f)) (inl (λ f. c.if-contact.false (e ∙ f)))) (puts_none _ _)
