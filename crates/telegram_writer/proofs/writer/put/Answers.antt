-- `telegram_writer::writer::put` meets its contract: the message's form, under the code.
-- Assumes nothing.
use mathlib.Core.Path.{◌∙◌, ap}
use native.Mathlib.Omega.{arith}
use lib.ListN.{length}
use Rattle.telegram.proofs.Kept.{size-most}
use Rattle.telegram_forms.proofs.Kept.{length-padded, form_over}
use Rattle.telegram_writer.proofs.writer.put.Goals as goal

pub put_form-requires : goal.put_form-requires
put_form-requires c =
    let e = c.size-n.ensures in
    let st = c in
    let long = ap length c.form-bytes.ensures ∙ length-padded _ in
    (omega (arith, e, size-most st.args.message, long), omega (arith, e, st.requires), omega (arith, st.requires))

pub returns : goal.returns
returns c =
    let size = c.size-n.ensures in
    let st = c in
    record { value = size; buffer_after = c.put_form.ensures ∙ rw (size, c.form-bytes.ensures) (form_over _ _ _ st.requires) }
