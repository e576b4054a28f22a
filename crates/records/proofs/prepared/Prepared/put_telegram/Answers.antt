-- `records::prepared::Prepared::put_telegram` meets its contract: the form under the desk's code, and then its own number.
-- Assumes nothing.
use mathlib.Core.Path.{◌∙◌, sym}
use Rattle.bodies.proofs.Kept.{as_telegram}
use Rattle.records.proofs.RecordLaws.{formed, told}
use Rattle.records.proofs.prepared.Prepared.put_telegram.Goals as goal

pub returns : goal.returns
returns c =
    let st = c in
    let self = st.args.self.now in
    let t = as_telegram self.body (sym self.shaped ∙ st.requires.0) in
    c.put_own.ensures ∙ told t _ _ _ _ (formed t st.args.desk.code st.args.part.now self.formed st.requires.1 c.put_form.ensures)
