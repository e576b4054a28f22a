-- `changes::link::answered` meets its contract: nothing is sent, and there is always room for it.
-- Assumes nothing.
use mathlib.Core.List.{List}
use mathlib.Core.Path.{sym, ap, ◌∙◌}
use native.Mathlib.Omega.{arith}
use Rattle.records.proofs.Kept.{written_none}
use Rattle.set_state.specs.State.{answered, linked_at, with_desks}
use Rattle.set_rules.specs.Records.{records_of, space_of}
use Rattle.set_rules.specs.SetRules.{answer_taken}
use Rattle.set_state.specs.declared.state.Desk.{Desk}
use Rattle.set_state.specs.declared.state.Link.{Link}
use Rattle.changes.specs.Changes.{set_with}
use Rattle.set_rules.specs.RecordLaws.{accepted_with}
use Rattle.records.proofs.Kept.{emitted}
use Rattle.changes.proofs.link.answered.Goals as goal

pub returns : goal.returns
unfolding space_of records_of
returns c = λ planned n cs k.
    let a = c.args in
    let b = a.buffer.now in
    let s = set_with planned a.desks n cs k in
    let l = c.answered-link.ensures ∙ ap (λ (j : Desk). answered a.state j.link) c.desk_at-desk.ensures in
    emitted s (answer_taken s a.d a.state) b (omega arith) tt (sym (written_none _ _))
    (ap (λ (ds : List Desk). accepted_with (with_desks ds s) 0) (c.linked-after.ensures ∙ ap (λ (j : Link). linked_at a.d (λ (i : Link). j) a.desks) l))
