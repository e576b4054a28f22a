-- `judging::judging::judge_press` meets its contract: what a cut is refused with comes first.
-- Assumes nothing.
use Prim.Native.Nat.{ℕ}
use mathlib.Core.Bool.{Bool, true, false, not, cond}
use mathlib.Core.Path.{◌≡◌, sym, ap, ◌∙◌}
use Rattle.std.proofs.lemmas.Result.{err_from_is_err_and}
use Rattle.channel.specs.State.{held_by}
use Rattle.set_state.specs.Entry.{refusal_in}
use Rattle.set_state.proofs.Kept.{numbered_from_one}
use Rattle.judging.specs.Judging.{usable}
use Rattle.judging.proofs.judging.judge_press.Goals as goal

-- a refusal of a cut, by whether the desk may use the channel and holds it, is that of a press
refused : (u h : Bool) (again n : ℕ) → n ≡ cond (not u) 12 (cond (not h) 14 0) → (n ≡ 0 → ⊥) → n ≡ cond (not u) 12 (cond (not h) 14 again)
refused true true again n e z = absurd (z e)
refused true false again n e z = e
refused false h again n e z = e

pub returns-in_err-judge_cut : goal.returns-in_err-judge_cut
returns-in_err-judge_cut c =
    let a = c.args in
    let p = err_from_is_err_and c.from_residual.result c.from_residual.ensures.1 in
    rw (p.1, p.2)
    (refused (usable a.d a.found a.c) (held_by a.d a.c.holder) _ _ (sym (ap refusal_in c.in_err-judge_cut.was) ∙ c.judge_cut.ensures) (numbered_from_one c.in_err-judge_cut.field-0.0))
