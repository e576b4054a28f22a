-- The answer to an entry that is a plan, by the bytes of the plan alone.
use Rattle.std.specs.Prelude.{ℕ, List, false, ◌≡◌, length, Result, Ok, Err, unwrap_or}
use Rattle.plans.specs.Planned.{plan_of}
use Rattle.set_rules.specs.Entries.{plan_in}
use Rattle.set_rules.specs.Feeds.{Gives, outcome_of}
use Rattle.set_state.specs.State.{new_set}
use Rattle.set_state.specs.declared.state.Answer.{Answer}
use Rattle.set_state.specs.declared.state.Entry.TheVariants.{Plan}
use Rattle.set_state.specs.declared.state.LineSet.{LineSet}
use Rattle.set_state.specs.declared.state.Refusal.{Refusal}

-- an answer whose set t takes the place of s unless it is a refusal
abbrev pub settled : LineSet → LineSet → Result ℕ Refusal → Answer
settled s t (Ok n) = record { set = t; reply = Ok n }
settled s t (Err n) = record { set = s; reply = Err n }

-- the set is the one that was read, or a new one, and the answer that of every set without a plan
abbrev pub PlanGives : List ℕ → Answer → List ℕ → List ℕ → Type 0
PlanGives plan r before after =
    r.set ≡ unwrap_or (plan_of plan) new_set
    × ((s : LineSet) (e : List ℕ) → s.planned ≡ false → plan_in e ≡ plan
    → Gives (outcome_of s e (Ok Plan) (length before)) (settled s r.set r.reply) before after)
