-- What the rules give for an entry that is a plan, and what the reader of plans answers.
-- Assumes nothing.
use Prim.Native.Nat.{ℕ}
use mathlib.Core.List.{List}
use mathlib.Core.Bool.{true, false}
use mathlib.Core.Path.{◌≡◌, refl, sym}
use Rattle.std.specs.Prelude.{Ok}
use Rattle.laws.specs.Table.{pick}
use Rattle.std.specs.Prelude.{Some, None}
use Rattle.std.proofs.lemmas.Option.{cond_some}
use Rattle.laws.proofs.Tests.{cond_none}
use Rattle.plans.specs.Planned.{plan_of}
use Rattle.set_rules.specs.Entries.{plan_in, entry_kind}
use Rattle.set_rules.specs.Plan.{plan_ok, set_of}
use Rattle.set_rules.specs.Refusals.{first_of, refusal_of}
use Rattle.set_rules.specs.SetRules.{accepted_by, accepted, on_plan}
use Rattle.set_rules.specs.Feeds.{refuse, emit, outcome_of}
use Rattle.set_state.specs.declared.state.Entry.TheVariants.{Plan}
use Rattle.set_state.specs.declared.state.LineSet.{LineSet}

module _ (s : LineSet) (e : List ℕ) (room : ℕ) (h : s.planned ≡ false) where
  pub plan_bad : plan_ok (plan_in e) ≡ false → refuse 6 s ≡ outcome_of s e (Ok Plan) room
  unfolding outcome_of refusal_of first_of entry_kind
  plan_bad o = sym (rw (h, o) refl)

  pub plan_good : plan_ok (plan_in e) ≡ true → emit s (on_plan (plan_in e)) room ≡ outcome_of s e (Ok Plan) room
  unfolding outcome_of refusal_of first_of accepted accepted_by pick entry_kind
  plan_good o = sym (rw (h, o) refl)

-- ---- what the reader of plans answers

pub plan_read : (p : List ℕ) (t : LineSet) → plan_of p ≡ Some t → (plan_ok p ≡ true) × (t ≡ set_of p)
unfolding plan_of
plan_read p t e = let f = cond_some (plan_ok p) (set_of p) t e in (f.0, sym f.1)

pub plan_missing : (p : List ℕ) → plan_of p ≡ None → plan_ok p ≡ false
unfolding plan_of
plan_missing p e = cond_none (plan_ok p) (set_of p) e
