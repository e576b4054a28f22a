-- Refused bytes, plans, ticks and handovers: what the rules give for each.
-- Assumes nothing.
use Prim.Native.Nat.{ℕ, ◌≤◌}
use mathlib.Core.List.{List}
use mathlib.Core.Bool.{true, false}
use mathlib.Core.Path.{◌≡◌, refl, sym, ap, ◌∙◌}
use lib.ListN.{length}
use Rattle.std.specs.Prelude.{Ok, Err}
use borrow.Author.Tests.{ne_eqb}
use Rattle.laws.specs.Table.{pick}
use Rattle.set_rules.specs.Entries.{ReadEntry, read_entry, entry_kind}
use Rattle.set_rules.specs.Refusals.{first_of, refusal_of}
use Rattle.set_rules.specs.SetRules.{accepted_by, accepted, on_tick, on_handover}
use Rattle.set_rules.specs.Feeds.{refuse, emit, outcome_of, step_of}
use Rattle.set_state.specs.Entry.{number_of, refusal_in}
use Rattle.set_state.specs.declared.state.Refusal.{Refusal}
use Rattle.set_state.specs.declared.state.Entry.{Entry}
use Rattle.set_state.specs.declared.state.Entry.TheVariants.{Tick, Plan, Handover}
use Rattle.set_state.specs.declared.state.LineSet.{LineSet}
use Rattle.set_state.proofs.Kept.{numbered_from_one}
use Rattle.line_set.proofs.Lengths.{long_enough}

pub refused-read : (s : LineSet) (e : List ℕ) (r : Refusal) (room : ℕ) → refuse (number_of r) s ≡ outcome_of s e (Err r) room
unfolding outcome_of refusal_of
refused-read s e r room = sym (rw (ne_eqb _ 0 (numbered_from_one r), ne_eqb _ 0 (numbered_from_one r)) refl)

-- ---- what was read from the bytes e

module _ (s : LineSet) (e : List ℕ) (x : ReadEntry) (is : read_entry e ≡ x) where
  pub as_step : (room : ℕ) → outcome_of s e x room ≡ step_of s e room
  unfolding step_of
  as_step room = ap (λ (y : ReadEntry). outcome_of s e y room) (sym is)

  pub plan_starts : x ≡ Ok Plan → 4 ≤ length e
  plan_starts h = long_enough e (ap (λ (y : ReadEntry). refusal_in y) (is ∙ h))

module _ (s : LineSet) (e : List ℕ) (room : ℕ) where
  pub plan_present : s.planned ≡ true → refuse 5 s ≡ outcome_of s e (Ok Plan) room
  unfolding outcome_of refusal_of first_of entry_kind
  plan_present h = sym (rw h refl)

  -- a tick or a handover before there is a plan
  pub unplanned : (y : Entry) → (entry_kind (Ok y) ≡ 7 → ⊥) → s.planned ≡ false → refuse 4 s ≡ outcome_of s e (Ok y) room
  unfolding outcome_of refusal_of first_of
  unplanned y n h = sym (rw (h, ne_eqb _ 7 n) refl)

  pub tick-step : s.planned ≡ true → emit s (on_tick s) room ≡ outcome_of s e (Ok Tick) room
  unfolding outcome_of refusal_of first_of accepted accepted_by pick entry_kind
  tick-step h = sym (rw h refl)

  pub handover_step : s.planned ≡ true → emit s (on_handover s) room ≡ outcome_of s e (Ok Handover) room
  unfolding outcome_of refusal_of first_of accepted accepted_by pick entry_kind
  handover_step h = sym (rw h refl)
