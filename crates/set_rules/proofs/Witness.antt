-- Isolation speaks of something: two different feeds that are related, in which desk 1 receives records; and it needs its condition on
-- ring answers. The row of the ticks speaks of something too.
-- Assumes nothing.
use Prim.Native.Nat.{ℕ}
use mathlib.Core.List.{List, [], ◌∷◌, ◌++◌, map}
use mathlib.Core.Path.{◌≡◌, refl, ap}
use native.Mathlib.Omega.{arith}
use lib.Count.{ones_in}
use lib.ListN.{get_or}
use Rattle.std.specs.Prelude.{Option}
use Rattle.numerals.specs.Digits.{digits_of, all_digits, value_from}
use Rattle.fields.specs.Fields.{body_ok, values_in, bytes_of}
use Rattle.telegram.specs.Telegram.{header_ok, read_telegram, telegram_of}
use Rattle.channel.specs.State.{is_in}
use Rattle.line_rules.specs.Rules.{capture, press_on, press_off, mobile_on, ring, answered, ring_answer, tick, tick_idle, tick_quiet, tick_release, happens}
use Rattle.set_state.specs.State.{new_set, place_of, running_from, desk_place}
use Rattle.set_state.specs.declared.state.LineSet.{LineSet}
use Rattle.laws.specs.Table.{pick}
use Rattle.set_rules.specs.Entries.{read_entry, entry_kind, entry_desk, entry_channel, entry_on, entry_base, entry_number, entry_called}
use Rattle.set_rules.specs.Plan.{desks_ok, desks_in, has_number, distinct, channels_ok, channels_in, plan_ok, set_of}
use Rattle.set_rules.specs.Refusals.{number_in, first_of, refusal_of}
use Rattle.set_rules.specs.Records.{delivered, to_each, records_of, space_of}
use Rattle.set_rules.specs.SetRules.{on_channel, sends_of, on_tick, accepted_by, accepted}
use Rattle.frames.specs.Frames.{frames_to}
use Rattle.set_rules.specs.Feeds.{Item, outcome_of, step_of, step_by, run, after, of_desk, views, Seen}
use Rattle.set_rules.specs.Spelling.{spelled, entry_of, lent, both_running, capture_entry, call_entry, ring_answer_entry}
use Rattle.set_rules.specs.Promises.{Renumbered, OtherSource, MayDiffer, same, talks, calls-other, other-answers, Alike, Related, ended, more}
use Rattle.set_rules.specs.Witness.{Speaks, SpeaksOfRings, AgreementNeeded, TicksMet}

-- an entry before one set is alike to itself
alone : (s : LineSet) (e : List ℕ) → Alike 1 s s e e
alone s e = record { may = same refl; agree = λ o c. refl }

-- feeds that begin alike
same_first : (s : LineSet) (f : List Item) {g g' : List Item} → Related 1 (after s f) (after s f) g g' → Related 1 s s (f ++ g) (f ++ g')
unfolding after
same_first s [] r = r
same_first s (i ∷ f) r = more (alone s i.entry) refl (same_first (step_by s i).after f r)

other : ◌≡◌ {A = ℕ} 0 1 → ⊥
other p = omega arith

-- the last digit of the mobile's number in the n-th entry
last_in : ℕ → List Item → ℕ
last_in n f = get_or (get_or f n (lent [])).entry 13 0

-- a byte of what a desk receives of the n-th entry
learnt : ℕ → ℕ → List Seen → ℕ
learnt n i vs = get_or (get_or vs n (record { refusal = 0; count = 0; records = [] })).records i 0

-- ---- a mobile talks under desk 0

talk-alike : Renumbered 4 (entry_of 4 (7 ∷ 3 ∷ digits_of 8 990007)) (entry_of 4 (7 ∷ 3 ∷ digits_of 8 990008))
unfolding digits_of all_digits value_from
talk-alike = record { kind-is = refl; bytes = record { long = refl; front = refl; back = refl }; callers = λ z. refl }

-- In what the seventh entry sends, the number of the 550464 ends behind a contact of 8 bytes and 5, 16 and 14 more.
pub witness : Speaks
unfolding last_in learnt spelled ones_in digits_of all_digits value_from body_ok values_in bytes_of header_ok read_telegram telegram_of is_in capture mobile_on happens place_of running_from read_entry desks_ok desks_in has_number distinct channels_ok channels_in plan_ok set_of first_of refusal_of delivered to_each records_of space_of on_channel pick accepted_by accepted outcome_of step_of after frames_to of_desk views entry_kind entry_desk entry_channel entry_on entry_base entry_number entry_called
witness = record {
  related =
      same_first new_set (map lent (both_running ++ (capture_entry 7 ∷ [])))
      (more (record { may = talks talk-alike other; agree = λ o c. refl }) refl ended);
  differ = λ p. let q : ◌≡◌ {A = ℕ} 55 56 = ap (last_in 6) p in omega arith;
  receives = refl;
  learns = λ p. let q : ◌≡◌ {A = ℕ} 55 56 = ap (learnt 6 43) p in omega arith;
}

-- ---- a mobile rings desk 0

call-alike : Renumbered 9 (call_entry 990007) (call_entry 990008)
unfolding digits_of all_digits value_from
call-alike = record { kind-is = refl; bytes = record { long = refl; front = refl; back = refl }; callers = λ z. refl }

answer-alike : OtherSource 1 (ring_answer_entry 990007) (ring_answer_entry 990008)
unfolding spelled digits_of all_digits value_from
answer-alike = record { kind-is = refl; other = other; identifier = refl; bytes = record { long = refl; front = refl; back = refl }; digits = refl }

call-may : MayDiffer 1 (after new_set (map lent both_running)) (call_entry 990007) (call_entry 990008)
unfolding spelled ones_in digits_of all_digits value_from body_ok values_in bytes_of header_ok read_telegram telegram_of is_in place_of running_from read_entry desks_ok desks_in has_number distinct channels_ok channels_in plan_ok set_of first_of refusal_of delivered to_each records_of space_of pick accepted_by accepted outcome_of step_of after entry_kind entry_desk entry_channel entry_on entry_base entry_number entry_called
call-may = calls-other call-alike (λ i p. let q : ◌≡◌ {A = ℕ} 120001 130001 = ap (λ (d : Option ℕ). (number_in d).digits) p in omega arith)

-- In what the sixth entry sends, the number of the 550468 ends behind a contact of 8 bytes and 5, 16 and 12 more.
pub rings-witness : SpeaksOfRings
unfolding last_in learnt spelled ones_in digits_of all_digits value_from body_ok values_in bytes_of header_ok read_telegram telegram_of is_in ring answered ring_answer happens place_of running_from desk_place read_entry desks_ok desks_in has_number distinct channels_ok channels_in plan_ok set_of first_of refusal_of delivered to_each records_of space_of on_channel pick accepted_by accepted outcome_of step_of after frames_to of_desk views entry_kind entry_desk entry_channel entry_on entry_base entry_number entry_called
rings-witness = record {
  related =
      same_first new_set (map lent both_running)
      (more (record { may = call-may; agree = λ o c. refl }) refl
      (more (record { may = other-answers answer-alike; agree = λ o c. refl }) refl
      ended));
  differ = λ p. let q : ◌≡◌ {A = ℕ} 55 56 = ap (last_in 5) p in omega arith;
  receives = refl;
  learns = λ p. let q : ◌≡◌ {A = ℕ} 55 56 = ap (learnt 5 41) p in omega arith;
}

-- With the same answer the second feed's is a wrong one: desk 1 receives the 550651 in the first alone.
pub agreement_needed : AgreementNeeded
unfolding learnt spelled ones_in digits_of all_digits value_from body_ok values_in bytes_of header_ok read_telegram telegram_of is_in ring answered ring_answer happens place_of running_from desk_place read_entry desks_ok desks_in has_number distinct channels_ok channels_in plan_ok set_of first_of refusal_of delivered to_each records_of space_of on_channel pick accepted_by accepted outcome_of step_of frames_to of_desk views entry_kind entry_desk entry_channel entry_on entry_base entry_number entry_called
agreement_needed = record {
  may = call-may;
  told = λ p. let q : ◌≡◌ {A = ℕ} 1 0 = ap (learnt 6 2) p in omega arith;
}

-- ---- the ticks

pub ticks_met : TicksMet
unfolding spelled ones_in digits_of all_digits value_from body_ok values_in bytes_of header_ok read_telegram telegram_of is_in capture press_on press_off tick tick_idle tick_quiet tick_release happens place_of running_from read_entry desks_ok desks_in has_number distinct channels_ok channels_in plan_ok set_of first_of refusal_of delivered to_each records_of space_of on_channel sends_of on_tick pick accepted_by accepted outcome_of step_of run after entry_kind entry_desk entry_channel entry_on entry_base entry_number entry_called
ticks_met = record { one = refl; held = refl; alone = refl; let_go = refl; taken = refl }
