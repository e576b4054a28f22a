-- The listing and the worked examples: each computes.
-- Assumes nothing.
use mathlib.Core.Path.{refl, sym, subst}
use lib.Count.{ones_in}
use Rattle.numerals.specs.Digits.{digits_of, all_digits, value_from}
use Rattle.fields.specs.Fields.{body_ok, values_in, bytes_of}
use Rattle.telegram.specs.Telegram.{header_ok, read_telegram, telegram_of}
use Rattle.channel.specs.State.{is_in}
use Rattle.line_rules.specs.Rules.{capture, cut, press_on, mobile_on, mobile_off, ring, unanswered, answered, ring_answer, end_talk, end_call, happens}
use Rattle.set_state.specs.State.{place_of, running_from, desk_place}
use Rattle.laws.specs.Table.{pick}
use Rattle.laws.proofs.Each.{◌▹◌, each_map}
use Rattle.set_rules.specs.Entries.{read_entry, entry_kind, entry_desk, entry_channel, entry_on, entry_base, entry_number, entry_called}
use Rattle.set_rules.specs.Plan.{desks_ok, desks_in, has_number, distinct, channels_ok, channels_in, plan_ok, set_of}
use Rattle.set_rules.specs.Refusals.{first_of, refusal_of}
use Rattle.set_rules.specs.Records.{delivered, to_each, records_of, space_of}
use Rattle.set_rules.specs.SetRules.{on_channel, sends_of, on_handover, accepted_by, accepted}
use Rattle.set_rules.specs.Feeds.{outcome_of, step_of, run, after}
use Rattle.set_rules.specs.Spelling.{spelled}
use Rattle.set_rules.specs.Examples.{Example, Listed, listing, AnswersIn, Works, Worked, examples}

pub listed : Listed
unfolding listing spelled ones_in digits_of all_digits value_from body_ok values_in bytes_of header_ok read_telegram telegram_of is_in capture end_talk end_call happens place_of running_from read_entry desks_ok desks_in has_number distinct channels_ok channels_in plan_ok set_of first_of refusal_of delivered to_each records_of space_of on_channel sends_of on_handover pick accepted_by accepted outcome_of step_of run after entry_kind entry_desk entry_channel entry_on entry_base entry_number entry_called
listed = refl

-- what is computed for the one length holds of every buffer so long
so_long : (x : Example) → AnswersIn x 32768 → Works x
so_long x p b h = subst (AnswersIn x) (sym h) p

pub worked : Worked
unfolding examples spelled ones_in digits_of all_digits value_from body_ok values_in bytes_of header_ok read_telegram telegram_of is_in capture cut press_on mobile_on mobile_off ring unanswered answered ring_answer end_talk end_call happens place_of running_from desk_place read_entry desks_ok desks_in has_number distinct channels_ok channels_in plan_ok set_of first_of refusal_of delivered to_each records_of space_of on_channel sends_of on_handover pick accepted_by accepted outcome_of step_of after entry_kind entry_desk entry_channel entry_on entry_base entry_number entry_called
worked =
    each_map (λ x. AnswersIn x 32768) Works so_long examples
    ((refl, refl)
    ▹ (refl, refl)
    ▹ (refl, refl)
    ▹ (refl, refl)
    ▹ (refl, refl)
    ▹ (refl, refl)
    ▹ (refl, refl)
    ▹ (refl, refl)
    ▹ (refl, refl)
    ▹ (refl, refl)
    ▹ (refl, refl)
    ▹ (refl, refl)
    ▹ (refl, refl)
    ▹ (refl, refl)
    ▹ (refl, refl)
    ▹ (refl, refl)
    ▹ (refl, refl)
    ▹ (refl, refl)
    ▹ (refl, refl)
    ▹ (refl, refl)
    ▹ (refl, refl)
    ▹ (refl, refl)
    ▹ (refl, refl)
    ▹ (refl, refl)
    ▹ (refl, refl)
    ▹ (refl, refl)
    ▹ (refl, refl)
    ▹ tt)
