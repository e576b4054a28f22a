-- All cases marked (p) in 01: those of the reader and of entries compute, and the ticks are proved for every set that fits.
-- Assumes nothing.
use mathlib.Core.Path.{refl, sym, subst}
use Rattle.numerals.specs.Digits.{digits_of, all_digits, value_from}
use Rattle.fields.specs.Fields.{body_ok, values_in, bytes_of}
use Rattle.telegram.specs.Telegram.{header_ok, read_telegram, telegram_of}
use Rattle.channel.specs.State.{is_in}
use Rattle.line_rules.specs.Rules.{capture, happens}
use Rattle.set_state.specs.State.{place_of, running_from}
use lib.Count.{ones_in}
use Rattle.laws.specs.Table.{pick}
use Rattle.laws.proofs.Each.{◌▹◌, each_map}
use Rattle.set_rules.specs.Entries.{read_entry, entry_kind, entry_desk, entry_channel, entry_on, entry_base, entry_number, entry_called}
use Rattle.set_rules.specs.Plan.{desks_ok, desks_in, has_number, distinct, channels_ok, channels_in, plan_ok, set_of}
use Rattle.set_rules.specs.Refusals.{first_of, refusal_of}
use Rattle.set_rules.specs.Records.{delivered, to_each, records_of, space_of}
use Rattle.set_rules.specs.SetRules.{on_channel, accepted_by, accepted}
use Rattle.set_rules.specs.Feeds.{outcome_of, step_of, after}
use Rattle.set_rules.specs.Spelling.{spelled}
use Rattle.set_rules.specs.Marked.{Case, reads, answers, ticks, Holds, cases, Marked, AnswersIn}
use Rattle.set_rules.proofs.Ticks.{ends_at}

-- a row as it is computed: with a length in the place of the buffers so long
abbrev Computes : Case → Type 0
Computes (reads bytes n) = Holds (reads bytes n)
Computes (answers es e room n) = AnswersIn es e n room
Computes (ticks end release) = Holds (ticks end release)

holds : (k : Case) → Computes k → Holds k
holds (reads bytes n) p = p
holds (answers es e room n) p = λ b h. subst (AnswersIn es e n) (sym h) p
holds (ticks end release) p = p

pub marked : Marked
unfolding cases spelled ones_in digits_of all_digits value_from body_ok values_in bytes_of header_ok read_telegram telegram_of is_in capture happens place_of running_from read_entry desks_ok desks_in has_number distinct channels_ok channels_in plan_ok set_of first_of refusal_of delivered to_each records_of space_of on_channel pick accepted_by accepted outcome_of step_of after entry_kind entry_desk entry_channel entry_on entry_base entry_number entry_called
marked =
    each_map Computes Holds holds cases
    (refl ▹ refl ▹ refl ▹ refl ▹ refl ▹ refl ▹ refl ▹ refl ▹ refl ▹ refl ▹ ends_at ▹ tt)
