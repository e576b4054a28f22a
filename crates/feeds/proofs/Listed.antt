-- 01's listing, as text: it computes.
-- Assumes nothing.
use mathlib.Core.Path.{refl}
use lib.Count.{ones_in}
use Rattle.numerals.specs.Digits.{digits_of, all_digits, value_from}
use Rattle.fields.specs.Fields.{body_ok, values_in, bytes_of}
use Rattle.telegram.specs.Telegram.{header_ok, read_telegram, telegram_of}
use Rattle.channel.specs.State.{is_in}
use Rattle.line_rules.specs.Rules.{capture, end_talk, end_call, happens}
use Rattle.set_state.specs.State.{place_of, running_from}
use Rattle.text.specs.Ascii.{ascii}
use Rattle.text.specs.Decimal.{spelled as digitsSpelled, decimal}
use Rattle.frames.specs.Frames.{frames_to}
use Rattle.answer_lines.specs.Lines.{entry_line, telegram_line, contact_line, record_line, record_lines, lines_of}
use Rattle.laws.specs.Table.{pick}
use Rattle.set_rules.specs.Entries.{read_entry, entry_kind, entry_desk, entry_channel, entry_on, entry_base, entry_number, entry_called}
use Rattle.set_rules.specs.Plan.{desks_ok, desks_in, has_number, distinct, channels_ok, channels_in, plan_ok, set_of}
use Rattle.set_rules.specs.Refusals.{first_of, refusal_of}
use Rattle.set_rules.specs.Records.{delivered, to_each, records_of, space_of}
use Rattle.set_rules.specs.SetRules.{on_channel, sends_of, on_handover, accepted_by, accepted}
use Rattle.set_rules.specs.Feeds.{outcome_of, step_of, run}
use Rattle.set_rules.specs.Spelling.{spelled}
use Rattle.feeds.specs.Listing.{entries_of, entries_in, listed, listing_of}
use Rattle.feeds.specs.Promises.{WholeListing, joined}

pub whole-listing : WholeListing
unfolding spelled ones_in digits_of all_digits value_from body_ok values_in bytes_of header_ok read_telegram telegram_of is_in capture end_talk end_call happens place_of running_from read_entry desks_ok desks_in has_number distinct channels_ok channels_in plan_ok set_of first_of refusal_of delivered to_each records_of space_of on_channel sends_of on_handover pick accepted_by accepted outcome_of step_of run ascii digitsSpelled decimal frames_to entry_line telegram_line contact_line record_line record_lines lines_of joined entries_of entries_in listed listing_of entry_kind entry_desk entry_channel entry_on entry_base entry_number entry_called
whole-listing = refl
