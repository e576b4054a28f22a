-- The lines of some telegrams: they compute.
-- Assumes nothing.
use mathlib.Core.Path.{refl}
use Rattle.numerals.specs.Digits.{digits_of, all_digits, value_from}
use Rattle.fields.specs.Fields.{body_ok, values_in, bytes_of}
use Rattle.frames.specs.Frames.{frames_to}
use Rattle.text.specs.Ascii.{ascii}
use Rattle.text.specs.Decimal.{spelled, decimal}
use Rattle.telegram.specs.Telegram.{header_ok, read_telegram, telegram_of}
use Rattle.telegrams.specs.Lines.{message_line, answer_line, frame_line, lines_of, telegram_lines}
use Rattle.telegrams.specs.Promises.{Reads, Refused8, Refused9, Refused10, WholeInput}

pub reads : Reads
unfolding ascii digits_of all_digits value_from body_ok values_in bytes_of spelled decimal header_ok read_telegram telegram_of message_line answer_line
reads = refl

pub refused_8 : Refused8
unfolding ascii digits_of all_digits value_from body_ok values_in bytes_of spelled decimal header_ok read_telegram telegram_of message_line answer_line
refused_8 = refl

pub refused_9 : Refused9
unfolding ascii digits_of all_digits value_from body_ok values_in bytes_of spelled decimal header_ok read_telegram telegram_of message_line answer_line
refused_9 = refl

pub refused_10 : Refused10
unfolding ascii digits_of all_digits value_from body_ok values_in bytes_of spelled decimal header_ok read_telegram telegram_of message_line answer_line
refused_10 = refl

pub whole_input : WholeInput
unfolding ascii digits_of all_digits value_from body_ok values_in bytes_of spelled decimal header_ok read_telegram telegram_of message_line answer_line frames_to frame_line lines_of telegram_lines
whole_input = refl
