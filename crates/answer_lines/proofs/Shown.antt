-- An answer as it is shown, computed.
-- Assumes nothing.
use mathlib.Core.Path.{refl}
use Rattle.frames.specs.Frames.{frames_to}
use Rattle.text.specs.Ascii.{ascii}
use Rattle.text.specs.Decimal.{decimal, spelled}
use Rattle.answer_lines.specs.Lines.{entry_line, telegram_line, contact_line, record_line, record_lines, lines_of}
use Rattle.answer_lines.specs.Promises.{ContactShown}

pub contact : ContactShown
unfolding lines_of record_lines record_line telegram_line contact_line entry_line frames_to decimal spelled ascii
contact = refl
