-- `telegram_reader::reader::read_identifier` meets its contract: six bytes behind two zeros spell what they spell alone.
-- Assumes nothing.
use mathlib.Core.Bool.{cond}
use mathlib.Core.Path.{◌≡◌, sym, ap, ◌∙◌}
use native.Mathlib.Omega.{arith}
use lib.Dec.{ltb}
use lib.ListN.{length}
use borrow.Author.Tests.{lt-ltb, le-ltb}
use Rattle.std.specs.Prelude.{Some, None}
use Rattle.laws.proofs.Lists.{tab}
use Rattle.numerals.specs.Digits.{all_digits, value_from, digits_in}
use Rattle.numerals.specs.Held.{as_number}
use Rattle.numerals.proofs.Kept.{digits-spelt}
use Rattle.telegram_reader.proofs.StepLaws.{byte_by_byte}
use Rattle.telegram_reader.proofs.reader.read_identifier.Goals as goal
use Rattle.telegram_reader.proofs.reader.read_identifier.Goals.{After-eight-v}

told : (c : After-eight-v) → digits_in c.args.s.now ≡ cond (ltb c.eight-v.result 1000000) (Some c.eight-v.result) None
unfolding tab all_digits value_from
told c =
    let b = c.args.s.now in
    let e : length b ≡ 6 = c.if-s-ne6.false in
    let v : as_number b ≡ c.eight-v.result = ap as_number (byte_by_byte b 6 e) ∙ sym c.eight-v.ensures in
    digits-spelt b (omega arith) ∙ rw (v, e)

pub returns-then-v-lt1000000 : goal.returns-then-v-lt1000000
returns-then-v-lt1000000 c = sym (told (goal.at.returns-then-v-lt1000000 c).After-eight-v ∙ rw (lt-ltb _ _ c.if-v-lt1000000.true))

pub returns-else-v-lt1000000 : goal.returns-else-v-lt1000000
returns-else-v-lt1000000 c = sym (told (goal.at.returns-else-v-lt1000000 c).After-eight-v ∙ rw (le-ltb _ _ c.if-v-lt1000000.false))
