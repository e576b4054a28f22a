-- `telegram_reader::reader::read_capture_request` meets its contract: the numbers are what the bytes of the four fields spell.
-- Assumes nothing.
use mathlib.Core.List.{[], ◌∷◌}
use mathlib.Core.Bool.{◌&&◌, cond, and-true, and_assoc}
use mathlib.Core.Path.{◌≡◌, sym, ◌∙◌}
use lib.ListN.{length}
use lib.Dec.{lit≤}
use borrow.Author.Tests.{eq-eqb, ne_eqb}
use Rattle.std.specs.Prelude.{Some, None}
use Rattle.laws.proofs.Lists.{tab}
use Rattle.numerals.specs.Digits.{all_digits, value_from}
use Rattle.fields.specs.Fields.{all_in}
use Rattle.fields.specs.Held.{as_numbers}
use Rattle.fields.specs.Held.{padded, fields_in}
use Rattle.fields.specs.declared.rules.Field.TheVariants.{Channel, Len, Number, Flag}
use Rattle.fields.proofs.Kept.{named-spelt}
use Rattle.telegram.specs.Telegram.{capture_request}
use Rattle.telegram_reader.proofs.StepLaws.{by_bytes}
use Rattle.telegram_reader.proofs.reader.read_capture_request.Goals as goal
use Rattle.telegram_reader.proofs.reader.read_capture_request.Goals.{After-in_range-4}

-- the numbers are what the bytes of the fields spell
numbers_are : (c : After-in_range-4) → as_numbers capture_request.body c.args.b.now
    ≡ c.four-channel.result
    ∷ c.four-len.result
    ∷ c.eight-number.result
    ∷ c.four-order.result ∷ []
unfolding tab as_numbers all_digits value_from
numbers_are c = by_bytes capture_request.body c.args.b.now 13 c.if-b-ne13.false
    ∙ rw (
      c.four-channel.ensures,
      c.four-len.ensures,
      c.eight-number.ensures,
      c.four-order.ensures,
    )

pub returns-then-b-ne13 : goal.returns-then-b-ne13
returns-then-b-ne13 c = sym (named-spelt (Channel ∷ Len ∷ Number ∷ Flag ∷ []) _ (lit≤ tt) ∙ rw (ne_eqb _ 13 c.if-b-ne13.true))

-- what is read, by the answers on the four ranges
told : (c : After-in_range-4) → fields_in capture_request.body c.args.b.now
    ≡ cond (c.in_range.result && c.in_range-2.result && c.in_range-3.result && c.in_range-4.result)
    (Some (padded (c.four-channel.result ∷ c.four-len.result ∷ c.eight-number.result ∷ c.four-order.result ∷ []))) None
unfolding all_in
told c =
    let b = c.args.b.now in
    let e : length b ≡ 13 = c.if-b-ne13.false in
    named-spelt (Channel ∷ Len ∷ Number ∷ Flag ∷ []) b (lit≤ tt) ∙ rw (eq-eqb (length b) 13 e, numbers_are c, c.in_range.ensures, c.in_range-2.ensures, c.in_range-3.ensures, c.in_range-4.ensures) (simp (and_assoc, and-true))

pub returns-then-in_range : goal.returns-then-in_range
returns-then-in_range c = sym (told (goal.at.returns-then-in_range c).After-in_range-4 ∙ rw c.if-in_range.true)

pub returns-else-in_range : goal.returns-else-in_range
returns-else-in_range c = sym (told (goal.at.returns-else-in_range c).After-in_range-4 ∙ rw c.if-in_range.false)
