-- `telegram_reader::reader::read_heading` meets its contract: the numbers are what the bytes of the two fields spell.
-- Assumes nothing.
use mathlib.Core.List.{[], ◌∷◌}
use mathlib.Core.Bool.{◌&&◌, cond, and-true, and_assoc}
use mathlib.Core.Path.{◌≡◌, sym, ◌∙◌}
use lib.ListN.{length}
use lib.Dec.{lit≤}
use borrow.Author.Tests.{eq-eqb, ne_eqb}
use Rattle.std.specs.Prelude.{Some, None}
use Rattle.laws.proofs.Lists.{tab}
use Rattle.numerals.specs.Digits.{all_digits, value_from}
use Rattle.fields.specs.Fields.{length4, code, all_in}
use Rattle.fields.specs.Held.{as_numbers}
use Rattle.fields.specs.Held.{padded, fields_in}
use Rattle.fields.specs.declared.rules.Field.TheVariants.{Length, Code}
use Rattle.fields.proofs.Kept.{named-spelt}
use Rattle.telegram_reader.proofs.StepLaws.{by_bytes}
use Rattle.telegram_reader.proofs.reader.read_heading.Goals as goal
use Rattle.telegram_reader.proofs.reader.read_heading.Goals.{After-in_range-2}

-- the numbers are what the bytes of the fields spell
numbers_are : (c : After-in_range-2) → as_numbers (length4 ∷ code ∷ []) c.args.s.now
    ≡ c.four-n.result
    ∷ c.four-code.result ∷ []
unfolding tab as_numbers all_digits value_from
numbers_are c = by_bytes (length4 ∷ code ∷ []) c.args.s.now 8 c.if-s-ne8.false
    ∙ rw (
      c.four-n.ensures,
      c.four-code.ensures,
    )

pub returns-then-s-ne8 : goal.returns-then-s-ne8
returns-then-s-ne8 c = sym (named-spelt (Length ∷ Code ∷ []) _ (lit≤ tt) ∙ rw (ne_eqb _ 8 c.if-s-ne8.true))

-- what is read, by the answers on the ranges
told : (c : After-in_range-2) → fields_in (length4 ∷ code ∷ []) c.args.s.now
    ≡ cond (c.in_range.result && c.in_range-2.result) (Some (padded (c.four-n.result ∷ c.four-code.result ∷ []))) None
unfolding all_in
told c =
    let b = c.args.s.now in
    let e : length b ≡ 8 = c.if-s-ne8.false in
    named-spelt (Length ∷ Code ∷ []) b (lit≤ tt) ∙ rw (eq-eqb (length b) 8 e, numbers_are c, c.in_range.ensures, c.in_range-2.ensures) (simp (and_assoc, and-true))

pub returns-then-in_range : goal.returns-then-in_range
returns-then-in_range c = sym (told (goal.at.returns-then-in_range c).After-in_range-2 ∙ rw c.if-in_range.true)

pub returns-else-in_range : goal.returns-else-in_range
returns-else-in_range c = sym (told (goal.at.returns-else-in_range c).After-in_range-2 ∙ rw c.if-in_range.false)
