-- How the code holds fields and lists of them, and what it reads of them. None of it is a rule.
use Rattle.std.specs.Prelude.{ℕ, ◌/◌, ◌%◌, List, [], ◌∷◌, map, Bool, true, false, ◌&&◌, cond, leb, eqb, length, take, drop, get_or, replicate, Option, Some, None}
use Rattle.std.proofs.lemmas.List.Edits.{sets}
use Rattle.numerals.specs.Held.{as_number}
use Rattle.fields.specs.Fields.{Field, plain, length4, code, channel, base, call_type, direction, reason, len, number, flag, year, month, day, hour, minute, second, body_ok, values_in, all_in, body_size}
use Rattle.fields.specs.declared.rules.Field.{Field as Named}
use Rattle.fields.specs.declared.rules.Field.TheVariants.{Length, Code, Channel, Base, Kind, Direction, Reason, Len, Number, Flag, Year, Month, Day, Hour, Minute, Second, Numbered}

-- A field that has no name in the code goes by a number: ten times its rule's place in this list, plus its width. Where the list has
-- no such place it allows any number.
abbrev pub numbered : List Field
numbered =
    plain 0 ∷ code ∷ channel ∷ base ∷ call_type ∷ direction ∷ reason ∷ len ∷ flag ∷ year ∷ month ∷ day ∷ hour ∷ minute ∷ []

abbrev pub is_named : Named → Bool
is_named (Numbered k) = false
is_named _ = true

-- a field by its name, or by its number
abbrev pub field_of : Named → Field
field_of Length = length4
field_of Code = code
field_of Channel = channel
field_of Base = base
field_of Kind = call_type
field_of Direction = direction
field_of Reason = reason
field_of Len = len
field_of Number = number
field_of Flag = flag
field_of Year = year
field_of Month = month
field_of Day = day
field_of Hour = hour
field_of Minute = minute
field_of Second = second
field_of (Numbered k) = record { width = k % 10; allows = (get_or numbered (k / 10) (plain 0)).allows }

abbrev pub fields_of : List Named → List Field
fields_of = map field_of

-- numbers in front of an array of eleven
abbrev pub padded : List ℕ → List ℕ
padded vs = sets (replicate 11 0) 0 vs

abbrev pub fields_in : List Field → List ℕ → Option (List ℕ)
fields_in fs b = cond (leb (length fs) 11 && body_ok fs 0 0 b) (Some (padded (values_in fs b))) None

-- ---- a reader in a straight line

-- what the bytes of each field spell
unfoldable pub as_numbers : List Field → List ℕ → List ℕ
as_numbers [] b = []
as_numbers (f ∷ fs) b = as_number (take f.width b) ∷ as_numbers fs (drop f.width b)

-- the same fields by it: the size alone, then what the bytes of each field spell
abbrev pub fields_by_spelling : List Field → List ℕ → Option (List ℕ)
fields_by_spelling fs b = cond (eqb (length b) (body_size fs) && all_in fs 0 0 (as_numbers fs b)) (Some (padded (as_numbers fs b))) None
