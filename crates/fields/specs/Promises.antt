-- What is promised of lists of fields, beside the contracts. `proofs/Kept.antt` has the proof of each
-- under the name given with it, and is the one module of the proofs that other crates cite.
use Rattle.std.specs.Prelude.{ℕ, ◌≤◌, List, true, false, ◌≡◌, length, Some, None}
use Rattle.laws.specs.Each.{Each}
use Rattle.fields.specs.Fields.{Field, body_ok, values_in, all_in, bytes_of, body_size}
use Rattle.fields.specs.Held.{fields_of, padded, fields_in, fields_by_spelling}
use Rattle.fields.specs.declared.rules.Field.{Field as Named}

-- What is written is as long as its fields are wide (`length-bytes`).
abbrev pub AsLong : Type 0
AsLong = (fs : List Field) (vs : List ℕ) → length fs ≡ length vs → length (bytes_of fs vs) ≡ body_size fs

-- Numbers that can stand in the fields are as many as they (`same_count`), and read back when written (`read-written`).
abbrev pub AsMany : Type 0
AsMany = (fs : List Field) (y m : ℕ) (vs : List ℕ) → all_in fs y m vs ≡ true → length fs ≡ length vs

abbrev pub ReadsBack : Type 0
ReadsBack =
    (fs : List Field) (y m : ℕ) (vs : List ℕ) → all_in fs y m vs ≡ true
    → (body_ok fs y m (bytes_of fs vs) ≡ true) × (values_in fs (bytes_of fs vs) ≡ vs)

-- Whatever reads is what is written of the numbers in it, and they can stand in the fields (`Written-Read`).
abbrev pub WrittenForm : Type 0
WrittenForm =
    (fs : List Field) (y m : ℕ) (b : List ℕ) → body_ok fs y m b ≡ true
    → (all_in fs y m (values_in fs b) ≡ true) × (bytes_of fs (values_in fs b) ≡ b)

-- What the reader finds are the fields' numbers (`fields-found`), and where there are at most eleven fields it refuses only
-- what are not their bytes (`fields-none`).
abbrev pub FieldsFound : Type 0
FieldsFound =
    (fs : List Field) (b vs : List ℕ) → fields_in fs b ≡ Some vs → (body_ok fs 0 0 b ≡ true) × (vs ≡ padded (values_in fs b))

abbrev pub FieldsRefused : Type 0
FieldsRefused = (fs : List Field) (b : List ℕ) → fields_in fs b ≡ None → length fs ≤ 11 → body_ok fs 0 0 b ≡ false

-- At most eleven fields of at most nine digits each read alike from what the bytes of each spell (`fields-spelt`), and so do those that
-- the code names or numbers (`named-spelt`).
abbrev pub ReadBySpelling : Type 0
ReadBySpelling =
    (fs : List Field) (b : List ℕ) → Each (λ (f : Field). f.width ≤ 9) fs → length fs ≤ 11 → fields_in fs b ≡ fields_by_spelling fs b

abbrev pub NamedBySpelling : Type 0
NamedBySpelling = (ks : List Named) (b : List ℕ) → length ks ≤ 11 → fields_in (fields_of ks) b ≡ fields_by_spelling (fields_of ks) b
