-- The reader's steps together are `read_in`, and what they are where no row has the identifier.
-- Assumes nothing.
use Prim.Native.Nat.{ℕ, ◌≤◌}
use mathlib.Core.List.{List, [], ◌∷◌, map}
use mathlib.Core.Path.{◌≡◌, refl, sym, ap, ◌∙◌}
use lib.Dec.{eqb, lit≤}
use lib.ListN.{length, get_or}
use borrow.Author.Tests.{eqb-true, ne_eqb}
use Rattle.std.specs.Prelude.{Some, None, Ok, Err}
use Rattle.std.proofs.lemmas.Option.{none-some, same_Some}
use Rattle.laws.proofs.Lists.{tab, tab-all}
use Rattle.laws.proofs.Tests.{by_test}
use Rattle.fields.specs.Fields.{Field, values_in}
use Rattle.fields.specs.Held.{as_numbers, padded, fields_in}
use Rattle.fields.proofs.Kept.{fields-found, fields-none}
use Rattle.telegram.specs.Telegram.{Row, under, table, read_row, read_in}
use Rattle.telegram.specs.declared.message.ReadError.TheVariants.{Identifier as Unknown, Body}
use Rattle.telegram_reader.specs.Steps.{identifiers, row_for, known_in}
use Rattle.telegram_reader.specs.declared.reader.Identifier.{Identifier}
use Rattle.telegram_reader.specs.declared.reader.Identifier.TheVariants.{TimeNotice, RingAnswer, OperationAnswer, TimeRequest, BaseArrival, RingNotice, AnswerReply, OperationRequest, Call, CallerNotice, CallResult, CaptureRequest, CaptureReply, CaptureState}

-- ---- the row of an identifier

unknown_in : (ks : List Identifier) (c i : ℕ) (b : List ℕ) → known_in ks i ≡ None → read_in (map row_for ks) c i b ≡ Err (Unknown c (Some i))
unknown_in [] c i b e = refl
unknown_in (k ∷ ks) c i b e =
    by_test (eqb i (row_for k).id)
    (λ h. absurd (none-some k (sym (rw h at e))))
    (λ h. rw h (unknown_in ks c i b (rw h at e)))

listed : (ks : List Identifier) (c i : ℕ) (b : List ℕ) (k : Identifier) → known_in ks i ≡ Some k
    → (i ≡ (row_for k).id) × (read_in (map row_for ks) c i b ≡ read_row (row_for k) c b)
listed [] c i b k e = absurd (none-some k e)
listed (j ∷ ks) c i b k e =
    by_test (eqb i (row_for j).id)
    (λ h.
    let q : j ≡ k = same_Some j k (rw h at e) in
    (eqb-true i (row_for j).id h ∙ ap (λ (x : Identifier). (row_for x).id) q, rw h (ap (λ (x : Identifier). read_row (row_for x) c b) q)))
    (λ h. let r = listed ks c i b k (rw h at e) in (r.0, rw h r.1))

-- A row's fields fit the array of eleven numbers, and the numbers behind them change nothing.
record Fits (r : Row) : Type 0 where
  few : length r.body ≤ 11
  same : (b : List ℕ) → r.make (padded (values_in r.body b)) ≡ r.make (values_in r.body b)

fits : (k : Identifier) → Fits (row_for k)
unfolding values_in
fits TimeNotice = record { few = lit≤ tt; same = λ b. refl }
fits RingAnswer = record { few = lit≤ tt; same = λ b. refl }
fits OperationAnswer = record { few = lit≤ tt; same = λ b. refl }
fits TimeRequest = record { few = lit≤ tt; same = λ b. refl }
fits BaseArrival = record { few = lit≤ tt; same = λ b. refl }
fits RingNotice = record { few = lit≤ tt; same = λ b. refl }
fits AnswerReply = record { few = lit≤ tt; same = λ b. refl }
fits OperationRequest = record { few = lit≤ tt; same = λ b. refl }
fits Call = record { few = lit≤ tt; same = λ b. refl }
fits CallerNotice = record { few = lit≤ tt; same = λ b. refl }
fits CallResult = record { few = lit≤ tt; same = λ b. refl }
fits CaptureRequest = record { few = lit≤ tt; same = λ b. refl }
fits CaptureReply = record { few = lit≤ tt; same = λ b. refl }
fits CaptureState = record { few = lit≤ tt; same = λ b. refl }

-- ---- the steps, put together

pub read_unknown : (c i : ℕ) (b : List ℕ) → known_in identifiers i ≡ None → read_in table c i b ≡ Err (Unknown c (Some i))
read_unknown c i b e = unknown_in identifiers c i b e

module _ (c i : ℕ) (b : List ℕ) (k : Identifier) (e : known_in identifiers i ≡ Some k) where
  pub read_none : fields_in (row_for k).body b ≡ None → read_in table c i b ≡ Err (Body c i)
  read_none q =
      let l = listed identifiers c i b k e in
      l.1 ∙ rw (fields-none (row_for k).body b q (fits k).few) (ap (λ (x : ℕ). Err (Body c x)) (sym l.0))

  pub read_some : (v : List ℕ) → fields_in (row_for k).body b ≡ Some v → read_in table c i b ≡ Ok (under c ((row_for k).make v))
  read_some v q =
      let f = fields-found (row_for k).body b v q in
      (listed identifiers c i b k e).1 ∙ rw (f.0, f.1, (fits k).same b)

-- ---- an identifier that no row has

-- what a match on the identifiers of the rows leaves to its last arm: D, and that none of them is i
abbrev pub Apart : List Row → ℕ → Type 0 → Type 0
Apart [] i D = D
Apart (r ∷ rs) i D = Apart rs i (D × (i ≡ r.id → ⊥))

pub record Unlisted (ks : List Identifier) (i : ℕ) : Type 0 where
  pub known : known_in ks i ≡ None
  pub reading : (c : ℕ) (b : List ℕ) → read_in (map row_for ks) c i b ≡ Err (Unknown c (Some i))

apart_unknown : (ks : List Identifier) (i : ℕ) (D : Type 0) → Apart (map row_for ks) i D → D × (known_in ks i ≡ None)
apart_unknown [] i D a = (a, refl)
apart_unknown (k ∷ ks) i D a =
    let u = apart_unknown ks i (D × (i ≡ (row_for k).id → ⊥)) a in
    (u.0.0, simp (ne_eqb i (row_for k).id u.0.1, u.1))

pub unlisted : (i : ℕ) → Apart table i (Unit {0}) → Unlisted identifiers i
unlisted i a =
    let e = (apart_unknown identifiers i (Unit {0}) a).1 in
    record { known = e; reading = λ c b. read_unknown c i b e }

-- ---- bytes one by one

pub byte_by_byte : (b : List ℕ) (n : ℕ) → length b ≡ n → b ≡ tab n (λ i. get_or b i 0)
byte_by_byte b n e = sym (rw e at (tab-all b 0))

-- what the fields' bytes spell, of n bytes
pub by_bytes : (fs : List Field) (b : List ℕ) (n : ℕ) → length b ≡ n → as_numbers fs b ≡ as_numbers fs (tab n (λ i. get_or b i 0))
by_bytes fs b n e = ap (as_numbers fs) (byte_by_byte b n e)
