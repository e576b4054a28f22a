-- The round trip: what is written reads back, and what reads is what is written.
-- Assumes nothing.
use Prim.Native.Nat.{ℕ, zero, suc, ◌+◌, ◌^◌, ◌≤◌, ◌<◌}
use mathlib.Core.List.{List, [], ◌∷◌, ◌++◌, append_assoc, append-nil}
use mathlib.Core.Bool.{true, false≢true}
use mathlib.Core.Path.{◌≡◌, refl, sym, ap, ◌∙◌}
use native.Mathlib.Omega.{arith}
use lib.ListN.{length, length-append, length-drop, get_or, take, drop, take-append-drop}
use lib.Seq.{take_at, drop_at, drop-drop, length-take-le}
use lib.Dec.{leb, ltb, eqb, lit<}
use borrow.Author.Tests.{leb-true, le-leb, lt-ltb, eqb-true, eq-eqb}
use Rattle.std.specs.Prelude.{Ok, Err}
use Rattle.laws.specs.Each.{Each}
use Rattle.laws.proofs.Lists.{tab, tab-all}
use Rattle.laws.proofs.Tests.{both, by_test, cond-taken}
use Rattle.numerals.specs.Digits.{digits_of, all_digits, value_of}
use Rattle.fields.specs.Fields.{Field, plain, length4, code, len, in_range as fits, body_ok, values_in, all_in, bytes_of}
use Rattle.numerals.proofs.Kept.{length_digits, digits-digits, value_digits, digits_value}
use Rattle.fields.proofs.Kept.{read-written, written_read, length-bytes, same_count}
use Rattle.telegram.specs.Telegram.{Row, nth, time_notice, ring_body, ring_answer, operation_answer, time_request, base_arrival, ring_notice, answer_reply, operation_request, call, caller_notice, call_result, capture_request, capture_reply, capture_state, table, under, read_row, read_in, heading, header_ok, read_identified, read_telegram, row_of, values_of, size_of, headed, telegram_of, in_range}
use Rattle.telegram.specs.Promises.{ReadsBack, WrittenForm, OneForm}
use Rattle.telegram.specs.declared.message.Message.{Message}
use Rattle.telegram.specs.declared.message.Message.TheVariants.{TimeNotice, RingAnswer, OperationAnswer, TimeRequest, BaseArrival, RingNotice, AnswerReply, OperationRequest, Call, CallerNotice, CallResult, CaptureRequest, CaptureReply, CaptureState}
use Rattle.telegram.specs.declared.message.Telegram.{Telegram}
use Rattle.telegram.specs.declared.message.ReadError.{ReadError}
use Rattle.telegram.proofs.SizeLaws.{size-most}
use Rattle.telegram.proofs.HeaderLaws.{header_tests, header_long}

-- ---- from a message to bytes and back

-- Each message's numbers make that message again, and the table finds its row.
back : (c : ℕ) (m : Message) → ((row_of m).make (values_of m) ≡ m) × ((b : List ℕ) → read_in table c (row_of m).id b ≡ read_row (row_of m) c b)
back c (TimeNotice m) = (refl, λ b. refl)
back c (RingAnswer m) = (refl, λ b. refl)
back c (OperationAnswer m) = (refl, λ b. refl)
back c TimeRequest = (refl, λ b. refl)
back c (BaseArrival m) = (refl, λ b. refl)
back c (RingNotice m) = (refl, λ b. refl)
back c (AnswerReply m) = (refl, λ b. refl)
back c OperationRequest = (refl, λ b. refl)
back c (Call m) = (refl, λ b. refl)
back c (CallerNotice m) = (refl, λ b. refl)
back c (CallResult m) = (refl, λ b. refl)
back c (CaptureRequest m) = (refl, λ b. refl)
back c (CaptureReply m) = (refl, λ b. refl)
back c (CaptureState m) = (refl, λ b. refl)

-- each identifier has six digits
six_digits : (m : Message) → (row_of m).id < 10 ^ 6
six_digits (TimeNotice m) = lit< tt
six_digits (RingAnswer m) = lit< tt
six_digits (OperationAnswer m) = lit< tt
six_digits TimeRequest = lit< tt
six_digits (BaseArrival m) = lit< tt
six_digits (RingNotice m) = lit< tt
six_digits (AnswerReply m) = lit< tt
six_digits OperationRequest = lit< tt
six_digits (Call m) = lit< tt
six_digits (CallerNotice m) = lit< tt
six_digits (CallResult m) = lit< tt
six_digits (CaptureRequest m) = lit< tt
six_digits (CaptureReply m) = lit< tt
six_digits (CaptureState m) = lit< tt

-- the header's length and code as fields
abbrev lead : ℕ → ℕ → List ℕ
lead n c = bytes_of (length4 ∷ code ∷ []) (n ∷ c ∷ [])

lead_in : (n c : ℕ) → n < 10 ^ 4 → c ≤ 1023 → all_in (length4 ∷ code ∷ []) 0 0 (n ∷ c ∷ []) ≡ true
unfolding all_in
lead_in n c h l = simp (lt-ltb n (10 ^ 4) h, lt-ltb c (10 ^ 4) (omega arith), le-leb c 1023 l)

lead-length : (n c : ℕ) → length (lead n c) ≡ 8
lead-length n c = length-bytes (length4 ∷ code ∷ []) (n ∷ c ∷ []) refl

lead-headed : (n c i : ℕ) (d : List ℕ) → headed n c i d ≡ 68 ∷ 86 ∷ lead n c ++ (digits_of 6 i ++ d)
unfolding bytes_of
lead-headed n c i d = simp (append_assoc, append-nil)

-- what a header and a body read as
module _ (n c i : ℕ) (d : List ℕ) (ln : n ≡ 16 + length d) (hn : n < 10 ^ 4) (hc : c ≤ 1023) (hi : i < 10 ^ 6) where
  abbrev bytes : List ℕ
  bytes = 68 ∷ 86 ∷ lead n c ++ (digits_of 6 i ++ d)

  part-lead : take 8 (drop 2 bytes) ≡ lead n c
  part-lead = take_at (lead n c) (digits_of 6 i ++ d) 8 (lead-length n c)

  after-lead : drop 10 bytes ≡ digits_of 6 i ++ d
  after-lead = drop_at (lead n c) (digits_of 6 i ++ d) 8 (lead-length n c)

  part-id : take 6 (drop 10 bytes) ≡ digits_of 6 i
  part-id = rw after-lead (take_at (digits_of 6 i) d 6 (length_digits 6 i))

  after-id : drop 16 bytes ≡ d
  after-id = sym (drop-drop 6 10 bytes) ∙ (rw after-lead (drop_at (digits_of 6 i) d 6 (length_digits 6 i)))

  count : length bytes ≡ n
  count =
      let l = lead-length n c in
      let k = length_digits 6 i in
      simp (length-append) (omega arith)

  right : header_ok bytes ≡ true
  unfolding header_ok
  right =
      let r = read-written (length4 ∷ code ∷ []) 0 0 (n ∷ c ∷ []) (lead_in n c hn hc) in
      simp (count, part-lead, r.0, r.1, le-leb 16 n (omega arith), eq-eqb n n refl)

  read-bytes : read_telegram bytes ≡ read_in table c i d
  unfolding read_telegram
  read-bytes =
      let r = read-written (length4 ∷ code ∷ []) 0 0 (n ∷ c ∷ []) (lead_in n c hn hc) in
      simp (right, part-lead, r.1, part-id, after-id, digits-digits 6 i, value_digits 6 i hi)

  read-headed : read_telegram (headed n c i d) ≡ read_in table c i d
  read-headed = ap read_telegram (lead-headed n c i d) ∙ read-bytes

pub reads-back : ReadsBack
unfolding telegram_of
reads-back c m h =
    let fs = (row_of m).body in
    let vs = values_of m in
    let a = both (leb c 1023) (in_range m) h in
    let l = length-bytes fs vs (same_count fs 0 0 vs a.1) in
    let p = size-most m in
    let q = back c m in
    let r = read-written fs 0 0 vs a.1 in
    let e : read_row (row_of m) c (bytes_of fs vs) ≡ Ok (under c ((row_of m).make vs)) = rw (r.0, r.1) in
    read-headed (size_of m) c (row_of m).id (bytes_of fs vs) (omega arith) (omega arith) (leb-true _ _ a.0) (six_digits m)
    ∙ q.1 (bytes_of fs vs)
    ∙ e
    ∙ ap (λ (x : Message). Ok (under c x)) q.0

-- ---- from bytes to a message and back

code_in : (y m v : ℕ) → fits code y m v ≡ true → v ≤ 1023
code_in y m v h = leb-true v 1023 (both (ltb v (10 ^ 4)) (leb v 1023) h).1

len_in : (y m v : ℕ) → fits len y m v ≡ true → v ≡ 8
len_in y m v h = eqb-true v 8 (both (ltb v (10 ^ 1)) (eqb v 8) h).1

-- bytes with a right header and an identifier are those of their numbers
headed-read : (s : List ℕ) → header_ok s ≡ true → all_digits (take 6 (drop 10 s)) ≡ true
    → (s ≡ headed (length s) (nth (heading s) 1) (value_of (take 6 (drop 10 s))) (drop 16 s)) × (nth (heading s) 1 ≤ 1023)
unfolding values_in all_in
headed-read [] h e = absurd (omega (arith, header_long [] h))
headed-read (x ∷ []) h e = absurd (omega (arith, header_long (x ∷ []) h))
headed-read (x ∷ y ∷ r) h e =
    let s = x ∷ y ∷ r in
    let q = header_tests s h in
    let l : 16 ≤ length s = q.long in
    let w = written_read (length4 ∷ code ∷ []) 0 0 (take 8 r) q.fields in
    let n : value_of (take 4 (take 8 r)) ≡ length s = eqb-true _ _ q.total in
    let g : 6 ≤ length (drop 8 r) = simp length-drop (omega arith) in
    let i : digits_of 6 (value_of (take 6 (drop 8 r))) ≡ take 6 (drop 8 r) =
    rw (length-take-le 6 (drop 8 r) g) at (digits_value (take 6 (drop 8 r)) e) in
    let t : lead (length s) (value_of (take 4 (drop 4 (take 8 r)))) ≡ take 8 r = rw n at w.1 in
    let d : drop 6 (drop 8 r) ≡ drop 14 r = drop-drop 6 8 r in
    let fx : x ≡ 68 = eqb-true _ _ q.first in
    let fy : y ≡ 86 = eqb-true _ _ q.second in
    let k = (both (fits length4 0 0 (value_of (take 4 (take 8 r)))) _ w.0).1 in
    let f : s ≡ 68 ∷ 86 ∷ lead (length s) (nth (heading s) 1) ++ (digits_of 6 (value_of (take 6 (drop 10 s))) ++ drop 16 s) =
    rw (t, i, ← d, take-append-drop 6 (drop 8 r), take-append-drop 8 r, fx, fy) in
    (f ∙ sym (lead-headed (length s) (nth (heading s) 1) (value_of (take 6 (drop 10 s))) (drop 16 s)), code_in 0 0 _ (both _ true k).0)

-- A row's numbers make a message of that row with these numbers.
abbrev RowLaw : Row → Type 0
RowLaw r = (vs : List ℕ) → all_in r.body 0 0 vs ≡ true → (row_of (r.make vs) ≡ r) × (values_of (r.make vs) ≡ vs)

-- a message that was read from a body is written as that body
record Back (c i k : ℕ) (b : List ℕ) (m : Message) : Type 0 where
  code_is : c ≡ k
  id-is : (row_of m).id ≡ i
  values_in_lem : in_range m ≡ true
  bytes_are : bytes_of (row_of m).body (values_of m) ≡ b

-- what is refused is no message
not-read : (e : ReadError) (k : ℕ) (m : Message) → Err e ≡ Ok (under k m) → ⊥
not-read e k m q = let z : ◌≡◌ {A = ℕ} 0 1 = cc in omega arith

row_back : (r : Row) → RowLaw r → (c k : ℕ) (b : List ℕ) (m : Message) → read_row r c b ≡ Ok (under k m) → Back c r.id k b m
row_back r law c k b m e =
    let vs = values_in r.body b in
    let t = cond-taken (body_ok r.body 0 0 b) (Ok (under c (r.make vs))) _ e (not-read _ k m) in
    let f : Ok (under c (r.make vs)) ≡ Ok (under k m) = t.1 in
    let g : under c (r.make vs) ≡ under k m = cc in
    let j : r.make vs ≡ m = ap (λ (x : Telegram). x.message) g in
    let w = written_read r.body 0 0 b t.0 in
    let l = law vs w.0 in
    let p : row_of m ≡ r = ap row_of (sym j) ∙ l.0 in
    let q : values_of m ≡ vs = ap values_of (sym j) ∙ l.1 in
    record { code_is = ap (λ (x : Telegram). x.code) g; id-is = rw p; values_in_lem = rw (p, q) w.0; bytes_are = rw (p, q) w.1 }

table-back : (rs : List Row) → Each RowLaw rs → (c i k : ℕ) (b : List ℕ) (m : Message) → read_in rs c i b ≡ Ok (under k m) → Back c i k b m
table-back [] laws c i k b m e = absurd (not-read _ k m e)
table-back (r ∷ rs) laws c i k b m e =
    by_test (eqb i r.id)
    (λ h.
    let a = row_back r laws.0 c k b m (rw h at e) in
    record { code_is = a.code_is; id-is = a.id-is ∙ sym (eqb-true _ _ h); values_in_lem = a.values_in_lem; bytes_are = a.bytes_are })
    (λ h. table-back rs laws.1 c i k b m (rw h at e))

spread : (fs : List Field) (vs : List ℕ) → all_in fs 0 0 vs ≡ true → tab (length fs) (λ i. get_or vs i 0) ≡ vs
spread fs vs h = rw (same_count fs 0 0 vs h) (tab-all vs 0)

-- a len field's number is 8
eight : (fs : List Field) (y m : ℕ) (vs : List ℕ) (i : ℕ) → all_in fs y m vs ≡ true → get_or fs i (plain 0) ≡ len → nth vs i ≡ 8
unfolding all_in
eight [] y m vs i h e = absurd (let z : ◌≡◌ {A = ℕ} 0 1 = ap (λ (f : Field). f.width) e in omega arith)
eight (f ∷ fs) y m [] i h e = absurd (false≢true h)
eight (f ∷ fs) y m (v ∷ vs) zero h e = len_in y m v (rw e at (both (fits f y m v) (all_in fs m v vs) h).0)
eight (f ∷ fs) y m (v ∷ vs) (suc i) h e = eight fs m v vs i (both (fits f y m v) (all_in fs m v vs) h).1 e

-- the rows' laws, in the order of the table
time_notice_lem : RowLaw time_notice
unfolding tab
time_notice_lem vs h = (refl, spread time_notice.body vs h)

-- the numbers of a ring notice or a ring answer
ring_values : (vs : List ℕ) → all_in ring_body 0 0 vs ≡ true → nth vs 0 ∷ nth vs 1 ∷ 8 ∷ nth vs 3 ∷ 8 ∷ nth vs 5 ∷ [] ≡ vs
unfolding tab
ring_values vs h =
    let a : nth vs 2 ≡ 8 = eight ring_body 0 0 vs 2 h refl in
    let b : nth vs 4 ≡ 8 = eight ring_body 0 0 vs 4 h refl in
    rw (a, b) at (spread ring_body vs h)

ring-answer : RowLaw ring_answer
ring-answer vs h = (refl, ring_values vs h)

operation_answer_lem : RowLaw operation_answer
unfolding tab
operation_answer_lem vs h = (refl, spread operation_answer.body vs h)

time_request_lem : RowLaw time_request
unfolding tab
time_request_lem vs h = (refl, spread time_request.body vs h)

base-arrival : RowLaw base_arrival
unfolding tab
base-arrival vs h = (refl, spread base_arrival.body vs h)

ring_notice_lem : RowLaw ring_notice
ring_notice_lem vs h = (refl, ring_values vs h)

answer-reply : RowLaw answer_reply
unfolding tab
answer-reply vs h = (refl, spread answer_reply.body vs h)

operation_request_lem : RowLaw operation_request
unfolding tab
operation_request_lem vs h = (refl, spread operation_request.body vs h)

call_start_end : RowLaw call
unfolding tab
call_start_end vs h =
    let a : nth vs 7 ≡ 8 = eight call.body 0 0 vs 7 h refl in
    let b : nth vs 9 ≡ 8 = eight call.body 0 0 vs 9 h refl in
    (refl, rw (a, b) at (spread call.body vs h))

caller_notice_lem : RowLaw caller_notice
unfolding tab
caller_notice_lem vs h = (refl, spread caller_notice.body vs h)

call_result_lem : RowLaw call_result
unfolding tab
call_result_lem vs h =
    let a : nth vs 3 ≡ 8 = eight call_result.body 0 0 vs 3 h refl in
    (refl, rw a at (spread call_result.body vs h))

capture-request : RowLaw capture_request
unfolding tab
capture-request vs h =
    let a : nth vs 1 ≡ 8 = eight capture_request.body 0 0 vs 1 h refl in
    (refl, rw a at (spread capture_request.body vs h))

capture-reply : RowLaw capture_reply
unfolding tab
capture-reply vs h = (refl, spread capture_reply.body vs h)

capture-state : RowLaw capture_state
unfolding tab
capture-state vs h =
    let a : nth vs 1 ≡ 8 = eight capture_state.body 0 0 vs 1 h refl in
    (refl, rw a at (spread capture_state.body vs h))

laws : Each RowLaw table
laws =
    (time_notice_lem, (ring-answer, (operation_answer_lem, (time_request_lem, (base-arrival, (ring_notice_lem, (answer-reply, (operation_request_lem, (call_start_end, (caller_notice_lem, (call_result_lem, (capture-request, (capture-reply, (capture-state, tt))))))))))))))

pub written_form : WrittenForm
unfolding read_telegram telegram_of
written_form s c m e =
    let n = nth (heading s) 1 in
    let i = value_of (take 6 (drop 10 s)) in
    let t = cond-taken (header_ok s) (read_identified n s) _ e (not-read _ c m) in
    let u = cond-taken (all_digits (take 6 (drop 10 s))) (read_in table n i (drop 16 s)) _ t.1 (not-read _ c m) in
    let a = table-back table laws n i c (drop 16 s) m u.1 in
    let r = headed-read s t.0 u.0 in
    let k : c ≤ 1023 = rw a.code_is at r.1 in
    let b = length-bytes (row_of m).body (values_of m) (same_count _ 0 0 _ a.values_in_lem) in
    let l : length s ≡ size_of m = omega (arith, b, length-drop 16 s, ap length a.bytes_are, header_long s t.0) in
    (simp (le-leb c 1023 k, a.values_in_lem), r.0 ∙ (rw (l, a.code_is, ← a.id-is, ← a.bytes_are)))

pub one_form : OneForm
one_form s t c m p q = (written_form s c m p).1 ∙ sym (written_form t c m q).1
