-- Bytes put one behind the other: digits over the width, fields over the list of fields, and a telegram.
-- Assumes nothing.
use Prim.Native.Nat.{ℕ, zero, suc, ◌+◌, ◌/◌, ◌%◌, ◌≤◌, ◌<◌}
use mathlib.Core.List.{List, [], ◌∷◌, ◌++◌}
use mathlib.Core.Path.{◌≡◌, refl, sym, ap, ◌∙◌}
use native.Mathlib.Nat.{zero-add}
use native.Mathlib.Omega.{arith}
use Rattle.laws.proofs.Lists.{sets_append}
use lib.ListN.{length, take, drop, set, replicate}
use lib.Seq.{sets, sets-eq, length-sets, set-set, set_comm, take_at}
use Rattle.numerals.specs.Digits.{digits_of}
use Rattle.fields.specs.Fields.{Field, plain, bytes_of}
use Rattle.numerals.specs.Promises.{shifted}
use Rattle.numerals.proofs.Kept.{length_digits, digits-none, digits_suc, digits-split}
use Rattle.telegram.specs.Telegram.{row_of, values_of, size_of, headed, telegram_of}
use Rattle.telegram.specs.declared.message.Message.{Message}
use Rattle.telegram.specs.declared.message.Message.TheVariants.{RingNotice as Rung, CallerNotice as Notice, CallResult as Result, CaptureState as State}
use Rattle.telegram.proofs.Kept.{size-most, length-telegram}
use Rattle.telegram_forms.specs.Forms.{padded}
use Rattle.telegram_forms.specs.Promises.{PutDigitByDigit, PutInTwo, PutCaller, PutHolder, PutRung, PutCalled, Padded46, FormPut, FormOver}

-- ---- stores in another order

module _ {A : Type 0} where
  -- a store before a run of stores
  set_before : (l : List A) (i j : ℕ) (a : A) (xs : List A) → i < j → set (sets l j xs) i a ≡ sets (set l i a) j xs
  set_before l i j a [] h = refl
  set_before l i j a (x ∷ xs) h =
      set_before (set l j x) i (suc j) a xs (omega arith) ∙ ap (λ (r : List A). sets r (suc j) xs) (set_comm l j i x a (λ e. omega (arith, e)))

  -- the first stores of a run, stored again
  sets_again : (l : List A) (i : ℕ) (xs ys zs : List A) → length xs ≡ length ys → sets (sets l i (xs ++ zs)) i ys ≡ sets l i (ys ++ zs)
  sets_again l i [] [] zs e = refl
  sets_again l i [] (y ∷ ys) zs e = absurd (omega (arith, e))
  sets_again l i (x ∷ xs) [] zs e = absurd (omega (arith, e))
  sets_again l i (x ∷ xs) (y ∷ ys) zs e =
      ap (λ (r : List A). sets r (suc i) ys) (set_before (set l i x) i (suc i) y (xs ++ zs) (omega arith) ∙ ap (λ (r : List A). sets r (suc i) (xs ++ zs)) (set-set l i x y))
      ∙ sets_again (set l i y) (suc i) xs ys zs (omega (arith, e))

-- ---- digits

pub put_digits : PutDigitByDigit
put_digits zero t at v = rw digits-none
put_digits (suc zero) t at v = rw (digits_suc, digits-none)
put_digits (suc (suc w)) t at v = rw (put_digits (suc w) t at (v / 10), digits_suc (suc w) v, sets_append, length_digits)

pub put_both : PutInTwo
put_both a b t at v = rw (digits-split a b v, sets_append, length_digits)

-- a number without its last digits, and one digit less
pub shifted-out : (n v : ℕ) → shifted n (v / 10) ≡ shifted n v / 10
shifted-out zero v = refl
shifted-out (suc n) v = shifted-out n (v / 10)

-- one digit more, before those that are put
pub put_before : (n : ℕ) (t : List ℕ) (at v : ℕ) → set (sets t (suc at) (digits_of n v)) at (48 + shifted n v % 10) ≡ sets t at (digits_of (suc n) v)
put_before n t at v =
    let one-more : suc n ≡ 1 + n = omega arith in
    set_before t at (suc at) (48 + shifted n v % 10) (digits_of n v) (omega arith)
    ∙ rw (one-more, digits-split 1 n v, digits_suc, digits-none) refl

-- ---- fields

-- numbers in their fields, as the code puts them: one field behind the other
abbrev pub fieldwise : List ℕ → ℕ → List Field → List ℕ → List ℕ
fieldwise t at [] vs = t
fieldwise t at (f ∷ fs) [] = t
fieldwise t at (f ∷ fs) (v ∷ vs) = fieldwise (sets t at (digits_of f.width v)) (at + f.width) fs vs

pub put_fields : (fs : List Field) (vs t : List ℕ) (at : ℕ) → fieldwise t at fs vs ≡ sets t at (bytes_of fs vs)
unfolding bytes_of
put_fields [] vs t at = refl
put_fields (f ∷ fs) [] t at = refl
put_fields (f ∷ fs) (v ∷ vs) t at =
    put_fields fs vs (sets t at (digits_of f.width v)) (at + f.width) ∙ rw (sets_append, length_digits)

-- ---- a telegram

-- a header's numbers are fields before those of the body
headed-fields : (z : List ℕ) (n c i : ℕ) (fs : List Field) (vs : List ℕ)
    → fieldwise (sets (sets (sets (set (set z 0 68) 1 86) 2 (digits_of 4 n)) 6 (digits_of 4 c)) 10 (digits_of 6 i)) 16 fs vs
    ≡ sets z 0 (headed n c i (bytes_of fs vs))
unfolding bytes_of
headed-fields z n c i fs vs = put_fields (plain 4 ∷ plain 4 ∷ plain 6 ∷ fs) (n ∷ c ∷ i ∷ vs) (set (set z 0 68) 1 86) 2

-- a header alone
pub put_header : (z : List ℕ) (n c i : ℕ)
    → sets (sets (sets (set (set z 0 68) 1 86) 2 (digits_of 4 n)) 6 (digits_of 4 c)) 10 (digits_of 6 i) ≡ sets z 0 (headed n c i [])
unfolding bytes_of
put_header z n c i = headed-fields z n c i [] []

-- an array into which a message is put: its header, and then its fields
pub put_form : (m : Message)
    → fieldwise (padded (headed (size_of m) 0 (row_of m).id [])) 16 (row_of m).body (values_of m) ≡ padded (telegram_of 0 m)
unfolding telegram_of bytes_of padded
put_form m =
    let start = headed-fields (replicate 46 0) (size_of m) 0 (row_of m).id in
    rw (← start [] [], start) refl

-- The same two from right to left: with these two the check finds each form alone.
pub body_by_fields : (fs : List Field) (vs t : List ℕ) (at : ℕ) → sets t at (bytes_of fs vs) ≡ fieldwise t at fs vs
body_by_fields fs vs t at = sym (put_fields fs vs t at)

pub form_by_fields : (m : Message)
    → padded (telegram_of 0 m) ≡ fieldwise (padded (headed (size_of m) 0 (row_of m).id [])) 16 (row_of m).body (values_of m)
form_by_fields m = sym (put_form m)

-- ---- other numbers put into a telegram

-- the place of the i-th field, where the first is at `at`, and its width
abbrev pub place_of : ℕ → ℕ → List Field → ℕ
place_of i at [] = at
place_of zero at (f ∷ fs) = at
place_of (suc i) at (f ∷ fs) = place_of i (at + f.width) fs

abbrev pub width_of : ℕ → List Field → ℕ
width_of i [] = 0
width_of zero (f ∷ fs) = f.width
width_of (suc i) (f ∷ fs) = width_of i fs

-- another number in the i-th field
pub put_field : (i : ℕ) (fs : List Field) (vs t : List ℕ) (at v : ℕ) → i < length vs
    → sets (sets t at (bytes_of fs vs)) (place_of i at fs) (digits_of (width_of i fs) v) ≡ sets t at (bytes_of fs (set vs i v))
unfolding bytes_of
put_field i [] vs t at v h = rw digits-none refl
put_field i (f ∷ fs) [] t at v h = absurd (omega arith)
put_field zero (f ∷ fs) (w ∷ ws) t at v h = sets_again t at (digits_of f.width w) (digits_of f.width v) (bytes_of fs ws) (simp length_digits refl)
put_field (suc i) (f ∷ fs) (w ∷ ws) t at v h =
    let first = digits_of f.width w in
    rw (sets_append t at first (bytes_of fs ws), sets_append t at first (bytes_of fs (set ws i v)), length_digits) (put_field i fs ws (sets t at (digits_of f.width w)) (at + f.width) v (omega arith))

-- a telegram's numbers, with those of its header before those of its body
abbrev pub all_fields : Message → List Field
all_fields m = plain 4 ∷ plain 4 ∷ plain 6 ∷ (row_of m).body

abbrev pub all_values : ℕ → Message → List ℕ
all_values c m = size_of m ∷ c ∷ (row_of m).id ∷ values_of m

telegram-fields : (z : List ℕ) (c : ℕ) (m : Message) → sets z 0 (telegram_of c m) ≡ sets (set (set z 0 68) 1 86) 2 (bytes_of (all_fields m) (all_values c m))
unfolding telegram_of bytes_of
telegram-fields z c m = refl

put_value : (i c c' v : ℕ) (m m' : Message) → i < length (all_values c m) → all_fields m' ≡ all_fields m → all_values c' m' ≡ set (all_values c m) i v
    → (z : List ℕ) → sets (sets z 0 (telegram_of c m)) (place_of i 2 (all_fields m)) (digits_of (width_of i (all_fields m)) v) ≡ sets z 0 (telegram_of c' m')
put_value i c c' v m m' h ef ev z =
    rw (telegram-fields z c m, telegram-fields z c' m', ef, ev) (put_field i (all_fields m) (all_values c m) (set (set z 0 68) 1 86) 2 v h)

-- an organisation code in the place of code 0
put_code : (z : List ℕ) (c : ℕ) (m : Message) → sets (sets z 0 (telegram_of 0 m)) 6 (digits_of 4 c) ≡ sets z 0 (telegram_of c m)
put_code z c m = put_value 1 0 c c m m (omega arith) refl refl z

-- another number in a caller notice, a capture state, a ring notice and a call result
pub put_caller : PutCaller
put_caller z c m n = put_value 7 c c n.digits (Notice m) _ (omega arith) refl refl z

pub put_holder : PutHolder
put_holder z c m n = put_value 5 c c n.digits (State m) _ (omega arith) refl refl z

pub put_rung : PutRung
put_rung z c m n = put_value 8 c c n.digits (Rung m) _ (omega arith) refl refl z

pub put_called : PutCalled
put_called z c m n = put_value 7 c c n.digits (Result m) _ (omega arith) refl refl z

-- ---- a telegram in a buffer

pub length-padded : Padded46
unfolding padded
length-padded bs = length-sets (replicate 46 0) 0 bs

-- bytes at the front of an array, copied to the front of a buffer
copied : (n : ℕ) (z bs b : List ℕ) → length bs ≡ n → n ≤ length z → n ≤ length b → take n (sets z 0 bs) ++ drop n b ≡ sets b 0 bs
copied n z bs b e h k =
    let fits : 0 + length bs ≤ length z = omega arith in
    let fits-too : 0 + length bs ≤ length b = omega arith in
    rw (sets-eq bs z 0 fits, sets-eq bs b 0 fits-too, take_at bs _ n e, zero-add, e)

-- a form, under an organisation code; an array of 46 bytes has room for any telegram
pub form_put : FormPut
unfolding padded
form_put c m b h = rw (copied (size_of m) (replicate 46 0) (telegram_of 0 m) b (length-telegram 0 m) (size-most m) h) (put_code b c m)

-- the same, with the bytes of the buffer behind it
pub form_over : FormOver
form_over c m b h =
    let fits : 0 + length (telegram_of c m) ≤ length b = omega (arith, h, length-telegram c m) in
    form_put c m b h ∙ rw (sets-eq (telegram_of c m) b 0 fits, zero-add) refl
