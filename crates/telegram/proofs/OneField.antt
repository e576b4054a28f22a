-- Bytes that differ in one plain field alone read alike in all others; so do two 550419s that differ in the source.
-- Assumes nothing.
use Prim.Native.Nat.{ℕ}
use mathlib.Core.List.{List, [], ◌∷◌, ◌++◌}
use mathlib.Core.Bool.{Bool, true, false, ◌&&◌, cond}
use mathlib.Core.Path.{◌≡◌, refl, sym, ap, ◌∙◌}
use native.Mathlib.Omega.{arith}
use native.Mathlib.Nat.{zero-add}
use lib.ListN.{length, get_or, take, drop, set}
use lib.Seq.{drop-drop, get_or-set_other}
use lib.Dec.{leb, lit<}
use Rattle.std.specs.Prelude.{Ok, Err}
use Rattle.laws.specs.Alike.{AlikeBut}
use Rattle.laws.specs.Each.{Each}
use Rattle.laws.proofs.Alike.{part-alike, byte-alike, rest-alike}
use Rattle.laws.proofs.Each.{◌▹◌}
use Rattle.numerals.specs.Digits.{digits_of, all_digits, value_of}
use Rattle.numerals.proofs.Kept.{digits-digits, value_digits}
use Rattle.fields.specs.Fields.{Field, plain, channel, call_type, len, number, body_ok, values_in, body_size}
use Rattle.telegram.specs.Telegram.{nth, ring_answer, under, read_row, heading, header_ok, read_telegram}
use Rattle.telegram.specs.Promises.{digits_at, AlikeButSource, refused, read, SourceApart}
use Rattle.telegram.specs.declared.message.ReadError.TheVariants.{Header, Body}

-- ---- bodies

-- a field that looks at its own number alone
abbrev Own : Field → Type 0
Own f = (y m y' m' v : ℕ) → f.allows y m v ≡ f.allows y' m' v

own_body : (fs : List Field) → Each Own fs → (y m y' m' : ℕ) (b : List ℕ) → body_ok fs y m b ≡ body_ok fs y' m' b
unfolding body_ok
own_body [] o y m y' m' b = refl
own_body (f ∷ fs) o y m y' m' b =
    let v = value_of (take f.width b) in
    rw (o.0 y m y' m' v, own_body fs o.1 m v m' v (drop f.width b))

-- the test of a plain field, which allows every number
plain_test : (x y z : Bool) → (x && (y && true) && z) ≡ ((x && y) && z)
plain_test true true z = refl
plain_test true false z = refl
plain_test false y z = refl

module _ (after : List Field) (w : ℕ) where
  -- fields of which one is plain
  abbrev around : List Field → List Field
  around before = before ++ (plain w ∷ after)

  -- Bodies that are alike but for the bytes of that field, both of them digits or neither: both are right or neither is. The fields
  -- behind it look at their own numbers alone.
  body_alike : Each Own after → (before : List Field) (y m : ℕ) (b c : List ℕ)
      → AlikeBut (body_size before) w b c → digits_at (body_size before) w b ≡ digits_at (body_size before) w c
      → body_ok (around before) y m b ≡ body_ok (around before) y m c
  unfolding body_ok
  body_alike o [] y m b c a d =
      let r : drop w b ≡ drop w c = rw zero-add at a.back in
      let v = value_of (take w b) in
      let v' = value_of (take w c) in
      plain_test (leb w (length b)) (all_digits (take w b)) (body_ok after m v (drop w b))
      ∙ ap (λ (x : Bool). x && body_ok after m v (drop w b)) d
      ∙ ap (λ (x : Bool). (leb w (length c) && all_digits (take w c)) && x) (own_body after o m v m v' (drop w b) ∙ ap (body_ok after m v') r)
      ∙ sym (plain_test (leb w (length c)) (all_digits (take w c)) (body_ok after m v' (drop w c)))
  body_alike o (f ∷ before) y m b c a d =
      let k = f.width in
      let n = body_size before in
      let t : take k b ≡ take k c = part-alike (body_size (f ∷ before)) w b c a 0 k (omega arith) in
      let d' : digits_at n w (drop k b) ≡ digits_at n w (drop k c) = rw (drop-drop n k b, drop-drop n k c) d in
      let i = body_alike o before m (value_of (take k c)) (drop k b) (drop k c) (rest-alike k n w b c a) d' in
      rw (a.long, t, i)

  -- and the numbers of the other fields are the same
  values_alike : (before : List Field) (b c : List ℕ) → AlikeBut (body_size before) w b c → (v : ℕ)
      → set (values_in (around before) b) (length before) v ≡ set (values_in (around before) c) (length before) v
  unfolding values_in
  values_alike [] b c a v =
      let r : drop w b ≡ drop w c = rw zero-add at a.back in
      rw r
  values_alike (f ∷ before) b c a v =
      let k = f.width in
      let t : take k b ≡ take k c = part-alike (body_size (f ∷ before)) w b c a 0 k (omega arith) in
      rw (t, values_alike before (drop k b) (drop k c) (rest-alike k (body_size before) w b c a) v)

-- ---- the 550419

-- the headers
header_alike : (s t : List ℕ) → AlikeBut 21 8 s t → (header_ok s ≡ header_ok t) × (nth (heading s) 1 ≡ nth (heading t) 1)
unfolding header_ok
header_alike s t w =
    let p : take 8 (drop 2 s) ≡ take 8 (drop 2 t) = part-alike 21 8 s t w 2 8 (omega arith) in
    let x : get_or s 0 0 ≡ get_or t 0 0 = byte-alike 21 8 s t w 0 (omega arith) in
    let y : get_or s 1 0 ≡ get_or t 1 0 = byte-alike 21 8 s t w 1 (omega arith) in
    (rw (w.long, x, y, p), rw p)

-- bytes with that identifier read by their header and their body
by_row : (s : List ℕ) → take 6 (drop 10 s) ≡ digits_of 6 550419
    → read_telegram s ≡ cond (header_ok s) (read_row ring_answer (nth (heading s) 1) (drop 16 s)) (Err Header)
unfolding read_telegram
by_row s e = rw (e, digits-digits 6 550419, value_digits 6 550419 (lit< tt))

-- right bodies, wrong ones, wrong headers
readings : (h b : Bool) (c : ℕ) (vs ws : List ℕ) → set vs 3 0 ≡ set ws 3 0
    → AlikeButSource (cond h (cond b (Ok (under c (ring_answer.make vs))) (Err (Body c 550419))) (Err Header))
    (cond h (cond b (Ok (under c (ring_answer.make ws))) (Err (Body c 550419))) (Err Header))
readings true true c vs ws e = rw (other 0 (omega arith), other 1 (omega arith), other 5 (omega arith)) read
  where
    other : (i : ℕ) → (i ≡ 3 → ⊥) → nth vs i ≡ nth ws i
    other i n = sym (get_or-set_other vs 3 i 0 0 n) ∙ ap (λ (l : List ℕ). nth l i) e ∙ get_or-set_other ws 3 i 0 0 n
readings true false c vs ws e = refused
readings false b c vs ws e = refused

pub source_apart : SourceApart
source_apart s t e w d =
    let before = channel ∷ call_type ∷ len ∷ [] in
    let after = len ∷ number ∷ [] in
    let h = header_alike s t w in
    let f : take 6 (drop 10 t) ≡ digits_of 6 550419 = sym (part-alike 21 8 s t w 10 6 (omega arith)) ∙ e in
    let a : AlikeBut 5 8 (drop 16 s) (drop 16 t) = rest-alike 16 5 8 s t w in
    let g : digits_at 5 8 (drop 16 s) ≡ digits_at 5 8 (drop 16 t) = rw (drop-drop 5 16 s, drop-drop 5 16 t) d in
    let own : Each Own after = (λ y m y' m' v. refl) ▹ (λ y m y' m' v. refl) ▹ tt in
    let b = body_alike after 8 own before 0 0 (drop 16 s) (drop 16 t) a g in
    let v = values_alike after 8 before (drop 16 s) (drop 16 t) a 0 in
    rw (by_row s e, by_row t f, h.0, h.1, b)
    (readings (header_ok t) (body_ok ring_answer.body 0 0 (drop 16 t)) (nth (heading t) 1) (values_in ring_answer.body (drop 16 s)) (values_in ring_answer.body (drop 16 t)) v)
