-- What the writer leaves in a text, and how long the lines are.
-- Assumes nothing.
use Prim.Native.Nat.{ℕ, ◌+◌, ◌-◌, ◌^◌, ◌≤◌, ◌<◌}
use mathlib.Core.List.{List, [], append-nil, append_assoc}
use mathlib.Core.Bool.{true}
use mathlib.Core.Logic.{◌⊎◌, inl, inr}
use mathlib.Core.Path.{◌≡◌, refl, sym, ap, ◌∙◌}
use native.Mathlib.Omega.{arith}
use lib.Dec.{leb}
use lib.ListN.{length, take, drop, length-drop, length-append}
use lib.Seq.{sets, drop-drop, drop-length, sets-eq}
use borrow.Author.Tests.{le-leb}
use borrow.Rule.Slice.PartMut.{put_mid}
use Rattle.std.specs.Prelude.{Ok, Err}
use Rattle.laws.proofs.Lists.{part_to_end}
use Rattle.text.specs.Ascii.{ascii}
use Rattle.text.specs.Decimal.{decimal}
use Rattle.text.specs.Written.{written, Puts}
use Rattle.text.proofs.Kept.{decimal-length}
use Rattle.telegram.specs.declared.message.ReadError.{ReadError}
use Rattle.telegram.specs.Telegram.{Written, refusal_of, size_of, telegram_of, sendable, over, read_telegram, write_answer, write_into, write_refusal, write_count}
use Rattle.telegram.specs.declared.message.Message.{Message}
use Rattle.telegram.specs.Promises.{RefusedRight}
use Rattle.telegram.specs.Telegram.{Reading}
use Rattle.telegram.proofs.Kept.{length-telegram, size-most, writer_numbers, reader_numbers}
use Rattle.telegrams.specs.Promises.{LinesShort}
use Rattle.telegrams.specs.Lines.{message_line, reading_line, answer_line}

-- bytes at the front of the part from a place to the end are bytes put at the place
part_put : (xs b : List ℕ) (at : ℕ) → at + length xs ≤ length b → put_mid at (length b - at) b (over xs (take (length b - at) (drop at b))) ≡ sets b at xs
part_put xs b at h =
    let k : at + (length b - at) ≡ length b = omega arith in
    let none : drop (length b - at) (drop at b) ≡ [] = drop-drop (length b - at) at b ∙ (ap (λ (n : ℕ). drop n b) k ∙ drop-length b) in
    rw (part_to_end b at, none, append-nil, drop-drop (length xs) at b) (sym (sets-eq xs b at h ∙ append_assoc (take at b) xs (drop (at + length xs) b)))

-- ---- a message that can be sent, and that has room from a place of a text on

module _ (c : ℕ) (m : Message) (s : sendable c m ≡ true) (b : List ℕ) (at : ℕ) (h : at + 46 ≤ length b) where
  abbrev part : List ℕ
  part = take (length b - at) (drop at b)

  roomy : leb (size_of m) (length part) ≡ true
  roomy =
      let l : length part ≡ length b - at = ap length (part_to_end b at) ∙ length-drop at b in
      le-leb (size_of m) (length part) (omega (arith, l, size-most m))

  -- the writer does not refuse it, and counts its bytes
  pub not-refused : {w : Written} → w ≡ write_answer c m (length part) → write_refusal w ≡ 0
  not-refused e = rw e ((writer_numbers c m (length part)).0 ∙ rw (s, roomy) refl)

  pub counted : {w : Written} → w ≡ write_answer c m (length part) → write_count w ≡ length (telegram_of c m)
  counted e = rw e ((writer_numbers c m (length part)).1 ∙ rw (s, roomy) refl)

  -- what it leaves there is the telegram put
  pub message_put : {ys : List ℕ} {n : ℕ} → ys ≡ write_into c m part → n ≡ length (telegram_of c m) → Puts b at (telegram_of c m) (put_mid at (length b - at) b ys) (at + n)
  unfolding written write_into
  message_put {ys} {n} e k =
      let all : ys ≡ over (telegram_of c m) part = e ∙ rw (s, roomy) refl in
      record {
        text = rw all (part_put (telegram_of c m) b at (omega (arith, length-telegram c m, size-most m)));
        place = ap (λ (j : ℕ). at + j) k;
      }

-- ---- the line by what the bytes read as

pub line_of : (s : List ℕ) {r : Reading} → read_telegram s ≡ r → answer_line s ≡ reading_line r
unfolding answer_line
line_of s e = ap reading_line e

-- a refusal number has two digits at most
pub few-digits : (s : List ℕ) {x : ReadError} → read_telegram s ≡ Err x → length (decimal (refusal_of x)) ≤ 2
few-digits s {x} e =
    let r : RefusedRight (Err x) = rw e at (reader_numbers s) in
    decimal-length 1 (refusal_of x) (small r)
  where
    small : (refusal_of x ≡ 8) ⊎ ((refusal_of x ≡ 9) ⊎ (refusal_of x ≡ 10)) → refusal_of x < 10 ^ 2
    small (inl k) = omega arith
    small (inr (inl k)) = omega arith
    small (inr (inr k)) = omega arith

-- no line is longer than 64 bytes
message-short : (c : ℕ) (m : Message) → length (message_line c m) ≤ 64
unfolding message_line ascii
message-short c m = simp length-append (omega (arith, length-telegram c m, size-most m))

pub line-short : LinesShort
line-short s = go (read_telegram s) refl
  where
    go : (r : Reading) → read_telegram s ≡ r → length (answer_line s) ≤ 64
    go (Ok t) e = rw (line_of s e) (message-short t.code t.message)
    go (Err x) e = rw (line_of s e) (simp length-append (omega (arith, few-digits s e)))
