-- What is promised of bytes put one behind the other, beside the contracts. `proofs/Kept.antt` has the proof of each under the
-- name given with it, and is the one module of the proofs that other crates cite.
use Rattle.std.specs.Prelude.{ℕ, zero, suc, ◌+◌, ◌/◌, ◌%◌, ◌≤◌, List, ◌++◌, ◌≡◌, length, take, drop, set}
use Rattle.std.proofs.lemmas.List.Edits.{sets}
use Rattle.numerals.specs.Digits.{digits_of}
use Rattle.numerals.specs.Promises.{shifted}
use Rattle.telegram.specs.Telegram.{size_of, telegram_of, over}
use Rattle.telegram.specs.declared.message.Number.{Number}
use Rattle.telegram.specs.declared.message.CallerNotice.{CallerNotice}
use Rattle.telegram.specs.declared.message.CaptureState.{CaptureState}
use Rattle.telegram.specs.declared.message.Ring.{Ring as RingNotice}
use Rattle.telegram.specs.declared.message.CallResult.{CallResult}
use Rattle.telegram.specs.declared.message.Message.{Message}
use Rattle.telegram.specs.declared.message.Message.TheVariants.{RingNotice as Rung, CallerNotice as Notice, CallResult as Result, CaptureState as State}
use Rattle.telegram_forms.specs.Forms.{padded}

-- the digits of v, as the code stores them: each behind those before it
abbrev pub digitwise : ℕ → List ℕ → ℕ → ℕ → List ℕ
digitwise zero t at v = t
digitwise (suc zero) t at v = set t at (48 + v % 10)
digitwise (suc (suc w)) t at v = set (digitwise (suc w) t at (v / 10)) (at + suc w) (48 + v % 10)

-- So stored, they are the number's digits (`put_digits`).
abbrev pub PutDigitByDigit : Type 0
PutDigitByDigit = (w : ℕ) (t : List ℕ) (at v : ℕ) → digitwise w t at v ≡ sets t at (digits_of w v)

-- Two shorter fields are a longer one (`put_both`).
abbrev pub PutInTwo : Type 0
PutInTwo =
    (a b : ℕ) (t : List ℕ) (at v : ℕ)
    → sets (sets t at (digits_of a (shifted b v))) (at + a) (digits_of b v) ≡ sets t at (digits_of (a + b) v)

-- Another number can be put into a caller notice (`put_caller`), into a capture state (`put_holder`), and for the destination into a
-- ring notice (`put_rung`) and a call result (`put_called`).
abbrev pub PutCaller : Type 0
PutCaller =
    (z : List ℕ) (c : ℕ) (m : CallerNotice) (n : Number)
    → sets (sets z 0 (telegram_of c (Notice m))) 24 (digits_of 8 n.digits)
    ≡ sets z 0 (telegram_of c (Notice (record { channel = m.channel; base = m.base; kind = m.kind; direction = m.direction; number = n; order = m.order })))

abbrev pub PutHolder : Type 0
PutHolder =
    (z : List ℕ) (c : ℕ) (m : CaptureState) (n : Number)
    → sets (sets z 0 (telegram_of c (State m))) 20 (digits_of 8 n.digits)
    ≡ sets z 0 (telegram_of c (State (record { channel = m.channel; number = n; state = m.state })))

abbrev pub PutRung : Type 0
PutRung =
    (z : List ℕ) (c : ℕ) (m : RingNotice) (n : Number)
    → sets (sets z 0 (telegram_of c (Rung m))) 30 (digits_of 8 n.digits)
    ≡ sets z 0 (telegram_of c (Rung (record { channel = m.channel; kind = m.kind; source = m.source; destination = n })))

abbrev pub PutCalled : Type 0
PutCalled =
    (z : List ℕ) (c : ℕ) (m : CallResult) (n : Number)
    → sets (sets z 0 (telegram_of c (Result m))) 22 (digits_of 8 n.digits)
    ≡ sets z 0 (telegram_of c (Result (record { channel = m.channel; kind = m.kind; result = m.result; destination = n })))

-- An array that holds a telegram has 46 bytes (`length-padded`).
abbrev pub Padded46 : Type 0
Padded46 = (bs : List ℕ) → length (padded bs) ≡ 46

-- A form copied to the front of a buffer, and then an organisation code, is the telegram under that code (`form_put`), with the
-- bytes of the buffer behind it (`form_over`).
abbrev pub FormPut : Type 0
FormPut =
    (c : ℕ) (m : Message) (b : List ℕ) → size_of m ≤ length b
    → sets (take (size_of m) (padded (telegram_of 0 m)) ++ drop (size_of m) b) 6 (digits_of 4 c) ≡ sets b 0 (telegram_of c m)

abbrev pub FormOver : Type 0
FormOver =
    (c : ℕ) (m : Message) (b : List ℕ) → size_of m ≤ length b
    → sets (take (size_of m) (padded (telegram_of 0 m)) ++ drop (size_of m) b) 6 (digits_of 4 c) ≡ over (telegram_of c m) b
