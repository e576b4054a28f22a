-- Where the program stands, where the bytes of its reader and of its writer are known.
-- Assumes nothing.
use Rattle.std.proofs.Common.{◌≡◌, ℕ, ◌-◌, ◌+◌, ◌^◌, ◌<◌, ◌≤◌, true, false, List, [], ◌++◌, None, Some, IfSome, length, take, sym, refl, ap, ◌∙◌, arith, length-drop}
use Rattle.std.specs.Io.KnownBytes.{Appends, Consumes, IsAtEnd}
use Rattle.std.proofs.KnownBytes.{Appends-nil}
use Rattle.std.specs.declared.option.Option.{Option}
use Rattle.laws.proofs.Each.{each_drop}
use Rattle.laws.proofs.Lists.{none-long}
use Rattle.frames.specs.Frames.{frame_size}
use Rattle.frames.proofs.Kept.{size-some}
use Rattle.text.specs.Written.{Puts}
use Rattle.text.proofs.Kept.{puts_none}
use Rattle.streams.specs.Places.{start, frame_at, unread, waiting, Next}
use Rattle.streams.specs.Promises.{came, Begins, Stands}
use Rattle.streams.proofs.Kept.{turn_goes, turn_ends, printed}
use Rattle.streams.specs.declared.place.Place.{Place}
use Rattle.telegrams.specs.Lines.{whole, frame_line, telegram_lines}
use Rattle.telegrams.specs.Promises.{Bytes}
use Rattle.telegrams.proofs.TurnLaws.{lines_first, broken-last, lines_none}

-- where it prints the lines of what was given, and as many more turns are left as there are bytes
pub record Prints (given : List ℕ) (x w₀ w : Option (List ℕ)) (b : List ℕ) (p : Place) (text : List ℕ) (left : ℕ) : Type 0 where
  pub rest : List ℕ
  pub stands : Stands (telegram_lines given) telegram_lines x w₀ w b p text rest
  pub bytes : Bytes (unread b p ++ rest)
  pub most : length (unread b p ++ rest) ≤ left

-- where it has printed them, but for what waits
abbrev pub Ends : List ℕ → Option (List ℕ) → Option (List ℕ) → Place → List ℕ → Type 0
Ends given w₀ w p text = (w' : Option (List ℕ)) → Appends w w' (take p.waits text) → Appends w₀ w' (telegram_lines given)

pub first : (given : List ℕ) (x w : Option (List ℕ)) (b : List ℕ) (p : Place) (text : List ℕ) (left : ℕ)
    → p ≡ start → x ≡ Some given → Bytes given → length given ≤ left → Prints given x w w b p text left
first given x w b p text left e k h l = rw e (record { rest = given; stands = record { done = []; known = k; sent = Appends-nil w; told = refl }; bytes = h; most = l })

no_more : (given : List ℕ) {x w₀ w : Option (List ℕ)} {b : List ℕ} {p : Place} {text rest : List ℕ}
    → Stands (telegram_lines given) telegram_lines x w₀ w b p text rest → telegram_lines (unread b p ++ rest) ≡ [] → Ends given w₀ w p text
no_more given s e w' a = printed (telegram_lines given) telegram_lines _ _ _ w' _ _ _ _ s e a

-- where as many frames were read as the program reads, all of them are
pub spent : {given : List ℕ} {x w₀ w : Option (List ℕ)} {b : List ℕ} {p : Place} {text : List ℕ} {left : ℕ} → Prints given x w₀ w b p text left → left ≤ 0 → Ends given w₀ w p text
spent {given} {b = b} {p = p} s z = no_more given s.stands (ap telegram_lines (none-long (unread b p ++ s.rest) (omega (arith, s.most, z))) ∙ lines_none)

-- at the end of the input
pub ends : (x' w' : Option (List ℕ)) {given : List ℕ} {x w₀ w : Option (List ℕ)} {b : List ℕ} {p : Place} {text : List ℕ} {left room long : ℕ} {b' : List ℕ} → Prints given x w₀ w b p text left
    → Next 65535 room long b p b' None → Consumes x x' [] → IsAtEnd x' → Appends w w' (take (p.waits - 0) text) → Appends w₀ w' (telegram_lines given)
ends x' w' s n c d a = turn_ends _ telegram_lines _ _ _ x' w' _ _ _ _ _ _ _ _ s.stands lines_none n c d a

module _ (x' w' : Option (List ℕ)) {given : List ℕ} {x w₀ w : Option (List ℕ)} {b : List ℕ} {p : Place} {text : List ℕ} {left room long : ℕ} {b' : List ℕ} {r : Place}
    (s : Prints given x w₀ w b p text left) (n : Next 65535 room long b p b' (Some r)) (c : Consumes x x' (came b p b' (Some r))) (d : r.ended ≡ true → IsAtEnd x')
    (a : Appends w w' (take (p.waits - r.waits) text)) where
  turn : (v : List ℕ) × Begins 65535 (unread b p ++ s.rest) (frame_at b' r) (unread b' r ++ v)
      × ((lines' : List ℕ → List ℕ) (line text' : List ℕ) (waits : ℕ) → telegram_lines (unread b p ++ s.rest) ≡ line ++ lines' (unread b' r ++ v)
      → Puts text r.waits line text' waits → waits ≤ length text → Stands (telegram_lines given) lines' x' w₀ w' b' (waiting r waits) text' v)
  turn = turn_goes _ telegram_lines _ w₀ w x' w' _ _ _ _ _ _ _ _ r s.stands n c d a

  -- a line was put for a frame
  pub goes : (left' : ℕ) {text' : List ℕ} {waits : ℕ} → left ≤ left' + 1 → Puts text r.waits (frame_line (frame_at b' r)) text' waits → waits ≤ length text
      → Prints given x' w₀ w' b' (waiting r waits) text' left'
  goes left' {text'} {waits} i put h =
      let k : ℕ = frame_size 65535 (unread b p ++ s.rest) true in
      let l : length (unread b' r ++ turn.0) ≡ length (unread b p ++ s.rest) - k = ap length (sym turn.1.rest) ∙ length-drop k (unread b p ++ s.rest) in
      record {
        rest = turn.0;
        stands = turn.2 telegram_lines (frame_line (frame_at b' r)) text' waits (lines_first turn.1 s.bytes) put h;
        bytes = rw turn.1.rest at (each_drop (λ y. y < 256) (frame_size 65535 (unread b p ++ s.rest) true) (unread b p ++ s.rest) s.bytes);
        most = omega (arith, l, i, s.most, turn.1.some, size-some 65535 (unread b p ++ s.rest) turn.1.some);
      }

  -- one that breaks off has none, and there is nothing behind it
  pub stops : whole (frame_at b' r) ≡ false → r.waits ≤ length text → Ends given w₀ w' r text
  unfolding frame_line
  stops t h =
      let none : telegram_lines (unread b' r ++ turn.0) ≡ [] = ap telegram_lines (broken-last turn.1 s.bytes t) ∙ lines_none in
      no_more given (turn.2 telegram_lines [] text r.waits (lines_first turn.1 s.bytes ∙ rw t refl) (puts_none text r.waits) h) none

-- all of that is said of known bytes alone
pub where_known : (x w₀ w : Option (List ℕ)) → ((given : List ℕ) → x ≡ Some given → Bytes given → length given < 2 ^ 64 → Appends w₀ w (telegram_lines given))
    → IfSome x (λ given. Bytes given → length given < 2 ^ 64 → Appends w₀ w (telegram_lines given))
where_known None w₀ w h = tt
where_known (Some given) w₀ w h = h given refl
