-- The turns of the program, as the contracts of what it calls give each turn: `streams::next` the frame, and `show` the text put for it,
-- with how many bytes wait then, or that the program is to stop.
use Rattle.std.specs.Prelude.{ℕ, List, [], ◌++◌, None, Some, true, false, ◌≡◌}
use Rattle.streams.specs.Places.{Next, frame_at, waiting}
use Rattle.streams.specs.Promises.{came}
use Rattle.streams.specs.declared.place.Place.{Place}
use Rattle.telegrams.specs.Lines.{whole, frame_line}

-- The turns from a buffer and a place on, in which no call of the system fails: the text that they put, and the bytes that came. Once
-- a read has found the end, no more come.
pub data Turns (room long : ℕ) : List ℕ → Place → List ℕ → List ℕ → Type 0 where
  ends : {b : List ℕ} {p : Place} {b' : List ℕ}
      → Next 65535 room long b p b' None → Turns room long b p [] (came b p b' None)
  stops : {b : List ℕ} {p : Place} {b' : List ℕ} {r : Place} {v : List ℕ}
      → Next 65535 room long b p b' (Some r) → (r.ended ≡ true → v ≡ []) → whole (frame_at b' r) ≡ false
      → Turns room long b p (frame_line (frame_at b' r)) (came b p b' (Some r) ++ v)
  goes : {b : List ℕ} {p : Place} {b' : List ℕ} {r : Place} {waits : ℕ} {out v : List ℕ}
      → Next 65535 room long b p b' (Some r) → (r.ended ≡ true → v ≡ []) → whole (frame_at b' r) ≡ true
      → Turns room long b' (waiting r waits) out v → Turns room long b p (frame_line (frame_at b' r) ++ out) (came b p b' (Some r) ++ v)
