-- The turns of a program that reads a feed and prints the answers, as the contracts of what it calls give each turn: `streams::next`
-- the entry, `step_in` the answer to it, and the program's own function the text put for it, behind which so many bytes wait.
use Rattle.std.specs.Prelude.{ℕ, List, [], ◌++◌, None, Some, true, ◌≡◌}
use Rattle.answer_lines.specs.Lines.{lines_of}
use Rattle.streams.specs.Places.{Next, frame_at, waiting}
use Rattle.streams.specs.Promises.{came}
use Rattle.streams.specs.declared.place.Place.{Place}
use Rattle.set_rules.specs.Feeds.{Outcome, step_of}
use Rattle.set_state.specs.declared.state.LineSet.{LineSet}

-- the answer to the entry at a place, with a buffer of 32,768 bytes, and its text
abbrev pub answer_at : LineSet → List ℕ → Place → Outcome
answer_at s b p = step_of s (frame_at b p) 32768

abbrev pub text_at : LineSet → List ℕ → Place → List ℕ
text_at s b p = lines_of p.number (answer_at s b p).refusal (answer_at s b p).count (answer_at s b p).bytes

-- The turns from a set, a buffer and a place on, in which no call of the system fails: the text that they put, and the bytes that came.
-- Once a read has found the end, no more come.
pub data Turns (most room long : ℕ) : LineSet → List ℕ → Place → List ℕ → List ℕ → Type 0 where
  ends : {s : LineSet} {b : List ℕ} {p : Place} {b' : List ℕ}
      → Next most room long b p b' None → Turns most room long s b p [] (came b p b' None)
  stops : {s : LineSet} {b : List ℕ} {p : Place} {b' : List ℕ} {r : Place} {v : List ℕ}
      → Next most room long b p b' (Some r) → (r.ended ≡ true → v ≡ []) → (answer_at s b' r).refusal ≡ 1
      → Turns most room long s b p (text_at s b' r) (came b p b' (Some r) ++ v)
  goes : {s : LineSet} {b : List ℕ} {p : Place} {b' : List ℕ} {r : Place} {waits : ℕ} {out v : List ℕ}
      → Next most room long b p b' (Some r) → (r.ended ≡ true → v ≡ []) → ((answer_at s b' r).refusal ≡ 1 → ⊥)
      → Turns most room long (answer_at s b' r).after b' (waiting r waits) out v
      → Turns most room long s b p (text_at s b' r ++ out) (came b p b' (Some r) ++ v)
