-- What is promised of places, beside the contracts: what a program that goes from frame to frame reads of its input. `proofs/Kept.antt`
-- has the proof of each under the name given with it, and is the one module of the proofs that other crates cite.
use Rattle.std.specs.Prelude.{◌≡◌, ℕ, ◌-◌, ◌<◌, ◌≤◌, true, List, [], ◌++◌, length, take, drop, Option, None, Some}
use Rattle.std.specs.Io.KnownBytes.{Appends, Consumes, IsAtEnd}
use Rattle.frames.specs.Frames.{frame_size}
use Rattle.text.specs.Written.{Puts}
use Rattle.streams.specs.Places.{frame_at, from_frame, unread, waiting, waits_at, Next}
use Rattle.streams.specs.declared.place.Place.{Place}

-- the bytes that came with the next place
abbrev pub came : List ℕ → Place → List ℕ → Option Place → List ℕ
came b p b' None = []
came b p b' (Some r) = drop (length (unread b p)) (from_frame b' r)

-- and those that came before a call failed
abbrev pub gained : List ℕ → Place → List ℕ → Place → List ℕ
gained b p b' s = drop (length (unread b p)) (unread b' s)

-- bytes that begin with a frame, cut as those of an input that has ended, and the bytes behind it
pub record Begins (most : ℕ) (bytes frame behind : List ℕ) : Type 0 where
  pub some : 0 < length bytes
  pub first : take (frame_size most bytes true) bytes ≡ frame
  pub rest : drop (frame_size most bytes true) bytes ≡ behind

-- Where there is a next place, with the bytes v still to come, and none of them once a read has found the end: the input from there on
-- begins with the frame (`hands-first`).
abbrev pub HandsFirst : Type 0
HandsFirst =
    (most room long : ℕ) (b : List ℕ) (p : Place) (b' : List ℕ) (r : Place) (v : List ℕ)
    → Next most room long b p b' (Some r) → (r.ended ≡ true → v ≡ [])
    → Begins most (unread b p ++ (came b p b' (Some r) ++ v)) (frame_at b' r) (unread b' r ++ v)

-- Where there is none, nothing is left (`nothing_left`).
abbrev pub NothingLeft : Type 0
NothingLeft = (most room long : ℕ) (b : List ℕ) (p : Place) (b' : List ℕ) → Next most room long b p b' None → unread b p ++ came b p b' None ≡ []

-- A reader whose bytes are known gives what came and has the rest (`gives`), and at its end has none (`none_left`).
abbrev pub Gives : Type 0
Gives = (x : Option (List ℕ)) (v w : List ℕ) → Consumes (Some v) x w → (v' : List ℕ) × (x ≡ Some v') × (v ≡ w ++ v')

abbrev pub NoneLeft : Type 0
NoneLeft = (x : Option (List ℕ)) (v : List ℕ) → x ≡ Some v → IsAtEnd x → v ≡ []

-- Text that waited is written, or still waits (`sends_on`), and bytes that are put behind it wait with it (`put_behind`).
abbrev pub SendsOn : Type 0
SendsOn =
    (most room long : ℕ) (b : List ℕ) (p : Place) (b' : List ℕ) (r : Option Place) (text : List ℕ) → Next most room long b p b' r
    → take (p.waits - waits_at r) text ++ take (waits_at r) text ≡ take p.waits text

abbrev pub PutBehind : Type 0
PutBehind =
    (text : List ℕ) (at : ℕ) (xs text' : List ℕ) (waits : ℕ) → Puts text at xs text' waits → waits ≤ length text
    → take waits text' ≡ take at text ++ xs

-- ---- a program that prints lines for its input, where the bytes of its reader and of its writer are known

-- What was written, what waits and the lines of what is still to come are all its lines.
pub record Stands (all : List ℕ) (lines : List ℕ → List ℕ) (x w₀ w : Option (List ℕ)) (b : List ℕ) (p : Place) (text rest : List ℕ) : Type 0 where
  pub done : List ℕ
  pub known : x ≡ Some rest
  pub sent : Appends w₀ w done
  pub told : done ++ (take p.waits text ++ lines (unread b p ++ rest)) ≡ all

-- At the next frame it stands as before, once the line of that was put, if what is still to come has the other lines (`turn_goes`).
abbrev pub TurnGoes : Type 0
TurnGoes =
    (all : List ℕ) (lines : List ℕ → List ℕ) (x w₀ w x' w' : Option (List ℕ)) (b : List ℕ) (p : Place) (text rest : List ℕ)
    (most room long : ℕ) (b' : List ℕ) (r : Place)
    → Stands all lines x w₀ w b p text rest → Next most room long b p b' (Some r) → Consumes x x' (came b p b' (Some r)) → (r.ended ≡ true → IsAtEnd x')
    → Appends w w' (take (p.waits - r.waits) text)
    → (v : List ℕ) × Begins most (unread b p ++ rest) (frame_at b' r) (unread b' r ++ v)
    × ((lines' : List ℕ → List ℕ) (line text' : List ℕ) (waits : ℕ) → lines (unread b p ++ rest) ≡ line ++ lines' (unread b' r ++ v)
    → Puts text r.waits line text' waits → waits ≤ length text → Stands all lines' x' w₀ w' b' (waiting r waits) text' v)

-- Where there is none, it has written all (`turn_ends`), and so it has where no line is still to come and what waits is written (`printed`).
abbrev pub TurnEnds : Type 0
TurnEnds =
    (all : List ℕ) (lines : List ℕ → List ℕ) (x w₀ w x' w' : Option (List ℕ)) (b : List ℕ) (p : Place) (text rest : List ℕ) (most room long : ℕ) (b' : List ℕ)
    → Stands all lines x w₀ w b p text rest → lines [] ≡ [] → Next most room long b p b' None → Consumes x x' [] → IsAtEnd x'
    → Appends w w' (take (p.waits - 0) text) → Appends w₀ w' all

abbrev pub Printed : Type 0
Printed =
    (all : List ℕ) (lines : List ℕ → List ℕ) (x w₀ w w' : Option (List ℕ)) (b : List ℕ) (p : Place) (text rest : List ℕ)
    → Stands all lines x w₀ w b p text rest → lines (unread b p ++ rest) ≡ [] → Appends w w' (take p.waits text) → Appends w₀ w' all
