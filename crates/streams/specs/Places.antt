-- Where a program stands between its input, a buffer that frames are read into, and its output, a text that waits to be written.
use Rattle.std.specs.Prelude.{◌≡◌, ℕ, ◌+◌, ◌-◌, ◌%◌, ◌^◌, ◌≤◌, ◌<◌, Bool, true, false, cond, ◌&&◌, List, [], length, take, drop, ◌≢◌, nat_le, nat_lt, Option, None, Some, IfSome, IfNone}
use Rattle.frames.specs.Frames.{frame_size}
use Rattle.streams.specs.declared.place.Place.{Place}

-- ---- places

-- nothing is read yet
abbrev pub start : Place
start = record { from = 0; to = 0; filled = 0; ended = false; number = 0; waits = 0 }

-- at the frame from a place of the input to another: the next one by number
abbrev pub at_frame : Place → ℕ → ℕ → ℕ → Bool → Place
at_frame p from to filled ended =
    record { from = from; to = to; filled = filled; ended = ended; number = (p.number + 1) % 2 ^ 64; waits = p.waits }

-- at no frame, since the input cannot be read
abbrev pub unreadable : Place → ℕ → Place
unreadable p filled = record { from = 0; to = 0; filled = filled; ended = false; number = p.number; waits = p.waits }

-- with so many bytes of the text that wait
abbrev pub waiting : Place → ℕ → Place
waiting p waits = record { from = p.from; to = p.to; filled = p.filled; ended = p.ended; number = p.number; waits = waits }

-- ---- a place in a buffer

pub record Within (b : List ℕ) (p : Place) : Type 0 where
  pub frame : p.from ≤ p.to
  pub read : p.to ≤ p.filled
  pub room : p.filled ≤ length b

-- the bytes from a place of a buffer to another
abbrev pub between : ℕ → ℕ → List ℕ → List ℕ
between from to b = take (to - from) (drop from b)

-- the frame; the bytes read from it on, and those behind it
abbrev pub frame_at : List ℕ → Place → List ℕ
frame_at b p = between p.from p.to b

abbrev pub from_frame : List ℕ → Place → List ℕ
from_frame b p = between p.from p.filled b

abbrev pub unread : List ℕ → Place → List ℕ
unread b p = between p.to p.filled b

-- a buffer whose first bytes stay, and that is filled behind them
pub record FilledBehind (before : List ℕ) (have : ℕ) (after : List ℕ) (filled : ℕ) : Type 0 where
  pub kept : take have after ≡ take have before
  pub long : length after ≡ length before
  pub least : have ≤ filled
  pub most : filled ≤ length after

-- ---- the next place, if there is one: at the end of the input there is none

-- the bytes that were unread are the front of those read from the frame on, and the frame is the first of these. Unless the input has
-- ended, there is a whole one.
pub record Hands (most : ℕ) (before : List ℕ) (p : Place) (after : List ℕ) (r : Place) : Type 0 where
  pub front : take (length (unread before p)) (from_frame after r) ≡ unread before p
  pub size : r.to ≡ r.from + frame_size most (from_frame after r) r.ended
  pub whole : r.ended ≡ false → frame_size most (from_frame after r) false ≢ 0

pub record Came (most : ℕ) (before : List ℕ) (p : Place) (after : List ℕ) (r : Place) : Type 0 where
  pub within : Within after r
  pub some : r.from < r.to
  pub number : r.number ≡ (p.number + 1) % 2 ^ 64
  pub hands : Hands most before p after r

-- Whether a read has found the end of the input, and how much of the text waits: where there is no frame, none does.
abbrev pub ended_at : Option Place → Bool
ended_at None = true
ended_at (Some r) = r.ended

abbrev pub waits_at : Option Place → ℕ
waits_at None = 0
waits_at (Some r) = r.waits

-- a frame is there whole, without a read
abbrev pub is_there : ℕ → List ℕ → Place → Bool
is_there most b p = nat_lt 0 (frame_size most (unread b p) false)

-- The next place, where an answer takes up to `room` bytes of a text that has `long`. A frame that is there whole is handed out before
-- more is read. Text that waits is written before more is read, and where it leaves no room for an answer.
pub record Next (most room long : ℕ) (before : List ℕ) (p : Place) (after : List ℕ) (r : Option Place) : Type 0 where
  pub came : IfSome r (Came most before p after)
  pub none : IfNone r (unread before p ≡ [])
  pub unmoved : is_there most before p ≡ true → (after ≡ before) × IfSome r (λ q. q.filled ≡ p.filled)
  pub waits : waits_at r ≡ cond (is_there most before p && nat_le (p.waits + room) long) p.waits 0
  pub spare : waits_at r + room ≤ long

-- ---- the place where a call failed

-- It is before the same frame: the bytes that were unread are still the front of those that are.
pub record Stays (before : List ℕ) (p : Place) (after : List ℕ) (s : Place) : Type 0 where
  pub within : Within after s
  pub number : s.number ≡ p.number
  pub front : take (length (unread before p)) (unread after s) ≡ unread before p

-- As `Next`: what is there whole stays where it is, and text waits only where it leaves room for an answer to that.
pub record Stops (most room long : ℕ) (before : List ℕ) (p : Place) (after : List ℕ) (s : Place) : Type 0 where
  pub stays : Stays before p after s
  pub unmoved : is_there most before p ≡ true → (after ≡ before) × (s.filled ≡ p.filled)
  pub waits : s.waits ≡ cond (is_there most before p && nat_le (p.waits + room) long) p.waits 0
  pub spare : s.waits + room ≤ long
