-- What is promised of frames, beside the contracts. `proofs/Kept.antt` has the proof of each under the name given with it, and is
-- the one module of the proofs that other crates cite.
use Rattle.std.specs.Prelude.{ℕ, ◌+◌, ◌≤◌, ◌<◌, List, ◌∷◌, ◌++◌, Bool, true, false, ◌≡◌, length, take, drop}
use Rattle.frames.specs.Bytes.{word}
use Rattle.frames.specs.Frames.{frames_to, frames_in, frame_size}

-- Any number of turns that is enough gives the same frames (`same_frames`): the first one, and those behind it (`first_frame`).
abbrev pub SameFrames : Type 0
SameFrames = (j k : ℕ) (bs : List ℕ) → length bs ≤ j → length bs ≤ k → frames_to j bs ≡ frames_to k bs

abbrev pub FirstFrame : Type 0
FirstFrame = (w : List ℕ) → 0 < length w → frames_in w ≡ take (word w 0 + 2) w ∷ frames_in (drop (word w 0 + 2) w)

-- What is handed on lies within the window (`size-within`), and is something where the bytes have ended and there are any
-- (`size-some`). Of a frame that says too much it is the length (`size-long`), of any other the first frame (`size_cuts`).
abbrev pub SizeWithin : Type 0
SizeWithin = (most : ℕ) (w : List ℕ) (ended : Bool) → frame_size most w ended ≤ length w

abbrev pub SizeSome : Type 0
SizeSome = (most : ℕ) (w : List ℕ) → 0 < length w → 0 < frame_size most w true

abbrev pub SizeLong : Type 0
SizeLong = (most : ℕ) (w : List ℕ) (ended : Bool) → 2 ≤ length w → most < word w 0 → frame_size most w ended ≡ 2

abbrev pub SizeCuts : Type 0
SizeCuts =
    (most : ℕ) (w : List ℕ) → word w 0 ≤ most
    → (take (frame_size most w true) w ≡ take (word w 0 + 2) w) × (drop (frame_size most w true) w ≡ drop (word w 0 + 2) w)

-- A frame that is whole stays the first whatever comes behind it, ended or not (`size-stays`), and one is there at the latest when
-- the window has room for the longest (`size-full`).
abbrev pub SizeStays : Type 0
SizeStays =
    (most : ℕ) (w v : List ℕ) (ended : Bool) → (frame_size most w false ≡ 0 → ⊥) → frame_size most (w ++ v) ended ≡ frame_size most w false

abbrev pub SizeFull : Type 0
SizeFull = (most : ℕ) (w : List ℕ) → most + 2 ≤ length w → frame_size most w false ≡ 0 → ⊥
