-- Frames, as entries, records and the telegrams of a file are: "length (2 bytes, big-endian, counts all bytes after it)".
use Rattle.std.specs.Prelude.{ℕ, zero, suc, ◌+◌, List, [], ◌∷◌, Bool, ◌&&◌, cond, leb, ltb, length, take, drop}
use Rattle.frames.specs.Bytes.{word}

-- the frames among bytes, the first k at most; one that breaks off is what is there of it
unfoldable pub frames_to : ℕ → List ℕ → List (List ℕ)
frames_to zero bs = []
frames_to (suc k) [] = []
frames_to (suc k) (b ∷ bs) = take (word (b ∷ bs) 0 + 2) (b ∷ bs) ∷ frames_to k (drop (word (b ∷ bs) 0 + 2) (b ∷ bs))

abbrev pub frames_in : List ℕ → List (List ℕ)
frames_in bs = frames_to (length bs) bs

-- How many bytes of a window to hand on as its first frame, where bytes are still coming unless they have ended: of a frame that
-- says more than `most`, its length alone; a whole one; one that breaks off only where no more can come, and else 0, to wait.
unfoldable pub frame_size : ℕ → List ℕ → Bool → ℕ
frame_size most w ended =
    cond (leb 2 (length w) && ltb most (word w 0)) 2
    (cond (leb (word w 0 + 2) (length w)) (word w 0 + 2)
    (cond ended (length w) 0))
