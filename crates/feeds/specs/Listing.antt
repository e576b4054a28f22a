-- 01, the replay program: "reads entries from standard input, gives each a 32,768-byte buffer and prints .. It stops at the end, or after
-- an entry refused with 1. It keeps one set in its memory for the whole run and steps that one."
use Rattle.std.specs.Prelude.{ℕ, ◌+◌, List, [], ◌∷◌, ◌++◌, map, cond, leb, take}
use Rattle.frames.specs.Bytes.{word}
use Rattle.frames.specs.Frames.{frames_in}
use Rattle.answer_lines.specs.Lines.{lines_of}
use Rattle.set_state.specs.State.{new_set}
use Rattle.set_rules.specs.Entries.{measured}
use Rattle.set_rules.specs.Feeds.{Outcome, Item, run}
use Rattle.set_rules.specs.Spelling.{lent_room}

-- The entries that are read of some frames. The first that is refused with 1 is the last one, and if its length is above 12,000, it
-- is the length alone.
unfoldable pub entries_of : List (List ℕ) → List (List ℕ)
entries_of [] = []
entries_of (f ∷ fs) = cond (measured f) (f ∷ entries_of fs) (cond (leb (word f 0) 12000) f (take 2 f) ∷ [])

unfoldable pub entries_in : List ℕ → List (List ℕ)
entries_in feed = entries_of (frames_in feed)

-- entries, each with a buffer of so many bytes
abbrev pub lent_to : ℕ → List (List ℕ) → List Item
lent_to room = map (lent_room room)

-- the lines of some answers, the first being that to the entry of a number
unfoldable pub listed : ℕ → List Outcome → List ℕ
listed n [] = []
listed n (o ∷ os) = lines_of n o.refusal o.count o.bytes ++ listed (n + 1) os

-- what is printed for a feed
unfoldable pub listing_of : List ℕ → List ℕ
listing_of feed = listed 1 (run new_set (lent_to 32768 (entries_in feed)))
