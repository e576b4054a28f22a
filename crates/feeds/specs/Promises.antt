-- What is promised of whole feeds as bytes. `proofs/Kept.antt` has the proof of each under the name given with it.
use Rattle.std.specs.Prelude.{ℕ, ◌^◌, ◌<◌, List, [], ◌∷◌, ◌++◌, true, false, cond, ◌≡◌, length, take, drop}
use Prim.Native.String.{String}
use Rattle.text.specs.Ascii.{ascii}
use Rattle.frames.specs.Frames.{frame_size}
use Rattle.streams.specs.Places.{start}
use Rattle.set_state.specs.State.{new_set}
use Rattle.set_state.specs.declared.state.LineSet.{LineSet}
use Rattle.set_rules.specs.Entries.{measured}
use Rattle.set_rules.specs.Feeds.{step_of, run}
use Rattle.set_rules.specs.Spelling.{until_running, capture_entry, entry_of}
use Rattle.feeds.specs.Listing.{entries_in, lent_to, listing_of}
use Rattle.feeds.specs.Turns.{Turns}

-- 1. An entry is refused with 1 exactly if it is not measured right, whatever the set and the buffer (`with_one`, `not_with_one`).
abbrev pub RefusedWithOne : Type 0
RefusedWithOne = (s : LineSet) (e : List ℕ) (room : ℕ) → measured e ≡ false → (step_of s e room).refusal ≡ 1

abbrev pub RefusedWithOneOnly : Type 0
RefusedWithOneOnly = (s : LineSet) (e : List ℕ) (room : ℕ) → measured e ≡ true → (step_of s e room).refusal ≡ 1 → ⊥

-- 2. The entries that are read of a feed, one by one, as a reader cuts them (`first_entry`).
abbrev pub FirstEntry : Type 0
FirstEntry =
    (w : List ℕ) → 0 < length w
    → let size : ℕ = frame_size 12000 w true in
    entries_in w ≡ take size w ∷ cond (measured (take size w)) (entries_in (drop size w)) []

-- 3. What their buffers hold does not matter (`first-answer`).
abbrev pub FirstAnswer : Type 0
FirstAnswer =
    (s : LineSet) (room : ℕ) (e : List ℕ) (es : List (List ℕ))
    → run s (lent_to room (e ∷ es)) ≡ step_of s e room ∷ run (step_of s e room).after (lent_to room es)

-- 4. Whatever the bytes of a feed came in, the turns from a new set put the listing of the feed (`turns_print`).
abbrev pub Prints : Type 0
Prints =
    (room long : ℕ) (b out feed : List ℕ) → length (entries_in feed) < 2 ^ 64 → Turns 12000 room long new_set b start out feed
    → out ≡ listing_of feed

-- 5. 01's "whole listing", as text (`whole-listing`)
unfoldable pub joined : List (List ℕ) → List ℕ
joined [] = []
joined (e ∷ es) = e ++ joined es

abbrev pub listing : String
listing = "E 1 0 21\nT 0 DV00160012550461\nE 2 11 0\nE 3 0 21\nT 0 DV00160012550471\nE 4 0 0\nE 5 0 59\nT 0 DV002000125506500070\nT 0 DV002900125506510078001200011\nE 6 0 34\nT 0 DV002900125506510078001200010\n"

abbrev pub WholeListing : Type 0
WholeListing = listing_of (joined (until_running ++ (capture_entry 7 ∷ entry_of 8 [] ∷ []))) ≡ ascii listing
