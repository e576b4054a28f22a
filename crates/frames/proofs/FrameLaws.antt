-- Laws of frames: the first and those behind it, and what is handed on of a window.
-- Assumes nothing.
use Prim.Native.Nat.{ℕ, zero, suc, ◌+◌, ◌-◌, ◌≤◌, ◌<◌}
use mathlib.Core.List.{List, [], ◌∷◌, ◌++◌}
use mathlib.Core.Bool.{Bool, true, false, cond}
use mathlib.Core.Path.{◌≡◌, refl, sym, ap, ◌∙◌}
use native.Mathlib.Omega.{arith}
use lib.Dec.{leb, ltb}
use lib.ListN.{length, take, drop, get_or, length-drop, length-append, get_or-append, drop_of_length-le}
use lib.Seq.{take_all}
use borrow.Author.Tests.{ltb-true, ltb-false, leb-true, leb-false, lt-ltb, le-ltb, le-leb, lt-leb}
use Rattle.laws.proofs.Tests.{by_test}
use Rattle.frames.specs.Bytes.{word}
use Rattle.frames.specs.Frames.{frames_to, frame_size}
use Rattle.frames.specs.Promises.{SameFrames, FirstFrame, SizeWithin, SizeSome, SizeLong, SizeCuts, SizeStays, SizeFull}

-- ---- the frames among bytes

pub same_frames : SameFrames
unfolding frames_to
same_frames zero zero bs h h' = refl
same_frames zero (suc k) [] h h' = refl
same_frames zero (suc k) (x ∷ xs) h h' = absurd (omega arith)
same_frames (suc j) zero [] h h' = refl
same_frames (suc j) zero (x ∷ xs) h h' = absurd (omega arith)
same_frames (suc j) (suc k) [] h h' = refl
same_frames (suc j) (suc k) (x ∷ xs) h h' =
    let n : ℕ = word (x ∷ xs) 0 + 2 in
    let s : length (drop n (x ∷ xs)) ≡ length (x ∷ xs) - n = length-drop n (x ∷ xs) in
    ap (λ (l : List (List ℕ)). take n (x ∷ xs) ∷ l) (same_frames j k (drop n (x ∷ xs)) (omega (arith, s)) (omega (arith, s)))

pub first_frame : FirstFrame
unfolding frames_to
first_frame [] h = absurd (omega arith)
first_frame (x ∷ xs) h =
    let n : ℕ = word (x ∷ xs) 0 + 2 in
    let s : length (drop n (x ∷ xs)) ≡ length (x ∷ xs) - n = length-drop n (x ∷ xs) in
    ap (λ (l : List (List ℕ)). take n (x ∷ xs) ∷ l) (same_frames (length xs) (length (drop n (x ∷ xs))) (drop n (x ∷ xs)) (omega (arith, s)) (omega arith))

-- ---- what is handed on of a window, by its cases

pub size-long : SizeLong
unfolding frame_size
size-long most w e h i = rw (le-leb _ _ h, lt-ltb _ _ i)

pub size-whole : (most : ℕ) (w : List ℕ) (e : Bool) → word w 0 ≤ most → word w 0 + 2 ≤ length w → frame_size most w e ≡ word w 0 + 2
unfolding frame_size
size-whole most w e i j = let h : 2 ≤ length w = omega arith in rw (le-leb _ _ h, le-ltb _ _ i, le-leb _ _ j)

-- fewer than two bytes, or fewer than the length says
pub size-broken : (most : ℕ) (w : List ℕ) (e : Bool) → (2 ≤ length w → word w 0 ≤ most) → length w < word w 0 + 2 → frame_size most w e ≡ cond e (length w) 0
unfolding frame_size
size-broken most w e f j =
    by_test (leb 2 (length w)) (λ a. rw (a, le-ltb _ _ (f (leb-true _ _ a)), lt-leb _ _ j)) (λ a. rw (a, lt-leb _ _ j))

-- a window is one of the three
by_size : {P : Type 0} (most : ℕ) (w : List ℕ) → (2 ≤ length w → most < word w 0 → P) → (word w 0 ≤ most → word w 0 + 2 ≤ length w → P)
    → ((2 ≤ length w → word w 0 ≤ most) → length w < word w 0 + 2 → P) → P
by_size most w long whole broken =
    by_test (ltb most (word w 0)) (λ a. let i = ltb-true most (word w 0) a in
    by_test (leb 2 (length w)) (λ b. long (leb-true 2 (length w) b) i) (λ b. let h = leb-false 2 (length w) b in broken (λ g. absurd (omega (arith, g, h))) (omega arith)))
    (λ a. let i = ltb-false most (word w 0) a in
    by_test (leb (word w 0 + 2) (length w)) (λ b. whole i (leb-true _ _ b)) (λ b. broken (λ _. i) (leb-false _ _ b)))

rest-within : (w : List ℕ) (e : Bool) → cond e (length w) 0 ≤ length w
rest-within w true = omega arith
rest-within w false = omega arith

pub size-within : SizeWithin
size-within most w e =
    by_size most w (λ h i. rw (size-long most w e h i) h) (λ i j. rw (size-whole most w e i j) j) (λ f j. rw (size-broken most w e f j) (rest-within w e))

pub size-some : SizeSome
size-some most w l =
    by_size most w (λ h i. rw (size-long most w true h i) (omega arith)) (λ i j. rw (size-whole most w true i j) (omega arith))
    (λ f j. rw (size-broken most w true f j) l)

pub size_cuts : SizeCuts
size_cuts most w i =
    by_test (leb (word w 0 + 2) (length w)) (λ b. rw (size-whole most w true i (leb-true _ _ b)) (refl, refl))
    (λ b.
    let j = leb-false (word w 0 + 2) (length w) b in
    rw (size-broken most w true (λ _. i) j) (
      take_all (length w) w (omega arith) ∙ sym (take_all (word w 0 + 2) w (omega arith)),
      drop_of_length-le w {i = length w} (omega arith) ∙ sym (drop_of_length-le w {i = word w 0 + 2} (omega arith)),
    ))

word-append : (w v : List ℕ) → 2 ≤ length w → word (w ++ v) 0 ≡ word w 0
word-append w v h =
    let a : get_or (w ++ v) 0 0 ≡ get_or w 0 0 = get_or-append w v 0 0 (omega arith) in
    let b : get_or (w ++ v) 1 0 ≡ get_or w 1 0 = get_or-append w v 0 1 (omega arith) in
    omega (arith, a, b)

pub size-stays : SizeStays
size-stays most w v e f =
    let l = length-append w v in
    by_size most w
    (λ h i. let s = word-append w v h in size-long most (w ++ v) e (omega arith) (omega arith) ∙ sym (size-long most w false h i))
    (λ i j. let s = word-append w v (omega arith) in size-whole most (w ++ v) e (omega arith) (omega arith) ∙ (ap (λ (n : ℕ). n + 2) s ∙ sym (size-whole most w false i j)))
    (λ g j. absurd (f (size-broken most w false g j)))

pub size-full : SizeFull
size-full most w h z =
    by_size most w (λ i j. omega (arith, size-long most w false i j, z)) (λ i j. omega (arith, size-whole most w false i j, z))
    (λ f j. let i = f (omega arith) in omega (arith, i, j))
