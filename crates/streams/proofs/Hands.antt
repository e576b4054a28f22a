-- What a program that goes from frame to frame reads of its input.
-- Assumes nothing.
use Rattle.std.proofs.Common.{◌≡◌, ℕ, ◌+◌, ◌-◌, ◌≤◌, Bool, true, false, List, [], ◌++◌, Some, length, take, drop, sym, refl, ap, ◌∙◌, append_assoc, append-nil, arith, length-append, take-append-drop, take-take, drop-drop}
use lib.Seq.{take-append-le, drop-append-le}
use Rattle.frames.specs.Frames.{frame_size}
use Rattle.frames.proofs.Kept.{size-within, size-stays}
use Rattle.streams.specs.Places.{Within, frame_at, from_frame, unread, Hands, Next}
use Rattle.streams.specs.Promises.{came, HandsFirst, NothingLeft}
use Rattle.streams.proofs.Moving.{drop-take}
use Rattle.streams.specs.declared.place.Place.{Place}

-- the bytes read from the frame on are the frame and those behind it
module _ (b : List ℕ) (r : Place) (w : Within b r) (s : ℕ) (e : r.to ≡ r.from + s) where
  frame-first : take s (from_frame b r) ≡ frame_at b r
  frame-first =
      let k : r.to - r.from ≡ s = omega arith in
      let h : s ≤ r.filled - r.from = omega (arith, w.read) in
      take-take s (r.filled - r.from) (drop r.from b) h ∙ ap (λ (n : ℕ). take n (drop r.from b)) (sym k)

  frame-behind : drop s (from_frame b r) ≡ unread b r
  frame-behind =
      let k : r.filled - r.from - s ≡ r.filled - r.to = omega arith in
      drop-take s (r.filled - r.from) (drop r.from b)
      ∙ (ap (λ (n : ℕ). take n (drop s (drop r.from b))) k
      ∙ ap (λ (l : List ℕ). take (r.filled - r.to) l) (drop-drop s r.from b ∙ ap (λ (n : ℕ). drop n b) (sym e)))

-- what is handed on stays right with the bytes still to come: there are none, or the frame is whole
size_then : (most : ℕ) (w v : List ℕ) (ended : Bool) → (ended ≡ true → v ≡ []) → (ended ≡ false → frame_size most w false ≡ 0 → ⊥) → frame_size most (w ++ v) true ≡ frame_size most w ended
size_then most w v true c f = ap (λ (l : List ℕ). frame_size most l true) (ap (λ (l : List ℕ). w ++ l) (c refl) ∙ append-nil w)
size_then most w v false c f = size-stays most w v true (f refl)

module _ (most room long : ℕ) (b : List ℕ) (p : Place) (b' : List ℕ) (r : Place) (n : Next most room long b p b' (Some r)) where
  front_and_came : unread b p ++ came b p b' (Some r) ≡ from_frame b' r
  front_and_came = ap (λ (l : List ℕ). l ++ came b p b' (Some r)) (sym n.came.hands.front) ∙ take-append-drop (length (unread b p)) (from_frame b' r)

pub hands-first : HandsFirst
hands-first most room long b p b' r v n c =
    let h : Hands most b p b' r = n.came.hands in
    let w : List ℕ = from_frame b' r in
    let s : ℕ = frame_size most (from_frame b' r) r.ended in
    let i = size-within most (from_frame b' r) r.ended in
    let e : frame_size most (from_frame b' r ++ v) true ≡ s = size_then most (from_frame b' r) v r.ended c h.whole in
    let all : unread b p ++ (came b p b' (Some r) ++ v) ≡ from_frame b' r ++ v =
    sym (append_assoc (unread b p) (came b p b' (Some r)) v) ∙ ap (λ (x : List ℕ). x ++ v) (front_and_came most room long b p b' r n) in
    rw all (record {
      some = simp length-append (omega (arith, i, h.size, n.came.some));
      first = rw e (take-append-le s (from_frame b' r) v i ∙ frame-first b' r n.came.within s h.size);
      rest = rw e (drop-append-le s (from_frame b' r) v i ∙ ap (λ (x : List ℕ). x ++ v) (frame-behind b' r n.came.within s h.size));
    })

pub nothing_left : NothingLeft
nothing_left most room long b p b' n = append-nil (unread b p) ∙ n.none
