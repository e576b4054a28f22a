-- The next place: at a frame that is there whole, and after more was read.
-- Assumes nothing.
use Rattle.std.proofs.Common.{◌≡◌, ℕ, ◌+◌, ◌-◌, ◌<◌, ◌≤◌, Bool, true, false, ◌&&◌, ltb, leb, List, [], Option, None, Some, IfSome, IfNone, length, take, drop, sym, refl, ap, ◌∙◌, arith, length-drop, length-take-le, take-take, ltb-false, ltb-true, le-ltb, lt-ltb, le-leb}
use mathlib.Core.Bool.{false≢true}
use Rattle.std.specs.List.{copy_within}
use Rattle.std.proofs.lemmas.List.Edits.{take-paste}
use native.Mathlib.Nat.{sub-zero}
use lib.Seq.{take-length}
use borrow.Author.Tests.{lt-leb}
use Rattle.laws.proofs.Tests.{by_test}
use Rattle.laws.proofs.Lists.{none-long}
use Rattle.frames.specs.Frames.{frame_size}
use Rattle.frames.proofs.Kept.{size-within, size-some}
use Rattle.streams.specs.Places.{at_frame, unreadable, waiting, Within, between, unread, FilledBehind, Came, is_there, Next, Stays, Stops}
use Rattle.streams.specs.Promises.{came, gained}
use Rattle.streams.proofs.Moving.{drop-take}
use Rattle.streams.specs.declared.place.Place.{Place}

and-false : (t : Bool) → (t && false) ≡ false
and-false true = refl
and-false false = refl

length-between : (b : List ℕ) (from to : ℕ) → to ≤ length b → length (between from to b) ≡ to - from
length-between b from to h = length-take-le (to - from) (drop from b) (simp length-drop (omega arith))

-- ---- at a frame that is there

module _ (most : ℕ) (b : List ℕ) (p : Place) (w : Within b p) (size : ℕ) (e : size ≡ frame_size most (unread b p) false) where
  -- it lies within what is filled
  pub fits : p.to + size ≤ p.filled
  fits = omega (arith, e, size-within most (unread b p) false, length-between b p.to p.filled w.room, w.read)

  pub there : 0 < size → is_there most b p ≡ true
  there h = lt-ltb 0 (frame_size most (unread b p) false) (omega (arith, e))

  pub not_there : size ≤ 0 → is_there most b p ≡ false
  not_there h = le-ltb 0 (frame_size most (unread b p) false) (omega (arith, e))

  -- the text has no room
  full : {room long : ℕ} → (room ≤ long - p.waits → ⊥) → p.waits ≤ long → leb (p.waits + room) long ≡ false
  full {room} {long} f g = lt-leb (p.waits + room) long (omega (arith, f, g))

  pub no_room : {room long : ℕ} → (room ≤ long - p.waits → ⊥) → p.waits ≤ long → is_there most b p && leb (p.waits + room) long ≡ false
  no_room {room} {long} f g = ap (λ (t : Bool). is_there most b p && t) (full f g) ∙ and-false (is_there most b p)

  pub no_frame : (room long : ℕ) → size ≤ 0 → is_there most b p && leb (p.waits + room) long ≡ false
  no_frame room long h = ap (λ (t : Bool). t && leb (p.waits + room) long) (not_there h)

  -- handed out by a place of the same number
  here : (q : Place) → q.number ≡ p.number → 0 < size → Came most b p b (at_frame q p.to (p.to + size) p.filled false)
  here q n h = record {
    within = record { frame = omega arith; read = fits; room = w.room };
    some = omega arith;
    number = rw n refl;
    hands = record { front = take-length (unread b p); size = ap (λ (k : ℕ). p.to + k) e; whole = λ _ z. omega (arith, e, z) };
  }

  module _ (room long : ℕ) where
    pub hands_it : (r : Place) → 0 < size → room ≤ long - p.waits → p.waits ≤ long → r ≡ at_frame p p.to (p.to + size) p.filled false → Next most room long b p b (Some r)
    hands_it r h f g k = rw k (record {
      came = here p refl h;
      none = tt;
      unmoved = λ _. (refl, refl);
      waits = let i : p.waits + room ≤ long = omega arith in rw (there h, le-leb _ _ i) refl;
      spare = omega arith;
    })

    -- after the text was written for room
    pub hands_then : (r : Place) → 0 < size → (room ≤ long - p.waits → ⊥) → p.waits ≤ long → room ≤ long → r ≡ at_frame (waiting p 0) p.to (p.to + size) p.filled false
        → Next most room long b p b (Some r)
    hands_then r h f g i k = rw k (record {
      came = here (waiting p 0) refl h;
      none = tt;
      unmoved = λ _. (refl, refl);
      waits = rw (there h, full f g) refl;
      spare = omega (arith, i);
    })

    -- or before more was read
    pub reads_on : {b₂ : List ℕ} (r : Option Place) → size ≤ 0 → room ≤ long → IfSome r (λ q. Came most b (waiting p 0) b₂ q × (q.waits ≡ 0)) → IfNone r (unread b p ≡ [])
        → Next most room long b p b₂ r
    reads_on None h i c z = record { came = tt; none = z; unmoved = λ t. absurd (false≢true (sym (not_there h) ∙ t)); waits = rw (not_there h) refl; spare = omega (arith, i) }
    reads_on (Some r) h i c z = record {
      came = record { within = c.0.within; some = c.0.some; number = c.0.number; hands = record { front = c.0.hands.front; size = c.0.hands.size; whole = c.0.hands.whole } };
      none = tt;
      unmoved = λ t. absurd (false≢true (sym (not_there h) ∙ t));
      waits = rw (not_there h) c.1;
      spare = omega (arith, c.1, i);
    }

    -- where the text could not be written
    pub fails : is_there most b p && leb (p.waits + room) long ≡ false → room ≤ long → Stops most room long b p b (waiting p 0)
    fails f i = record {
      stays = record { within = record { frame = w.frame; read = w.read; room = w.room }; number = refl; front = take-length (unread b p) };
      unmoved = λ _. (refl, refl);
      waits = rw f refl;
      spare = omega (arith, i);
    }

    -- or no more could be read
    pub stops_on : {b₂ : List ℕ} (s : Place) → size ≤ 0 → room ≤ long → Stays b (waiting p 0) b₂ s → s.waits ≡ 0 → Stops most room long b p b₂ s
    stops_on s h i c z = record {
      stays = record { within = c.within; number = c.number; front = c.front };
      unmoved = λ t. absurd (false≢true (sym (not_there h) ∙ t));
      waits = rw (not_there h) z;
      spare = omega (arith, z, i);
    }

-- ---- after a read

module _ (b : List ℕ) (p : Place) (w : Within b p) where
  have_long : length (unread b p) ≡ p.filled - p.to
  have_long = length-between b p.to p.filled w.room

  -- the bytes that were unread lie at the front
  pub at_front : (b₁ : List ℕ) → b₁ ≡ copy_within b p.to p.filled 0 → take (p.filled - p.to) b₁ ≡ unread b p
  at_front b₁ m =
      let z : p.filled - p.to ≡ 0 + (p.filled - p.to) = omega arith in
      ap (λ (l : List ℕ). take (p.filled - p.to) l) m ∙ (ap (λ (k : ℕ). take k (copy_within b p.to p.filled 0)) z
      ∙ take-paste b 0 (drop p.to b) (p.filled - p.to) (omega arith) (simp length-drop (omega (arith, w.room))))

  module _ (most : ℕ) (b₁ b₂ : List ℕ) (n : ℕ) (m : b₁ ≡ copy_within b p.to p.filled 0) (f : FilledBehind b₁ (p.filled - p.to) b₂ n) where
    from-start : between 0 n b₂ ≡ take n b₂
    from-start = ap (λ (j : ℕ). take j b₂) (sub-zero n)

    -- those that were unread are the front of what is filled, and the others are those that were read behind
    unread-first : take (length (unread b p)) (between 0 n b₂) ≡ unread b p
    unread-first =
        ap (λ (j : ℕ). take j (between 0 n b₂)) have_long
        ∙ (ap (λ (l : List ℕ). take (p.filled - p.to) l) from-start ∙ (take-take (p.filled - p.to) n b₂ f.least ∙ (f.kept ∙ at_front b₁ m)))

    read-behind : drop (length (unread b p)) (between 0 n b₂) ≡ between (p.filled - p.to) n b₂
    read-behind =
        ap (λ (j : ℕ). drop j (between 0 n b₂)) have_long
        ∙ (ap (λ (j : ℕ). drop (p.filled - p.to) (take j b₂)) (sub-zero n) ∙ drop-take (p.filled - p.to) n b₂)

    pub reads_it : (ended : Bool) (size : ℕ) (r : Place) → size ≡ frame_size most (take n b₂) ended → 0 < size → (ended ≡ false → frame_size most (take n b₂) false ≡ 0 → ⊥)
        → r ≡ at_frame p 0 size n ended → Came most b p b₂ r × (r.waits ≡ p.waits)
    reads_it ended size r s h g k =
        rw k (
          record {
            within = record { frame = omega arith; read = omega (arith, s, size-within most (take n b₂) ended, length-take-le n b₂ f.most); room = f.most };
            some = h;
            number = refl;
            hands = record {
              front = unread-first;
              size = s ∙ (ap (λ (l : List ℕ). frame_size most l ended) (sym from-start) ∙ omega arith);
              whole = λ t z. g t (ap (λ (l : List ℕ). frame_size most l false) (sym from-start) ∙ z);
            };
          },
          refl,
        )

    module _ (ended : Bool) (s : frame_size most (take n b₂) ended ≡ 0) (g : ended ≡ false → frame_size most (take n b₂) false ≡ 0 → ⊥) where
      -- no byte is there
      none_there : n ≡ 0
      none_there = by_test ended
          (λ e. by_test (ltb 0 n) (λ t. absurd (omega (arith, rw e at s, size-some most (take n b₂) (omega (arith, length-take-le n b₂ f.most, ltb-true 0 n t))))) (λ t. omega (arith, ltb-false 0 n t)))
          (λ e. absurd (g e (rw e at s)))

      -- so none was left, and none came
      pub reads_none : unread b p ≡ []
      reads_none = none-long (unread b p) (omega (arith, none_there, f.least, have_long))

      pub came_none : [] ≡ between (p.filled - p.to) n b₂
      came_none = let no-more : 0 ≡ n - (p.filled - p.to) = omega (arith, none_there) in ap (λ (j : ℕ). take j (drop (p.filled - p.to) b₂)) no-more

    pub came_read : (ended : Bool) (size : ℕ) (r : Place) → r ≡ at_frame p 0 size n ended → came b p b₂ (Some r) ≡ between (p.filled - p.to) n b₂
    came_read ended size r k = rw k read-behind

    -- where a read has failed
    pub stays_there : (s : Place) → s ≡ unreadable p n → Stays b p b₂ s × (s.waits ≡ p.waits)
    stays_there s k = rw k (record { within = record { frame = omega arith; read = omega arith; room = f.most }; number = refl; front = unread-first }, refl)

    pub gained_read : (s : Place) → s ≡ unreadable p n → gained b p b₂ s ≡ between (p.filled - p.to) n b₂
    gained_read s k = rw k read-behind
