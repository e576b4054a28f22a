-- Where the program stands, where the bytes of its reader and of its writer are known.
-- Assumes nothing.
use Rattle.std.proofs.Common.{◌≡◌, ℕ, ◌+◌, ◌-◌, ◌^◌, ◌<◌, ◌≤◌, true, false, cond, List, [], ◌∷◌, ◌++◌, None, Some, Result, IfSome, length, take, sym, refl, ap, ◌∙◌, subst, arith, length-drop}
use Rattle.std.specs.Io.KnownBytes.{Appends, Consumes, IsAtEnd}
use Rattle.std.proofs.KnownBytes.{Appends-nil}
use Rattle.std.specs.declared.option.Option.{Option}
use Rattle.laws.proofs.Tests.{by_test}
use Rattle.laws.proofs.Lists.{none-long}
use Rattle.frames.specs.Frames.{frames_to, frame_size}
use Rattle.frames.proofs.Kept.{size-some}
use Rattle.text.specs.Written.{Puts}
use Rattle.answer_lines.specs.Lines.{lines_of}
use Rattle.streams.specs.Places.{start, frame_at, unread, waiting, Next}
use Rattle.streams.specs.Promises.{came, Begins, Stands}
use Rattle.streams.proofs.Kept.{turn_goes, turn_ends, printed}
use Rattle.streams.specs.declared.place.Place.{Place}
use Rattle.set_state.specs.State.{new_set}
use Rattle.set_state.specs.declared.state.LineSet.{LineSet}
use Rattle.set_state.specs.declared.state.Refusal.{Refusal}
use Rattle.set_state.specs.Entry.{refusal_in, count_in}
use Rattle.set_rules.specs.Entries.{measured}
use Rattle.set_rules.specs.Feeds.{Outcome, Numbers, GivesIn, step_of, run}
use Rattle.feeds.specs.Listing.{entries_of, entries_in, lent_to, listed, listing_of}
use Rattle.feeds.specs.Turns.{answer_at, text_at}
use Rattle.feeds.proofs.Kept.{with_one, not_with_one, first_entry, first-answer}
use Rattle.replay.proofs.Counted.{front-is}

-- the lines of the entries of some bytes, from a set on, after so many entries
abbrev still : ℕ → LineSet → List ℕ → List ℕ
still number s bytes = listed (number + 1) (run s (lent_to 32768 (entries_in bytes)))

still-none : (number : ℕ) (s : LineSet) → still number s [] ≡ []
unfolding frames_to entries_in entries_of listed run
still-none number s = refl

listed-none : (n : ℕ) (s : LineSet) → listed n (run s (lent_to 32768 [])) ≡ []
unfolding listed run
listed-none n s = refl

listed-first : (s : LineSet) (n : ℕ) (e : List ℕ) (es : List (List ℕ))
    → let o : Outcome = step_of s e 32768 in
    listed n (run s (lent_to 32768 (e ∷ es))) ≡ lines_of n o.refusal o.count o.bytes ++ listed (n + 1) (run o.after (lent_to 32768 es))
unfolding listed
listed-first s n e es = ap (listed n) (first-answer s 32768 e es)

-- where it prints the listing of the feed, and as many more turns are left as there are bytes
pub record Prints (feed : List ℕ) (x w₀ w : Option (List ℕ)) (s : LineSet) (b : List ℕ) (p : Place) (text : List ℕ) (left : ℕ) : Type 0 where
  pub rest : List ℕ
  pub stands : Stands (listing_of feed) (still p.number s) x w₀ w b p text rest
  pub most : length (unread b p ++ rest) ≤ left
  pub few : p.number + length (unread b p ++ rest) < 2 ^ 64

-- where it has printed it, but for what waits
abbrev pub Ends : List ℕ → Option (List ℕ) → Option (List ℕ) → Place → List ℕ → Type 0
Ends feed w₀ w p text = (w' : Option (List ℕ)) → Appends w w' (take p.waits text) → Appends w₀ w' (listing_of feed)

pub first : (feed : List ℕ) (x w : Option (List ℕ)) (s : LineSet) (b : List ℕ) (p : Place) (text : List ℕ) (left : ℕ)
    → s ≡ new_set → p ≡ start → x ≡ Some feed → length feed < 2 ^ 64 → length feed ≤ left → Prints feed x w w s b p text left
unfolding listing_of
first feed x w s b p text left i e k h l = rw (i, e) (record { rest = feed; stands = record { done = []; known = k; sent = Appends-nil w; told = refl }; most = l; few = omega (arith, h) })

no_more : (feed : List ℕ) {lines : List ℕ → List ℕ} {x w₀ w : Option (List ℕ)} {b : List ℕ} {p : Place} {text rest : List ℕ}
    → Stands (listing_of feed) lines x w₀ w b p text rest → lines (unread b p ++ rest) ≡ [] → Ends feed w₀ w p text
no_more feed {lines} s e w' a = printed (listing_of feed) lines _ _ _ w' _ _ _ _ s e a

-- where as many entries were read as the program reads, all of them are
pub spent : {feed : List ℕ} {x w₀ w : Option (List ℕ)} {s : LineSet} {b : List ℕ} {p : Place} {text : List ℕ} {left : ℕ} → Prints feed x w₀ w s b p text left → left ≤ 0 → Ends feed w₀ w p text
spent {feed} {s = s} {b = b} {p = p} t z = no_more feed t.stands (ap (still p.number s) (none-long (unread b p ++ t.rest) (omega (arith, t.most, z))) ∙ still-none p.number s)

-- at the end of the feed
pub ends : (x' w' : Option (List ℕ)) {feed : List ℕ} {x w₀ w : Option (List ℕ)} {s : LineSet} {b : List ℕ} {p : Place} {text : List ℕ} {left room long : ℕ} {b' : List ℕ}
    → Prints feed x w₀ w s b p text left
    → Next 12000 room long b p b' None → Consumes x x' [] → IsAtEnd x' → Appends w w' (take (p.waits - 0) text) → Appends w₀ w' (listing_of feed)
ends x' w' {s = s} {p = p} t n c d a = turn_ends _ (still p.number s) _ _ _ x' w' _ _ _ _ _ _ _ _ t.stands (still-none p.number s) n c d a

module _ (x' w' : Option (List ℕ)) {feed : List ℕ} {x w₀ w : Option (List ℕ)} {s : LineSet} {b : List ℕ} {p : Place} {text : List ℕ} {left room long : ℕ} {b' : List ℕ} {r : Place}
    (t : Prints feed x w₀ w s b p text left) (n : Next 12000 room long b p b' (Some r)) (c : Consumes x x' (came b p b' (Some r))) (d : r.ended ≡ true → IsAtEnd x')
    (a : Appends w w' (take (p.waits - r.waits) text)) where
  turn : (v : List ℕ) × Begins 12000 (unread b p ++ t.rest) (frame_at b' r) (unread b' r ++ v)
      × ((lines' : List ℕ → List ℕ) (line text' : List ℕ) (waits : ℕ) → still p.number s (unread b p ++ t.rest) ≡ line ++ lines' (unread b' r ++ v)
      → Puts text r.waits line text' waits → waits ≤ length text → Stands (listing_of feed) lines' x' w₀ w' b' (waiting r waits) text' v)
  turn = turn_goes _ (still p.number s) _ w₀ w x' w' _ _ _ _ _ _ _ _ r t.stands n c d a

  abbrev e : List ℕ
  e = frame_at b' r

  abbrev o : Outcome
  o = answer_at s b' r

  numbered : r.number ≡ p.number + 1
  numbered = n.came.number ∙ omega (arith, t.few, turn.1.some)

  -- the entries from there on, of which the frame is the first
  abbrev behind : List (List ℕ)
  behind = cond (measured e) (entries_in (unread b' r ++ turn.0)) []

  lines : still p.number s (unread b p ++ t.rest) ≡ text_at s b' r ++ listed (r.number + 1) (run o.after (lent_to 32768 behind))
  lines =
      let entries : entries_in (unread b p ++ t.rest) ≡ e ∷ behind = first_entry (unread b p ++ t.rest) turn.1.some ∙ rw (turn.1.first, turn.1.rest) refl in
      ap (λ (es : List (List ℕ)). listed (p.number + 1) (run s (lent_to 32768 es))) entries
      ∙ (listed-first s (p.number + 1) e behind ∙ ap (λ (k : ℕ). lines_of k o.refusal o.count o.bytes ++ listed (k + 1) (run o.after (lent_to 32768 behind))) (sym numbered))

  -- an answer to the entry, and its text
  module _ (before : List ℕ) {reply : Result ℕ Refusal} {set : LineSet} {records text' : List ℕ} {waits : ℕ} (given : GivesIn (step_of s e (length before)) reply set before records) (lent : length before ≡ 32768)
      (put : Puts text r.waits (lines_of r.number (refusal_in reply) (count_in reply) (take (count_in reply) records)) text' waits) (h : waits ≤ length text) where
    answered : GivesIn o reply set before records
    answered = subst (λ (k : ℕ). GivesIn (step_of s e k) reply set before records) lent given

    put_it : Puts text r.waits (text_at s b' r) text' waits
    put_it = rw (ap (λ (y : Numbers). y.refusal) answered.answer, ap (λ (y : Numbers). y.count) answered.answer, answered.bytes, front-is s e 32768 before) at put

    refusal-is : refusal_in reply ≡ o.refusal
    refusal-is = ap (λ (y : Numbers). y.refusal) answered.answer

    -- the program goes on
    pub goes : (left' : ℕ) → left ≤ left' + 1 → (refusal_in reply ≡ 1 → ⊥) → Prints feed x' w₀ w' set b' (waiting r waits) text' left'
    goes left' i other =
        let m : measured e ≡ true = by_test (measured e) (λ y. y) (λ y. absurd (other (refusal-is ∙ with_one s e 32768 y))) in
        let size : ℕ = frame_size 12000 (unread b p ++ t.rest) true in
        let kept : length (unread b' r ++ turn.0) ≡ length (unread b p ++ t.rest) - size = ap length (sym turn.1.rest) ∙ length-drop size (unread b p ++ t.rest) in
        let some = size-some 12000 (unread b p ++ t.rest) turn.1.some in
        rw (ap (λ (y : Numbers). y.set) answered.answer) (record {
          rest = turn.0;
          stands = turn.2 (still r.number o.after) (text_at s b' r) text' waits (lines ∙ rw m refl) put_it h;
          most = omega (arith, kept, i, t.most, turn.1.some, some);
          few = omega (arith, kept, t.few, turn.1.some, some, numbered);
        })

    -- and after a refusal with 1 it stops
    pub stops : refusal_in reply ≡ 1 → Ends feed w₀ w' (waiting r waits) text'
    stops one =
        let m : measured e ≡ false = by_test (measured e) (λ y. absurd (not_with_one s e 32768 y (sym refusal-is ∙ one))) (λ y. y) in
        let last : listed (r.number + 1) (run o.after (lent_to 32768 behind)) ≡ [] = rw m (listed-none (r.number + 1) o.after) in
        no_more feed (turn.2 (λ _. []) (text_at s b' r) text' waits (lines ∙ ap (λ (l : List ℕ). text_at s b' r ++ l) last) put_it h) refl

-- all of that is said of known bytes alone
pub where_known : (x w₀ w : Option (List ℕ)) → ((feed : List ℕ) → x ≡ Some feed → length feed < 2 ^ 64 → Appends w₀ w (listing_of feed))
    → IfSome x (λ feed. length feed < 2 ^ 64 → Appends w₀ w (listing_of feed))
where_known None w₀ w h = tt
where_known (Some feed) w₀ w h = h feed refl
