-- Demand 3, its first part: two feeds that differ only in numbers that B may not learn show B the same. What an entry does goes by what
-- is left of the set (`Hidden`), but for whether it answers a ring; and in that the two feeds agree.
-- Assumes nothing.
use Prim.Native.Nat.{ℕ, suc, ◌+◌, ◌*◌, ◌^◌, ◌≤◌, ◌<◌}
use mathlib.Core.List.{List, [], ◌∷◌}
use mathlib.Core.Bool.{Bool, true, false, ◌&&◌, cond, false≢true}
use mathlib.Core.Logic.{◌⊎◌, inl, inr}
use mathlib.Core.Path.{◌≡◌, refl, sym, ap, ◌∙◌}
use native.Mathlib.Omega.{arith}
use native.Mathlib.Nat.{zero-add, add-zero, pow-suc}
use native.Mathlib.Numerals.{one-add}
use lib.Dec.{eqb, leb, ltb}
use lib.ListN.{length, length-take, get_or, take, drop}
use lib.Seq.{get_or-take, drop-drop}
use borrow.Author.Tests.{eqb-true, eqb-false, not-false}
use Rattle.std.specs.Prelude.{Option, Some, None, Ok, Err}
use Rattle.laws.specs.Alike.{AlikeBut}
use Rattle.laws.specs.Table.{pick}
use Rattle.laws.proofs.Alike.{byte-alike, rest-alike}
use Rattle.laws.proofs.Tests.{both, by_test}
use Rattle.telegram.specs.Promises.{AlikeButSource, refused, read}
use Rattle.telegram.specs.Telegram.{read_telegram}
use Rattle.telegram.specs.declared.message.Number.{Number}
use Rattle.telegram.specs.declared.message.Ring.{Ring as RingAnswer}
use Rattle.telegram.specs.Telegram.{Reading}
use Rattle.telegram.proofs.Kept.{source_apart}
use Rattle.channel.specs.State.{is_in, only}
use Rattle.channel.specs.declared.state.Call.{Call}
use Rattle.channel.specs.declared.state.Channel.{Channel}
use Rattle.channel.specs.declared.state.Event.TheVariants.{MobileOn, Ring}
use Rattle.line_rules.specs.Rules.{is_ringing, happens, mobile_recipients}
use Rattle.line_rules.specs.Turns.{told_of_call}
use Rattle.line_rules.specs.Veil.{veil, hide_call, hide}
use Rattle.line_rules.proofs.Kept.{only-other, number_hidden, ring_hidden}
use Rattle.set_state.specs.State.{new_set, no_desk, is_running, running_from, listeners_of, desk_place, own_of, place_in, channel_at, with_channels}
use Rattle.frames.specs.Bytes.{byte}
use Rattle.set_state.specs.declared.state.Desk.{Desk}
use Rattle.set_state.specs.declared.state.LineSet.{LineSet}
use Rattle.set_state.specs.Entry.{refusal_in}
use Rattle.set_state.specs.declared.state.Refusal.TheVariants.{Length, Version, Payload}
use Rattle.set_state.specs.declared.state.Entry.TheVariants.{Telegram, MobileOn as TalkOn, MobileCall}
use Rattle.set_state.specs.declared.state.Request.{Request}
use Rattle.set_state.specs.declared.state.Request.TheVariants.{OfLink, OnChannel, AnswersRing, Foreign}
use Rattle.set_rules.specs.Entries.{measured, read_entry, size_ok, mobile_in, called_in, telegram_in, entry_kind, entry_desk, entry_channel, entry_on, entry_base, entry_number, entry_called, ReadEntry}
use Rattle.set_rules.specs.Refusals.{lookup_in, is_kind, asked_in, named, named_by, is_caller, number_in, called_place, first_of, refusal_of, table}
use Rattle.set_rules.specs.Records.{space_of}
use Rattle.set_rules.specs.SetRules.{Effect, on_channel, is_called, caller_of, answers_ring, answers_in, on_request, accepted_by, accepted}
use Rattle.frames.specs.Frames.{frames_to}
use Rattle.set_rules.specs.Feeds.{Outcome, Item, outcome_of, step_of, step_by, of_desk, received, Seen, seen_of, views}
use Rattle.set_rules.specs.Promises.{Renumbered, OtherHolds, NotCalled, OtherSource, MayDiffer, same, talks, calls-other, other-answers, request_in, matches_in, from_called, Alike, Related, ended, more, Isolated}
use Rattle.set_rules.proofs.Answers.{written}
use Rattle.set_rules.proofs.Hiding.{hides_twice, hide_set, channel_at-hide, refusal-hide, Shown, shown, place-shown, accepted-hide}
use Rattle.set_rules.proofs.Rows.{no_row, row-finds}
use Rattle.set_rules.proofs.Shape.{mask_in}

-- ---- desks by their numbers, and those that listen

-- a number that is there finds a desk that has it
place-number : (v : ℕ) (ks : List Desk) → desk_place v ks < length ks → (get_or ks (desk_place v ks) no_desk).number.digits ≡ v
unfolding desk_place
place-number v [] h = absurd (omega arith)
place-number v (k ∷ ks) h = go (eqb k.number.digits v) refl (place-number v ks)
  where
    go : (t : Bool) → eqb k.number.digits v ≡ t → (desk_place v ks < length ks → (get_or ks (desk_place v ks) no_desk).number.digits ≡ v)
        → (get_or (k ∷ ks) (cond t 0 (1 + desk_place v ks)) no_desk).number.digits ≡ v
    go true e rest = eqb-true k.number.digits v e
    go false e rest = let l = rw e at h in rw (one-add (desk_place v ks)) (rest (omega (arith, l)))

only-most : (t : Bool) (d : ℕ) → cond t (only d) 0 ≤ 2 ^ d
only-most true d = go (ltb d 8) refl
  where
    go : (u : Bool) → ltb d 8 ≡ u → only d ≤ 2 ^ d
    go true k = rw k (omega arith)
    go false k = rw k (omega arith)
only-most false d = omega arith

running-below : (d m : ℕ) (ks : List Desk) → running_from d m ks + 2 ^ d ≤ 2 ^ (d + length ks)
unfolding running_from
running-below d m [] = rw (add-zero d) (omega arith)
running-below d m (k ∷ ks) =
    let one = only-most (is_running k && is_in d m) d in
    let rest = running-below (suc d) m ks in
    let p : 2 ^ suc d ≡ 2 ^ d * 2 = pow-suc 2 d in
    let n : d + suc (length ks) ≡ suc d + length ks = omega arith in
    rw n (omega (arith, one, rest, p))

-- who listens is a desk of the plan
listens_planned : (ds : List Desk) (n : ℕ) (c : Channel) (d : ℕ) → is_in d (listeners_of ds n c) ≡ true → d < length (take n ds)
listens_planned ds n c d h =
    let k = length (take n ds) in
    let b = rw (zero-add k) at (running-below 0 c.entitled (take n ds)) in
    mask_in k (listeners_of ds n c) (omega (arith, b)) d h

module _ (B : ℕ) where
  -- ---- one entry: what B sees of it, and what is left of the set

  record View : Type 0 where
    seen : Seen
    left : LineSet

  -- what B sees of an outcome, whatever the buffer held
  abbrev seen_in : Outcome → Seen
  seen_in o = record { refusal = o.refusal; count = o.count; records = received B o.bytes }

  abbrev view : LineSet → List ℕ → ℕ → View
  view s e room = record { seen = seen_in (step_of s e room); left = hide_set B (step_of s e room).after }

  seen-is : (s : LineSet) (i : Item) → seen_of B i (step_by s i) ≡ seen_in (step_by s i)
  seen-is s i = rw (written s i).1.0

  abbrev viewed : ℕ → ℕ → List ℕ → LineSet → View
  viewed n k got left = record { seen = record { refusal = n; count = k; records = got }; left = left }

  abbrev view_by : ℕ → Shown B → LineSet → ℕ → View
  view_by n w h room =
      cond (eqb n 0) (cond (leb w.space room) (viewed 0 w.space w.got w.left) (viewed 16 0 [] h)) (viewed n 0 [] h)

  -- by whether the entry answers a ring
  abbrev view_of : Bool → LineSet → List ℕ → ReadEntry → ℕ → View
  view_of t s e x room = view_by (refusal_of s e x) (shown B (accepted_by t s e x)) (hide_set B s) room

  -- only a telegram does
  accepted-is : (s : LineSet) (e : List ℕ) → accepted s e (read_entry e) ≡ accepted_by (matches_in s e) s e (read_entry e)
  unfolding accepted accepted_by pick
  accepted-is s e = go (eqb (entry_kind (read_entry e)) 1) refl
    where
      go : (t : Bool) → eqb (entry_kind (read_entry e)) 1 ≡ t → accepted s e (read_entry e) ≡ accepted_by (matches_in s e) s e (read_entry e)
      go true k = rw k
      go false k = rw k

  view-is : (s : LineSet) (e : List ℕ) (room : ℕ) → view s e room ≡ view_of (matches_in s e) s e (read_entry e) room
  unfolding outcome_of step_of frames_to of_desk
  view-is s e room =
      go (eqb (refusal_of s e (read_entry e)) 0) refl (leb (space_of (accepted s e (read_entry e)).sent) room) refl
      ∙ ap (λ (f : Effect). view_by (refusal_of s e (read_entry e)) (shown B f) (hide_set B s) room) (accepted-is s e)
    where
      go : (t : Bool) → eqb (refusal_of s e (read_entry e)) 0 ≡ t → (u : Bool) → leb (space_of (accepted s e (read_entry e)).sent) room ≡ u
          → view s e room ≡ view_by (refusal_of s e (read_entry e)) (shown B (accepted s e (read_entry e))) (hide_set B s) room
      go true k true l = rw (k, l)
      go true k false l = rw (k, l)
      go false k u l = rw k

  -- what is left of a set shows B all that the set does
  view_of-hide : (t : Bool) (s : LineSet) (e : List ℕ) (x : ReadEntry) (room : ℕ) → view_of t (hide_set B s) e x room ≡ view_of t s e x room
  view_of-hide t s e x room =
      let h : hide_set B (hide_set B s) ≡ hide_set B s = ap (λ (l : List Channel). with_channels l s) (hides_twice B s.channels) in
      ap (λ (n : ℕ). view_by n (shown B (accepted_by t (hide_set B s) e x)) (hide_set B (hide_set B s)) room) (refusal-hide B s e x)
      ∙ ap (λ (w : Shown B). view_by (refusal_of s e x) w (hide_set B (hide_set B s)) room) (accepted-hide B t s e x)
      ∙ ap (λ (l : LineSet). view_by (refusal_of s e x) (shown B (accepted_by t s e x)) l room) h

  view_of-same : (t : Bool) (s s' : LineSet) → hide_set B s ≡ hide_set B s' → (e : List ℕ) (x : ReadEntry) (room : ℕ) → view_of t s e x room ≡ view_of t s' e x room
  view_of-same t s s' h e x room = sym (view_of-hide t s e x room) ∙ ap (λ (u : LineSet). view_of t u e x room) h ∙ view_of-hide t s' e x room

  -- the rows and the rules show the same
  both-viewed : (t : Bool) (s : LineSet) (e e' : List ℕ) (x x' : ReadEntry) (room : ℕ) → refusal_of s e x ≡ refusal_of s e' x'
      → (refusal_of s e x ≡ 0 → shown B (accepted_by t s e x) ≡ shown B (accepted_by t s e' x')) → view_of t s e x room ≡ view_of t s e' x' room
  both-viewed t s e e' x x' room p q = go (eqb (refusal_of s e x) 0) refl ∙ ap (λ (n : ℕ). view_by n (shown B (accepted_by t s e' x')) (hide_set B s) room) p
    where
      go : (u : Bool) → eqb (refusal_of s e x) 0 ≡ u → view_of t s e x room ≡ view_by (refusal_of s e x) (shown B (accepted_by t s e' x')) (hide_set B s) room
      go true k = ap (λ (f : Shown B). view_by (refusal_of s e x) f (hide_set B s) room) (q (eqb-true _ 0 k))
      go false k = rw k

  -- ---- entries that differ

  -- an entry that could be read, or the refusal that it gets
  abbrev chosen : Bool → Bool → Bool → ReadEntry → ReadEntry
  chosen u v w x = cond u (cond v (cond w x (Err Payload)) (Err Version)) (Err Length)

  -- two that show the same where they could be read show the same
  chosen-viewed : (t : Bool) (s : LineSet) (e e' : List ℕ) (x x' : ReadEntry) (room : ℕ) (u v w : Bool)
      → (chosen u v w x ≡ x → view_of t s e x room ≡ view_of t s e' x' room) → view_of t s e (chosen u v w x) room ≡ view_of t s e' (chosen u v w x') room
  unfolding refusal_of
  chosen-viewed t s e e' x x' room true true true p = p refl
  chosen-viewed t s e e' x x' room true true false p = refl
  chosen-viewed t s e e' x x' room true false w p = refl
  chosen-viewed t s e e' x x' room false v w p = refl

  -- ---- mobile ons and mobile calls

  -- an entry of kind 4 or 9 with these digits for the mobile's number
  abbrev numbered : ℕ → List ℕ → Option ℕ → ReadEntry
  numbered k e d = cond (eqb k 9) (Ok (MobileCall (byte e 4) (byte e 5) d (called_in e))) (Ok (TalkOn (byte e 4) (byte e 5) d))

  abbrev read_as : ℕ → List ℕ → Option ℕ → ReadEntry
  read_as k e d = chosen (measured e) (eqb (byte e 2) 1) (size_ok k (length e) && leb (byte e 5) 29) (numbered k e d)

  -- such bytes read so
  abbrev Reads : ℕ → Type 0
  Reads k = (e : List ℕ) → byte e 3 ≡ k → read_entry e ≡ read_as k e (mobile_in e)

  flat : (a b : Bool) (x y : ReadEntry) → cond (a && true && b) x y ≡ cond (a && b) x y
  flat true b x y = refl
  flat false b x y = refl

  read-talk : Reads 4
  unfolding read_entry pick entry_on entry_base
  read-talk e k = rw k (simp flat refl)

  read-call : Reads 9
  unfolding read_entry pick entry_on entry_base
  read-call e k = rw k (simp flat refl)

  read_but : (k : ℕ) (e e' : List ℕ) (d : Option ℕ) → AlikeBut 6 8 e e' → read_as k e d ≡ read_as k e' d
  read_but k e e' d w =
      let b : (i : ℕ) → i < 6 → byte e i ≡ byte e' i = byte-alike 6 8 e e' w in
      let called : drop 14 e ≡ drop 14 e' = w.back in
      simp (w.long, b 0 (omega arith), b 1 (omega arith), b 2 (omega arith), b 4 (omega arith), b 5 (omega arith), called) refl

  kind-alike : {k : ℕ} {e e' : List ℕ} → Renumbered k e e' → byte e' 3 ≡ k
  kind-alike {k} {e} {e'} w = sym (byte-alike 6 8 e e' w.bytes 3 (omega arith)) ∙ w.kind-is

  -- the rows look at a mobile's number only to see whether it can be one
  abbrev RowsAlike : ℕ → Type 0
  RowsAlike k =
      (s : LineSet) (e e' : List ℕ) (d d' : Option ℕ) → is_caller d ≡ is_caller d' → refusal_of s e (numbered k e d) ≡ refusal_of s e' (numbered k e d')

  talk-rows : RowsAlike 4
  unfolding refusal_of first_of entry_kind entry_desk entry_channel entry_number entry_called
  talk-rows s e e' d d' h = rw h refl

  call-rows : RowsAlike 9
  unfolding refusal_of first_of entry_kind entry_desk entry_channel entry_number entry_called
  call-rows s e e' d d' h = rw h refl

  -- and it is one that can be read
  taken-as : (k : ℕ) (e : List ℕ) (d : Option ℕ) → refusal_in (numbered k e d) ≡ 0
  taken-as k e d = by_test (eqb k 9) (λ p. rw p refl) (λ p. rw p refl)

  -- so two that show B the same where they are accepted show it the same
  numbered-viewed : (k : ℕ) → RowsAlike k → Reads k → (t : Bool) (s : LineSet) (e e' : List ℕ) (room : ℕ) → Renumbered k e e'
      → (refusal_of s e (numbered k e (mobile_in e)) ≡ 0
      → shown B (accepted_by t s e (numbered k e (mobile_in e))) ≡ shown B (accepted_by t s e' (numbered k e (mobile_in e'))))
      → view_of t s e (read_entry e) room ≡ view_of t s e' (read_entry e') room
  numbered-viewed k rows reads t s e e' room w does =
      let x = numbered k e (mobile_in e) in
      let x' = numbered k e (mobile_in e') in
      let right : read_as k e (mobile_in e) ≡ x → refusal_in (read_entry e) ≡ 0 = λ p. ap (λ (y : ReadEntry). refusal_in y) (reads e w.kind-is ∙ p) ∙ taken-as k e (mobile_in e) in
      ap (λ (y : ReadEntry). view_of t s e y room) (reads e w.kind-is)
      ∙ chosen-viewed t s e e' x x' room (measured e) (eqb (byte e 2) 1) (size_ok k (length e) && leb (byte e 5) 29)
      (λ p. both-viewed t s e e' x x' room (rows s e e' (mobile_in e) (mobile_in e') (w.callers (right p))) does)
      ∙ ap (λ (y : ReadEntry). view_of t s e' y room) (read_but k e e' (mobile_in e') w.bytes ∙ sym (reads e' (kind-alike w)))

  -- a mobile on under another desk shows B the same whatever its number
  talk-shown : (t : Bool) (s : LineSet) (e e' : List ℕ) (d d' : Option ℕ) → OtherHolds B (channel_at s (byte e 4)).holder
      → shown B (accepted_by t s e (numbered 4 e d)) ≡ shown B (accepted_by t s e' (numbered 4 e d'))
  unfolding accepted_by pick on_channel happens entry_kind entry_desk entry_channel entry_base entry_number
  talk-shown t s e e' d d' o =
      let c = channel_at s (byte e 4) in
      let m = listeners_of s.desks s.size.desks c in
      let v = MobileOn (byte e 5) (number_in d) in
      let v' = MobileOn (byte e 5) (number_in d') in
      place-shown B s (place_in s (byte e 4)) c (happens v m c) (happens v' m c) (number_hidden B m (byte e 5) (number_in d) (number_in d') c (unheard c.holder m o))
    where
      unheard : (h : Option ℕ) (m : ℕ) → OtherHolds B h → is_in B (mobile_recipients h m) ≡ false
      unheard None m o = absurd o
      unheard (Some d) m o = only-other B d o

  -- a desk that listens and has the called number is not B, if that is not B's
  unrung : (s : LineSet) (c : Channel) (called : Option ℕ) → NotCalled B s called → is_caller called ≡ true
      → is_in (called_place s.desks s.size.desks called) (listeners_of s.desks s.size.desks c) ≡ true
      → is_in B (only (called_place s.desks s.size.desks called)) ≡ false
  unrung s c None o a l = absurd (false≢true a)
  unrung s c (Some v) o a l =
      let n = s.size.desks in
      let p = desk_place v (take n s.desks) in
      let i : p < length (take n s.desks) = listens_planned s.desks n c p l in
      let below : p < n = omega (arith, i, length-take n s.desks) in
      let has : (own_of s.desks p).digits ≡ v =
      sym (ap (λ (k : Desk). k.number.digits) (get_or-take n s.desks p no_desk below)) ∙ place-number v (take n s.desks) i in
      only-other B p (λ q. o (omega (arith, below, q)) (sym (ap (λ (j : ℕ). Some (own_of s.desks j).digits) (sym q) ∙ ap Some has)))

  -- a mobile call of another desk shows B the same whatever its number
  call-shown : (t : Bool) (s : LineSet) (e e' : List ℕ) (d d' : Option ℕ) → NotCalled B s (called_in e) → refusal_of s e (numbered 9 e d) ≡ 0
      → shown B (accepted_by t s e (numbered 9 e d)) ≡ shown B (accepted_by t s e' (numbered 9 e d'))
  unfolding accepted_by pick on_channel happens entry_kind entry_desk entry_channel entry_base entry_number entry_called
  call-shown t s e e' d d' o z =
      let c = channel_at s (byte e 4) in
      let m = listeners_of s.desks s.size.desks c in
      let p = called_place s.desks s.size.desks (called_in e) in
      let v = Ring p (byte e 5) (number_in d) in
      let v' = Ring p (byte e 5) (number_in d') in
      let caller = (both (is_caller d) (is_caller (called_in e)) (not-false _ (no_row s e (numbered 9 e d) z).row13-fails)).1 in
      let listens : is_in p m ≡ true = (row-finds s e (numbered 9 e d) z).call-heard refl in
      place-shown B s (place_in s (byte e 4)) c (happens v m c) (happens v' m c) (ring_hidden B p (byte e 5) (number_in d) (number_in d') c (unrung s c (called_in e) o caller listens))

  -- ---- ring answers

  abbrev telegram_by : List ℕ → ReadEntry
  telegram_by e = Ok (Telegram (byte e 4))

  -- a telegram of these bytes
  abbrev read_by : List ℕ → ReadEntry
  read_by e = chosen (measured e) (eqb (byte e 2) 1) (leb 5 (length e)) (telegram_by e)

  read-telegram : (e : List ℕ) → byte e 3 ≡ 1 → read_entry e ≡ read_by e
  unfolding read_entry pick entry_on entry_base
  read-telegram e k = rw k (simp shut refl)
    where
      shut : (a : Bool) → (a && true && true) ≡ a
      shut true = refl
      shut false = refl

  read_answer : (e e' : List ℕ) → OtherSource B e e' → (read_entry e ≡ read_by e) × (read_entry e' ≡ read_by e)
  read_answer e e' w =
      let b : (i : ℕ) → i < 26 → byte e i ≡ byte e' i = byte-alike 26 8 e e' w.bytes in
      let same-entry : read_by e ≡ read_by e' = simp (w.bytes.long, b 0 (omega arith), b 1 (omega arith), b 2 (omega arith), b 4 (omega arith)) refl in
      (read-telegram e w.kind-is, read-telegram e' (sym (b 3 (omega arith)) ∙ w.kind-is) ∙ sym same-entry)

  reads-alike : (e e' : List ℕ) → OtherSource B e e' → AlikeButSource (read_telegram (telegram_in e)) (read_telegram (telegram_in e'))
  reads-alike e e' w =
      source_apart (drop 5 e) (drop 5 e') (rw (drop-drop 10 5 e) w.identifier) (rest-alike 5 21 8 e e' w.bytes)
      (rw (drop-drop 21 5 e, drop-drop 21 5 e') w.digits)

  -- the rows see the same of readings that are alike but for a source, and the rules do the same
  answer-rows : (s : LineSet) (e e' : List ℕ) (d : ℕ) {r r' : Reading} → AlikeButSource r r'
      → let x : ReadEntry = Ok (Telegram d) in
      first_of table (lookup_in s (named_by (asked_in d r) x)) e r x ≡ first_of table (lookup_in s (named_by (asked_in d r') x)) e' r' x
  unfolding first_of entry_kind entry_desk entry_channel entry_number entry_called
  answer-rows s e e' d refused = refl
  answer-rows s e e' d read = refl

  answer-does : (t : Bool) (s : LineSet) (d : ℕ) {r r' : Reading} → AlikeButSource r r' → on_request t s d (asked_in d r) ≡ on_request t s d (asked_in d r')
  answer-does t s d refused = refl
  answer-does t s d read = refl

  answer-viewed : (t : Bool) (s : LineSet) (e e' : List ℕ) (room : ℕ) → OtherSource B e e' → view_of t s e (read_entry e) room ≡ view_of t s e' (read_entry e') room
  unfolding refusal_of accepted_by pick entry_kind entry_desk entry_channel
  answer-viewed t s e e' room w =
      let r = read_answer e e' w in
      let a = reads-alike e e' w in
      ap (λ (x : ReadEntry). view_of t s e x room) r.0
      ∙ chosen-viewed t s e e' (telegram_by e) (telegram_by e) room (measured e) (eqb (byte e 2) 1) (leb 5 (length e))
      (λ p. both-viewed t s e e' (telegram_by e) (telegram_by e) room (answer-rows s e e' (byte e 4) a) (λ z. ap (shown B) (answer-does t s (byte e 4) a)))
      ∙ sym (ap (λ (x : ReadEntry). view_of t s e' x room) r.1)

  -- ---- two entries that may stand for each other

  view_of-alike : (t : Bool) (s : LineSet) (e e' : List ℕ) (room : ℕ) → MayDiffer B s e e' → view_of t s e (read_entry e) room ≡ view_of t s e' (read_entry e') room
  view_of-alike t s e e' room (same p) = ap (λ (l : List ℕ). view_of t s l (read_entry l) room) p
  view_of-alike t s e e' room (talks w o) =
      numbered-viewed 4 talk-rows read-talk t s e e' room w (λ z. talk-shown t s e e' (mobile_in e) (mobile_in e') o)
  view_of-alike t s e e' room (calls-other w o) =
      numbered-viewed 9 call-rows read-call t s e e' room w (call-shown t s e e' (mobile_in e) (mobile_in e') o)
  view_of-alike t s e e' room (other-answers w) = answer-viewed t s e e' room w

  -- ---- whether they answer a ring

  told-hide : (d : ℕ) (k : Option Call) → told_of_call d (hide_call B k) ≡ told_of_call d k
  told-hide d None = refl
  told-hide d (Some k) = refl

  -- the number of a call that B was told of is not hidden from it
  caller_told : (k : Option Call) → told_of_call B k ≡ true → caller_of (hide_call B k) ≡ caller_of k
  unfolding veil
  caller_told None h = refl
  caller_told (Some k) h = rw h refl

  -- a desk that is not called answers no ring
  uncalled : (d : ℕ) (own : Number) (m : RingAnswer) (c : Channel) → is_called d c ≡ false → answers_ring d own m c ≡ false
  uncalled d own m c h = rw h refl

  own-answer : (own : Number) (m : RingAnswer) (c : Channel) → answers_ring B own m (hide B c) ≡ answers_ring B own m c
  own-answer own m c =
      by_test (is_called B c)
      (λ h. rw (told-hide B c.call, caller_told c.call (both (is_ringing c) (told_of_call B c.call) h).1))
      (λ h. uncalled B own m (hide B c) (rw (told-hide B c.call) h) ∙ sym (uncalled B own m c h))

  -- the same of a set, and of what a desk asks by telegram
  abbrev called_by : LineSet → ℕ → Request → Bool
  called_by s d q = named false (λ ch n. false) (λ m. is_called d (channel_at s m.channel)) q

  called_hide : (s : LineSet) (d : ℕ) (q : Request) → called_by (hide_set B s) d q ≡ called_by s d q
  called_hide s d (OfLink q) = refl
  called_hide s d (OnChannel ch n v) = refl
  called_hide s d (AnswersRing m) = rw (channel_at-hide B s m.channel, told-hide d (channel_at s m.channel).call)
  called_hide s d Foreign = refl

  answers-hide : (s : LineSet) (q : Request) → answers_in (hide_set B s) B q ≡ answers_in s B q
  answers-hide s (OfLink q) = refl
  answers-hide s (OnChannel ch n v) = refl
  answers-hide s (AnswersRing m) = rw (channel_at-hide B s m.channel) (own-answer (own_of s.desks B) m (channel_at s m.channel))
  answers-hide s Foreign = refl

  answers-none : (s : LineSet) (d : ℕ) (q : Request) → called_by s d q ≡ false → answers_in s d q ≡ false
  answers-none s d (OfLink q) h = refl
  answers-none s d (OnChannel ch n v) h = refl
  answers-none s d (AnswersRing m) h = uncalled d (own_of s.desks d) m (channel_at s m.channel) h
  answers-none s d Foreign h = refl

  abbrev answer_of : ℕ → ℕ → Number → Number → Request
  answer_of ch k n m = AnswersRing (record { channel = ch; kind = k; source = n; destination = m })

  -- what two desks ask by telegram: the same; nothing; or, but not B, ring answers alike but for the source
  data AskedAlike : ℕ → Request → ℕ → Request → Type 0 where
    alike : (d : ℕ) (q : Request) → AskedAlike d q d q
    nothing : (d d' : ℕ) → AskedAlike d Foreign d' Foreign
    sourced : (d ch k : ℕ) (n n' m : Number) → (d ≡ B → ⊥) → AskedAlike d (answer_of ch k n m) d (answer_of ch k n' m)

  module _ (s s' : LineSet) (h : hide_set B s ≡ hide_set B s') where
    called_same : (d : ℕ) (q : Request) → called_by s d q ≡ called_by s' d q
    called_same d q = sym (called_hide s d q) ∙ ap (λ (u : LineSet). called_by u d q) h ∙ called_hide s' d q

    asked_called : {d d' : ℕ} {q q' : Request} → AskedAlike d q d' q' → called_by s d q ≡ called_by s' d' q'
    asked_called (alike d q) = called_same d q
    asked_called (nothing d d') = refl
    asked_called (sourced d ch k n n' m o) = called_same d (answer_of ch k n m)

    -- B's own
    asked-own : {d d' : ℕ} {q q' : Request} → AskedAlike d q d' q' → d ≡ B → answers_in s d q ≡ answers_in s' d' q'
    asked-own (alike d q) p = rw p (sym (answers-hide s q) ∙ ap (λ (u : LineSet). answers_in u B q) h ∙ answers-hide s' q)
    asked-own (nothing d d') p = refl
    asked-own (sourced d ch k n n' m o) p = absurd (o p)

    -- and those of a desk that is not called
    asked-other : {d d' : ℕ} {q q' : Request} → AskedAlike d q d' q' → called_by s d q ≡ false → answers_in s d q ≡ answers_in s' d' q'
    asked-other {d} {d'} {q} {q'} a n = answers-none s d q n ∙ sym (answers-none s' d' q' (sym (asked_called a) ∙ n))

  abbrev asked_of : ReadEntry → Reading → Request
  asked_of x r = cond (is_kind 1 x) (asked_in (entry_desk x) r) Foreign

  -- mobile ons and mobile calls ask nothing by telegram
  chosen-silent : (u v w : Bool) (x : ReadEntry) (r : Reading) → is_kind 1 x ≡ false → asked_of (chosen u v w x) r ≡ Foreign
  unfolding entry_kind entry_desk
  chosen-silent true true true x r h = rw h
  chosen-silent true true false x r h = refl
  chosen-silent true false w x r h = refl
  chosen-silent false v w x r h = refl

  numbered-silent : (k : ℕ) → ((e : List ℕ) → is_kind 1 (numbered k e (mobile_in e)) ≡ false) → Reads k → (e : List ℕ) → byte e 3 ≡ k → request_in e ≡ Foreign
  numbered-silent k n1 reads e p =
      let r = read_telegram (telegram_in e) in
      ap (λ (x : ReadEntry). asked_of x r) (reads e p)
      ∙ chosen-silent (measured e) (eqb (byte e 2) 1) (size_ok k (length e) && leb (byte e 5) 29) (numbered k e (mobile_in e)) r (n1 e)

  answer-asked : (u v w : Bool) (d : ℕ) → (d ≡ B → ⊥) → {r r' : Reading} → AlikeButSource r r'
      → let x : ReadEntry = chosen u v w (Ok (Telegram d)) in
      AskedAlike (entry_desk x) (asked_of x r) (entry_desk x) (asked_of x r')
  unfolding entry_kind entry_desk
  answer-asked true true true d o refused = alike d Foreign
  answer-asked true true true d o read = sourced d _ _ _ _ _ o
  answer-asked true true false d o a = nothing 0 0
  answer-asked true false w d o a = nothing 0 0
  answer-asked false v w d o a = nothing 0 0

  may-asked : (s : LineSet) (e e' : List ℕ) → MayDiffer B s e e' → AskedAlike (entry_desk (read_entry e)) (request_in e) (entry_desk (read_entry e')) (request_in e')
  unfolding entry_kind
  may-asked s e e' (same p) = rw p (alike _ _)
  may-asked s e e' (talks w o) = rw (numbered-silent 4 (λ e. refl) read-talk e w.kind-is, numbered-silent 4 (λ e. refl) read-talk e' (kind-alike w)) (nothing _ _)
  may-asked s e e' (calls-other w o) = rw (numbered-silent 9 (λ e. refl) read-call e w.kind-is, numbered-silent 9 (λ e. refl) read-call e' (kind-alike w)) (nothing _ _)
  may-asked s e e' (other-answers w) =
      let r = read_answer e e' w in
      rw (r.0, r.1) (answer-asked (measured e) (eqb (byte e 2) 1) (leb 5 (length e)) (byte e 4) w.other (reads-alike e e' w))

  -- The condition on ring answers (`Promises.Alike`) holds by itself of B's own, and of those of a desk that is not called.
  pub own_agrees : (s s' : LineSet) → hide_set B s ≡ hide_set B s' → (e e' : List ℕ) → MayDiffer B s e e'
      → (entry_desk (read_entry e) ≡ B) ⊎ (from_called s e ≡ false) → matches_in s e ≡ matches_in s' e'
  own_agrees s s' h e e' a (inl p) = asked-own s s' h (may-asked s e e' a) p
  own_agrees s s' h e e' a (inr n) = asked-other s s' h (may-asked s e e' a) n

  all-agree : (s s' : LineSet) → hide_set B s ≡ hide_set B s' → (e e' : List ℕ) → Alike B s s' e e' → matches_in s e ≡ matches_in s' e'
  all-agree s s' h e e' a =
      by_test (eqb (entry_desk (read_entry e)) B)
      (λ p. own_agrees s s' h e e' a.may (inl (eqb-true _ B p)))
      (λ p. by_test (from_called s e) (a.agree (eqb-false _ B p)) (λ n. own_agrees s s' h e e' a.may (inr n)))

  -- ---- whole feeds

  view-alike : (s s' : LineSet) → hide_set B s ≡ hide_set B s' → (e e' : List ℕ) (room : ℕ) → Alike B s s' e e' → view s e room ≡ view s' e' room
  view-alike s s' h e e' room a =
      view-is s e room
      ∙ ap (λ (t : Bool). view_of t s e (read_entry e) room) (all-agree s s' h e e' a)
      ∙ view_of-alike (matches_in s' e') s e e' room a.may
      ∙ view_of-same (matches_in s' e') s s' h e' (read_entry e') room
      ∙ sym (view-is s' e' room)

  views-alike : (s s' : LineSet) (f f' : List Item) → hide_set B s ≡ hide_set B s' → Related B s s' f f' → views B s f ≡ views B s' f'
  unfolding views
  views-alike s s' [] [] h ended = refl
  views-alike s s' [] (i' ∷ f') h x4 = elim x4 [ ]
  views-alike s s' (i ∷ f) [] h x4 = elim x4 [ ]
  views-alike s s' (i ∷ f) (i' ∷ f') h (more a r rest) =
      let v : view s i.entry (length i.buffer) ≡ view s' i'.entry (length i'.buffer) =
      view-alike s s' h i.entry i'.entry (length i.buffer) a ∙ ap (view s' i'.entry) r in
      let k = views-alike (step_by s i).after (step_by s' i').after f f' (ap (λ (w : View). w.left) v) rest in
      let seen : seen_of B i (step_by s i) ≡ seen_of B i' (step_by s' i') = seen-is s i ∙ ap (λ (w : View). w.seen) v ∙ sym (seen-is s' i') in
      rw (seen, k)

pub isolated : Isolated
isolated B f f' r = views-alike B new_set new_set f f' refl r
