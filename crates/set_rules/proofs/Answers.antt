-- What holds of every answer: refused ones change nothing, the count is the records' length, a handover renews the set.
-- Assumes nothing.
use Prim.Native.Nat.{ℕ, zero, suc, ◌+◌, ◌-◌, ◌*◌, ◌/◌, ◌%◌, ◌≤◌}
use mathlib.Core.List.{List, [], ◌∷◌, ◌++◌}
use mathlib.Core.Bool.{Bool, true, false, cond, false≢true}
use mathlib.Core.Path.{◌≡◌, refl, sym, ap, subst, ◌∙◌}
use native.Mathlib.Omega.{arith}
use native.Mathlib.Nat.{add-mul, one-mul, zero-mul, zero-add}
use lib.Count.{ones_in}
use lib.Dec.{eqb, leb}
use lib.ListN.{length, length-append, length-drop, drop, get_or}
use lib.Seq.{take_at, drop_at}
use borrow.Author.Tests.{eqb-true, eqb-false, eq-eqb, lt-leb, leb-true}
use Rattle.telegram.specs.Telegram.{read_telegram, over}
use Rattle.laws.proofs.Each.{◌▹◌, each_append}
use Rattle.laws.proofs.Tests.{by_test}
use Rattle.telegram.proofs.Kept.{length-telegram}
use Rattle.channel.specs.State.{is_in}
use Rattle.line_rules.specs.Notices.{telegram, contact, content_for}
use Rattle.channel.specs.declared.state.Event.{Event}
use Rattle.channel.specs.declared.state.Notice.{Notice}
use Rattle.channel.specs.declared.state.Notice.TheVariants.{PressAnswer, Incoming, BaseArrival, Call, PressNotice, CallerNotice, CaptureReply, CaptureState, RingNotice, AnswerReply, CallResult}
use Rattle.set_state.specs.State.{new_set, no_desk, own_of}
use Rattle.set_rules.specs.Entries.{read_entry, telegram_in, entry_kind, entry_desk, entry_channel, ReadEntry}
use Rattle.laws.specs.Table.{pick}
use Rattle.set_rules.specs.Refusals.{asked_in, refusal_of}
use Rattle.set_rules.specs.Records.{Delivery, delivered, record_for, record_size, to_each, records_of, space_of}
use Rattle.set_rules.specs.SetRules.{Effect, on_channel, sends_of, on_tick, on_handover, answers_in, on_request, ways, accepted_by, accepted}
use Rattle.set_rules.specs.Feeds.{Outcome, Item, Gives, outcome_of, step_of, step_by, run, after}
use Rattle.set_rules.specs.RecordLaws.{EvenSized, AllEven, RecordIsLong, SpaceIsLength, SpaceInTurn, EvenSends, EvenAll, without_lowest, OneMoreHalf, LowestBit, GivesAlike, RefusalLeaves, LeftAsWas, NoRoom}
use Rattle.set_rules.specs.Promises.{Refused, Counted, Written, HandoverMakesNew, Renewed}
use Rattle.set_state.specs.declared.state.Answer.{Answer}
use Rattle.set_state.specs.declared.state.Desk.{Desk}
use Rattle.set_state.specs.declared.state.LineSet.{LineSet}
use Rattle.set_state.specs.declared.state.LinkRequest.TheVariants.{TellsTime, TellsState}
use Rattle.set_state.specs.declared.state.Request.{Request}
use Rattle.set_state.specs.declared.state.Request.TheVariants.{OfLink, OnChannel, AnswersRing, Foreign}
use Rattle.laws.proofs.Table.{pick_each}

-- ---- refused answers

pub refused : Refused
unfolding outcome_of step_of
refused s e room h = go (eqb (refusal_of s e (read_entry e)) 0) refl (leb (space_of (accepted s e (read_entry e)).sent) room) refl
  where
    go : (t : Bool) → eqb (refusal_of s e (read_entry e)) 0 ≡ t → (u : Bool) → leb (space_of (accepted s e (read_entry e)).sent) room ≡ u
        → ((step_of s e room).count ≡ 0) × ((step_of s e room).after ≡ s) × ((step_of s e room).bytes ≡ [])
    go true k true l = absurd (h (rw (k, l)))
    go true k false l = (rw (k, l), rw (k, l), rw (k, l))
    go false k u l = (rw k, rw k, rw k)

-- ---- the count

pub record_length : RecordIsLong
record_length ds d (telegram m) = let l = length-telegram (get_or ds d no_desk).code m in omega arith
record_length ds d (contact k ch on) = refl

pub halves_half : OneMoreHalf
unfolding without_lowest
halves_half zero m = refl
halves_half (suc d) m = halves_half d (m / 2)

pub in_halves : LowestBit
unfolding is_in without_lowest
in_halves zero m = refl
in_halves (suc d) m = in_halves d (m / 2)

one_more : (t : Bool) (x n size : ℕ) (r q : List ℕ) → eqb (x % 2) 1 ≡ t → length r ≡ size → length q ≡ n * size
    → length (cond t r [] ++ q) ≡ (x % 2 + n) * size
one_more true x n size r q h l m =
    let o : x % 2 ≡ 1 = eqb-true (x % 2) 1 h in
    rw (o, add-mul, one-mul) (simp (length-append, l, m) refl)
one_more false x n size r q h l m =
    let o : x % 2 ≡ 0 = omega (arith, eqb-false (x % 2) 1 h) in
    rw (o, add-mul, zero-mul) (simp m (omega arith))

-- the records to the desks of a mask from a place on: as many as it has ones there
pub each_length : (k d : ℕ) (ds : List Desk) (v : Delivery) → EvenSized v
    → length (to_each k d ds v) ≡ ones_in k (without_lowest d v.recipients) * record_size (v.content 0)
unfolding to_each ones_in
each_length zero d ds v e = sym (zero-mul (record_size (v.content 0)))
each_length (suc k) d ds v e =
    let m = v.recipients in
    let rest = each_length k (suc d) ds v e ∙ ap (λ (h : ℕ). ones_in k h * record_size (v.content 0)) (halves_half d m) in
    one_more (is_in d m) (without_lowest d m) (ones_in k (without_lowest d m / 2)) (record_size (v.content 0)) (record_for ds d (v.content d)) (to_each k (suc d) ds v)
    (sym (in_halves d m)) (record_length ds d (v.content d) ∙ e d) rest

pub space-length : SpaceIsLength
unfolding space_of records_of without_lowest
space-length ds [] e = refl
space-length ds (v ∷ vs) e = simp (length-append, each_length 8 0 ds v e.0, space-length ds vs e.1) refl

pub space-append : SpaceInTurn
unfolding space_of
space-append [] ws = sym (zero-add (space_of ws))
space-append (v ∷ vs) ws = let e = space-append vs ws in omega arith

-- every notice takes the same space to each desk
pub even_notice : (ds : List Desk) (ch : ℕ) (n : Notice) (d : ℕ) → record_size (content_for d (own_of ds d) ch n) ≡ record_size (content_for 0 (own_of ds 0) ch n)
even_notice ds ch (PressAnswer on) d = refl
even_notice ds ch (Incoming on) d = refl
even_notice ds ch (BaseArrival k b n o) d = refl
even_notice ds ch (Call k di b s st r) d = refl
even_notice ds ch (PressNotice k o) d = refl
even_notice ds ch (CallerNotice k b n o) d = refl
even_notice ds ch (CaptureReply r) d = refl
even_notice ds ch (CaptureState h s) d = refl
even_notice ds ch (RingNotice n) d = refl
even_notice ds ch (AnswerReply r) d = refl
even_notice ds ch (CallResult r) d = refl

pub even_sends : EvenSends
unfolding delivered
even_sends ds ch [] = tt
even_sends ds ch (s ∷ ss) = (even_notice ds ch s.notice, even_sends ds ch ss)

pub even_all : EvenAll
unfolding sends_of
even_all ds f [] = tt
even_all ds f (c ∷ cs) = each_append EvenSized (delivered ds c.code (f c)) (sends_of ds f cs) (even_sends ds c.code (f c)) (even_all ds f cs)

pub even_on : (s : LineSet) (ch : ℕ) (v : Event) → AllEven (on_channel s ch v).sent
unfolding on_channel
even_on s ch v = even_sends s.desks _ _

even_request : (t : Bool) (s : LineSet) (d : ℕ) (q : Request) → AllEven (on_request t s d q).sent
even_request t s d (OfLink TellsTime) = (λ k. refl, tt)
even_request t s d (OfLink (TellsState a)) = tt
even_request t s d (OnChannel ch n v) = even_on s ch v
even_request t s d (AnswersRing m) = even_on s m.channel _
even_request t s d Foreign = tt

pub even_accepted : (s : LineSet) (e : List ℕ) (x : ReadEntry) → AllEven (accepted s e x).sent
unfolding accepted_by accepted on_tick on_handover
even_accepted s e x =
    let q = asked_in (entry_desk x) (read_telegram (telegram_in e)) in
    pick_each (λ f. AllEven f.sent) (entry_kind x) _ (ways (answers_in s (entry_desk x) q) s e x) tt
    ((λ k. even_request _ s (entry_desk x) q)
    ▹ (λ k. even_on s (entry_channel x) _)
    ▹ (λ k. even_on s (entry_channel x) _)
    ▹ (λ k. even_on s (entry_channel x) _)
    ▹ (λ k. even_on s (entry_channel x) _)
    ▹ (λ k. even_all s.desks _ _)
    ▹ (λ k. (λ d. refl, tt))
    ▹ (λ k. even_all s.desks _ _)
    ▹ (λ k. even_on s (entry_channel x) _)
    ▹ (λ k. even_on s (entry_channel x) _)
    ▹ tt)

pub counted : Counted
unfolding outcome_of step_of
counted s e room = go (eqb (refusal_of s e (read_entry e)) 0) refl (leb (space_of (accepted s e (read_entry e)).sent) room) refl
  where
    go : (t : Bool) → eqb (refusal_of s e (read_entry e)) 0 ≡ t → (u : Bool) → leb (space_of (accepted s e (read_entry e)).sent) room ≡ u
        → (step_of s e room).count ≡ length (step_of s e room).bytes
    go true k true l = rw (k, l) (space-length _ _ (even_accepted s e (read_entry e)))
    go true k false l = rw (k, l)
    go false k u l = rw k

-- ---- the buffer after an entry

-- what is written fits
fits : (s : LineSet) (e : List ℕ) (room : ℕ) → (step_of s e room).count ≤ room
unfolding outcome_of step_of
fits s e room = go (eqb (refusal_of s e (read_entry e)) 0) refl (leb (space_of (accepted s e (read_entry e)).sent) room) refl
  where
    go : (t : Bool) → eqb (refusal_of s e (read_entry e)) 0 ≡ t → (u : Bool) → leb (space_of (accepted s e (read_entry e)).sent) room ≡ u
        → (step_of s e room).count ≤ room
    go true k true l = rw (k, l) (leb-true _ room l)
    go true k false l = rw (k, l) (omega arith)
    go false k u l = rw k (omega arith)

pub written : Written
written s i =
    let o = step_by s i in
    let b = i.buffer in
    let n : length o.bytes ≡ o.count = sym (counted s i.entry (length b)) in
    let l : length (over o.bytes b) ≡ length o.bytes + (length b - length o.bytes) =
    length-append o.bytes (drop (length o.bytes) b) ∙ ap (λ (k : ℕ). length o.bytes + k) (length-drop (length o.bytes) b) in
    let f : o.count ≤ length b = fits s i.entry (length b) in (
      omega (arith, l, n, f),
      (
        take_at o.bytes (drop (length o.bytes) b) o.count n,
        drop_at o.bytes (drop (length o.bytes) b) o.count n ∙ ap (λ (k : ℕ). drop k b) n,
      ),
    )

-- ---- answers as outcomes give them

pub gives_as : {o o' : Outcome} {r : Answer} {b a : List ℕ} → GivesAlike o o' r b a
gives_as {o} {o'} {r} {b} {a} e h = subst (λ (x : Outcome). Gives x r b a) e h

pub refusal_leaves : RefusalLeaves
refusal_leaves s n b = (refl, refl)

pub left_as_was : LeftAsWas
left_as_was s n b = record { answer = refl; bytes = refl }

pub no_room : (s : LineSet) (b : List ℕ) (f : Effect) {r : Answer} → NoRoom s b f r
no_room s b f h g = rw (lt-leb (space_of f.sent) (length b) h) g

-- ---- a handover

handed-over : (s : LineSet) (e : List ℕ) (x : ReadEntry) → entry_kind x ≡ 8 → (accepted s e x).after ≡ new_set
unfolding accepted_by accepted pick on_handover
handed-over s e x h = rw h

-- an accepted entry: no row of the table holds, and the set after and the bytes written are the rule's
pub record Done (s : LineSet) (i : Item) : Type 0 where
  pub no_refusal : refusal_of s i.entry (read_entry i.entry) ≡ 0
  pub after_is : (step_by s i).after ≡ (accepted s i.entry (read_entry i.entry)).after
  pub bytes_are : (step_by s i).bytes ≡ records_of (accepted s i.entry (read_entry i.entry)).desks (accepted s i.entry (read_entry i.entry)).sent

pub accepted-done : (s : LineSet) (i : Item) → (step_by s i).refusal ≡ 0 → Done s i
unfolding outcome_of step_of
accepted-done s i z =
    go (eqb (refusal_of s i.entry (read_entry i.entry)) 0) refl (leb (space_of (accepted s i.entry (read_entry i.entry)).sent) (length i.buffer)) refl
  where
    go : (t : Bool) → eqb (refusal_of s i.entry (read_entry i.entry)) 0 ≡ t
        → (u : Bool) → leb (space_of (accepted s i.entry (read_entry i.entry)).sent) (length i.buffer) ≡ u → Done s i
    go true k true l = record { no_refusal = eqb-true _ 0 k; after_is = rw (k, l); bytes_are = rw (k, l) }
    go true k false l = absurd (let f : ◌≡◌ {A = ℕ} 16 0 = rw (k, l) at z in omega arith)
    go false k u l = absurd (let f : refusal_of s i.entry (read_entry i.entry) ≡ 0 = rw k at z in false≢true (sym k ∙ eq-eqb _ 0 f))

pub accepted-after : (s : LineSet) (i : Item) → (step_by s i).refusal ≡ 0
    → (refusal_of s i.entry (read_entry i.entry) ≡ 0) × ((step_by s i).after ≡ (accepted s i.entry (read_entry i.entry)).after)
accepted-after s i z = let k = accepted-done s i z in (k.no_refusal, k.after_is)

-- what holds of a set before an entry holds after it, if an accepted one keeps it; and then whatever the feed
pub step_keeps : (P : LineSet → Type 0) (s : LineSet) (i : Item) → P s
    → ((step_by s i).refusal ≡ 0 → P (accepted s i.entry (read_entry i.entry)).after) → P (step_by s i).after
step_keeps P s i p q =
    by_test (eqb (step_by s i).refusal 0)
    (λ h. let z = eqb-true _ 0 h in subst P (sym (accepted-after s i z).1) (q z))
    (λ h. subst P (sym (refused s i.entry (length i.buffer) (λ z. false≢true (sym h ∙ eq-eqb _ 0 z))).1) p)

pub feed_keeps : (P : LineSet → Type 0)
    → ((s : LineSet) (e : List ℕ) → refusal_of s e (read_entry e) ≡ 0 → P s → P (accepted s e (read_entry e)).after) → (s : LineSet) (f : List Item) → P s → P (after s f)
unfolding after
feed_keeps P q s [] p = p
feed_keeps P q s (i ∷ f) p = feed_keeps P q (step_by s i).after f (step_keeps P s i p (λ z. q s i.entry (accepted-after s i z).0 p))

pub made_new : HandoverMakesNew
made_new s h k z = (accepted-after s h z).1 ∙ handed-over s h.entry (read_entry h.entry) k

pub after-append : (s : LineSet) (f : List Item) (i : Item) → after s (f ++ (i ∷ [])) ≡ (step_by (after s f) i).after
unfolding after
after-append s [] i = refl
after-append s (j ∷ f) i = after-append (step_by s j).after f i

pub renewed : Renewed
renewed f g h k z = ap (λ (s : LineSet). run s g) (after-append new_set f h ∙ made_new (after new_set f) h k z)
