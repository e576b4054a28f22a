-- What `Told.antt` goes by: the desks and channels of a set by place and code, being among more running desks, and that what a
-- channel sends to listeners, with numbers that are for them, is right.
-- Assumes nothing.
use Prim.Native.Nat.{ℕ, zero, suc, ◌+◌, ◌≤◌, ◌<◌}
use mathlib.Core.List.{List, [], ◌∷◌}
use mathlib.Core.Bool.{Bool, true, false, cond, false≢true}
use mathlib.Core.Logic.{inl, inr}
use mathlib.Core.Path.{◌≡◌, refl, sym, ap, ◌∙◌}
use native.Mathlib.Omega.{arith}
use lib.Dec.{eqb, ltb}
use lib.ListN.{length, length-take, take, get_or, get_or-eq_default}
use lib.Seq.{get_or-take}
use borrow.Author.Tests.{ltb-true, ltb-false, eqb-true, eqb-false, eq-eqb, ne_eqb}
use Rattle.std.specs.Prelude.{Option, None, Some}
use Rattle.laws.specs.Each.{Each}
use Rattle.laws.proofs.Each.{each_map}
use Rattle.laws.proofs.Tests.{by_test}
use Rattle.telegram.specs.declared.message.Number.{Number}
use Rattle.channel.specs.State.{is_in, only}
use Rattle.channel.specs.declared.state.Call.{Call}
use Rattle.channel.specs.declared.state.Arrival.{Arrival}
use Rattle.channel.specs.declared.state.Channel.{Channel}
use Rattle.channel.specs.declared.state.Notice.{Notice}
use Rattle.channel.specs.declared.state.Notice.TheVariants.{PressAnswer, Incoming, BaseArrival as Arrived, Call as CallNotice, PressNotice, CallerNotice as Talks, CaptureReply as Reply, CaptureState as State, RingNotice, AnswerReply, CallResult}
use Rattle.channel.specs.declared.state.Send.{Send}
use Rattle.line_rules.specs.Notices.{Content, content_for}
use Rattle.line_rules.specs.Among.{Around, numbers_in, AllListen, ForDesk, Told, HolderListens, CallTold, ArrivalTold, Among, NoticeTold, SendTold}
use Rattle.line_rules.proofs.Kept.{says_for_desk, only-other}
use Rattle.set_state.specs.State.{no_desk, no_channel, own_of, place_of, channel_at, is_running, linked_at}
use Rattle.set_state.specs.declared.state.Link.{Link}
use Rattle.set_state.specs.declared.state.Desk.{Desk}
use Rattle.set_state.specs.declared.state.LineSet.{LineSet}
use Rattle.set_rules.specs.Records.{Delivery, delivered}
use Rattle.set_rules.specs.SetRules.{Effect}
use Rattle.set_rules.specs.Letters.{letter_for}
use Rattle.set_rules.specs.Invariant.{Rising, Running, around_of, AllAmong}
use Rattle.set_rules.specs.Promises.{Hears, Right}

-- ---- masks

pub only-is : (j d : ℕ) → is_in j (only d) ≡ true → d ≡ j
only-is j d i = by_test (eqb d j) (eqb-true d j) λ p. absurd (false≢true (sym (only-other j d (eqb-false d j p)) ∙ i))

-- ---- channels by their codes

behind : (c : Channel) (cs : List Channel) (n : ℕ) → get_or (c ∷ cs) (1 + n) no_channel ≡ get_or cs n no_channel
behind c cs n = let p : 1 + n ≡ suc n = omega arith in ap (λ (k : ℕ). get_or (c ∷ cs) k no_channel) p

-- a code that is there finds a channel that has it
pub place-code : (k : ℕ) (cs : List Channel) → place_of k cs < length cs → (get_or cs (place_of k cs) no_channel).code ≡ k
unfolding place_of
place-code k [] h = absurd (omega arith)
place-code k (c ∷ cs) h = go (eqb c.code k) refl (place-code k cs)
  where
    go : (t : Bool) → eqb c.code k ≡ t → (place_of k cs < length cs → (get_or cs (place_of k cs) no_channel).code ≡ k)
        → (get_or (c ∷ cs) (cond t 0 (1 + place_of k cs)) no_channel).code ≡ k
    go true e rest = eqb-true c.code k e
    go false e rest =
        let l : 1 + place_of k cs < suc (length cs) = rw e at h in
        ap (λ (x : Channel). x.code) (behind c cs (place_of k cs)) ∙ rest (omega arith)

-- where codes rise, each channel's code finds that channel
abbrev pub Found : List Channel → Channel → Type 0
Found cs c = get_or cs (place_of c.code cs) no_channel ≡ c

pub rising_found : (low : ℕ) (cs : List Channel) → Rising low cs → Each (λ c. (low ≤ c.code) × Found cs c) cs
unfolding place_of
rising_found low [] r = tt
rising_found low (c ∷ cs) r =
    let first : Found (c ∷ cs) c = rw (eq-eqb c.code c.code refl) in
    let later : (x : Channel) → (c.code + 1 ≤ x.code) × Found cs x → (low ≤ x.code) × Found (c ∷ cs) x =
    λ x f. (omega (arith, f.0, r.0), rw (ne_eqb c.code x.code (λ p. omega (arith, f.0))) (behind c cs _ ∙ f.1)) in
    ((r.0, first), each_map _ _ later cs (rising_found (c.code + 1) cs r.1))

-- ---- the desks of a set

-- who runs among the desks of the plan is one of them
pub running_in : (s : LineSet) (d : ℕ) → is_running (get_or (take s.size.desks s.desks) d no_desk) ≡ true → Running s d
running_in s d h =
    let n = s.size.desks in
    by_test (ltb d n)
    (λ p. let l = ltb-true d n p in (l, sym (ap is_running (get_or-take n s.desks d no_desk l)) ∙ h))
    (λ p.
    let past = get_or-eq_default (take n s.desks) no_desk {n = d} (omega (arith, length-take n s.desks, ltb-false d n p)) in
    absurd (false≢true (sym (ap is_running past) ∙ h)))

-- a link changed: own numbers stay, and all desks that run still do, if the one that it is of did not
pub own-linked : (d j : ℕ) (f : Link → Link) (ds : List Desk) → own_of (linked_at d f ds) j ≡ own_of ds j
own-linked d j f [] = refl
own-linked zero zero f (k ∷ ds) = refl
own-linked zero (suc j) f (k ∷ ds) = refl
own-linked (suc d) zero f (k ∷ ds) = refl
own-linked (suc d) (suc j) f (k ∷ ds) = own-linked d j f ds

abbrev pub runs_at : List Desk → ℕ → Bool
runs_at ds d = is_running (get_or ds d no_desk)

pub runs-linked : (d j : ℕ) (f : Link → Link) (ds : List Desk) → runs_at ds d ≡ false → runs_at ds j ≡ true → runs_at (linked_at d f ds) j ≡ true
runs-linked d j f [] n r = r
runs-linked zero zero f (k ∷ ds) n r = absurd (false≢true (sym n ∙ r))
runs-linked zero (suc j) f (k ∷ ds) n r = r
runs-linked (suc d) zero f (k ∷ ds) n r = r
runs-linked (suc d) (suc j) f (k ∷ ds) n r = runs-linked d j f ds n r

-- what is among the desks of a set is among those of one in which all that run still run, with the same numbers
module _ (M : Number → Type 0) (s t : LineSet) (run : (d : ℕ) → Running s d → Running t d) (own : (d : ℕ) → own_of t.desks d ≡ own_of s.desks d) where
  abbrev in_s : Around
  in_s = around_of s M

  abbrev in_t : Around
  in_t = around_of t M

  for_more : (d : ℕ) (n : Number) → ForDesk in_s d n → ForDesk in_t d n
  for_more d n (inl z) = inl z
  for_more d n (inr (inl p)) = inr (inl (p ∙ sym (own d)))
  for_more d n (inr (inr m)) = inr (inr m)

  told_more : (c : Channel) (m : ℕ) (n : Number) → Told in_s c m n → Told in_t c m n
  told_more c m n k = record { listen = λ d i. let l = k.listen d i in (run d l.0, l.1); learn = λ d i. for_more d n (k.learn d i) }

  holder_more : (c : Channel) (h : Option ℕ) → HolderListens in_s c h → HolderListens in_t c h
  holder_more c None l = tt
  holder_more c (Some d) l = (run d l.0, l.1)

  call-more : (c : Channel) (k : Option Call) → CallTold in_s c k → CallTold in_t c k
  call-more c None t = tt
  call-more c (Some k) t = told_more c k.recipients k.source t

  arrival-more : (c : Channel) (a : Option Arrival) → ArrivalTold in_s c a → ArrivalTold in_t c a
  arrival-more c None t = tt
  arrival-more c (Some a) t = told_more c a.recipients a.number t

  pub among-more : (c : Channel) → Among in_s c → Among in_t c
  among-more c a = record { holder_listens = holder_more c c.holder a.holder_listens; call-told = call-more c c.call a.call-told; arrival-told = arrival-more c c.arrival a.arrival-told }

-- ---- what is sent

-- what a delivery says to each of its recipients is right
abbrev pub Heard : LineSet → (Number → Type 0) → List Desk → Delivery → Type 0
Heard s M ds v = (d : ℕ) → is_in d v.recipients ≡ true → Right s M (letter_for ds d (v.content d))

-- an effect of which that holds, by the set t that it goes by; and its channels are among its desks
pub record Tells (M : Number → Type 0) (t : LineSet) (f : Effect) : Type 0 where
  pub among-after : AllAmong M f.after
  pub sent-right : Each (Heard t M f.desks) f.sent

told-listen : (w : Around) (c : Channel) (m : ℕ) (n : Notice) → NoticeTold w c m n → AllListen w c m
told-listen w c m (PressAnswer on) k = k
told-listen w c m (Incoming on) k = k
told-listen w c m (Arrived a b n o) k = k.listen
told-listen w c m (CallNotice a d b n t r) k = k.listen
told-listen w c m (PressNotice a o) k = k
told-listen w c m (Talks a b n o) k = k.listen
told-listen w c m (Reply r) k = k
told-listen w c m (State h t) k = k
told-listen w c m (RingNotice n) k = k.listen
told-listen w c m (AnswerReply r) k = k
told-listen w c m (CallResult r) k = k

module _ (s : LineSet) (M : Number → Type 0) where
  abbrev w : Around
  w = around_of s M

  abbrev said_to : ℕ → ℕ → Notice → Content
  said_to d ch n = content_for d (own_of s.desks d) ch n

  notice_right : (d ch : ℕ) (n : Notice) → Hears s d ch → Each (ForDesk w d) (numbers_in (said_to d ch n)) → Right s M (letter_for s.desks d (said_to d ch n))
  notice_right d ch (PressAnswer on) h k = (h.0.0, h)
  notice_right d ch (Incoming on) h k = (h.0.0, h)
  notice_right d ch (Arrived a b n o) h k = (h.0.0, (refl, ((h, tt), k)))
  notice_right d ch (CallNotice a di b n t r) h k = (h.0.0, (refl, ((h, tt), k)))
  notice_right d ch (PressNotice a o) h k = (h.0.0, (refl, ((h, tt), k)))
  notice_right d ch (Talks a b n o) h k = (h.0.0, (refl, ((h, tt), k)))
  notice_right d ch (Reply r) h k = (h.0.0, (refl, ((h, tt), k)))
  notice_right d ch (State hd t) h k = (h.0.0, (refl, ((h, tt), k)))
  notice_right d ch (RingNotice n) h k = (h.0.0, (refl, ((h, tt), k)))
  notice_right d ch (AnswerReply r) h k = (h.0.0, (refl, ((h, tt), k)))
  notice_right d ch (CallResult r) h k = (h.0.0, (refl, ((h, tt), k)))

  -- what a channel sends, where its code finds it
  pub sends-heard : (c : Channel) → channel_at s c.code ≡ c → (ss : List Send) → Each (SendTold w c) ss → Each (Heard s M s.desks) (delivered s.desks c.code ss)
  unfolding delivered
  sends-heard c p [] k = tt
  sends-heard c p (x ∷ ss) k =
      let one : Heard s M s.desks (record { recipients = x.recipients; content = λ d. said_to d c.code x.notice }) =
      λ d i.
      let l = told-listen w c x.recipients x.notice k.0 d i in
      notice_right d c.code x.notice (l.0, ap (λ (b : Channel). is_in d b.entitled) p ∙ l.1)
      (says_for_desk w c x.recipients c.code d x.notice k.0 i) in
      (one, sends-heard c p ss k.1)
