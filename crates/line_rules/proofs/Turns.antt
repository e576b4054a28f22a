-- What a desk is told of a matter begins and ends by turns, and nothing lasts after a handover.
-- Assumes nothing.
use Prim.Native.Nat.{ℕ, zero, suc, ◌-◌, ◌≤◌}
use mathlib.Core.List.{List, [], ◌∷◌, ◌++◌}
use mathlib.Core.Bool.{Bool, true, false, not, cond, ◌&&◌, or-false, true≢false}
use mathlib.Core.Path.{◌≡◌, refl, sym, ap}
use native.Mathlib.Omega.{arith}
use lib.Dec.{eqb, leb, ltb}
use borrow.Author.Tests.{ne_eqb, lt-ltb, leb-false}
use Rattle.std.specs.Prelude.{Option, None, Some}
use Rattle.laws.specs.Table.{pick}
use Rattle.laws.proofs.Tests.{either, by_branch, cond_of}
use Rattle.telegram.specs.declared.message.Number.{Number}
use Rattle.channel.specs.State.{only, is_in, is_held, held_by, is_present}
use Rattle.line_rules.specs.Rules.{Step, to, sent_if, with_presser, with_ring, with_call, with_arrival, end_of, press_off_sends, mobile_off_sends, ring_off_sends, happens, capture, capture_at, cut, release, press_on, press_off, mobile_on, mobile_recipients, mobile_off, ring, unanswered, answered, ring_answer, tick, tick_ring, tick_idle, tick_quiet, tick_release, is_pressed, is_ringing, freed, end_talk, end_call}
use Rattle.line_rules.specs.Invariant.{Rung, Idle}
use Rattle.line_rules.specs.Turns.{orders_to, order_of, matter_of, lasting, ByTurns}
use Rattle.line_rules.specs.Promises.{GoesByTurns, HandoverEnds}
use Rattle.line_rules.proofs.Rings.{held-silent, talk-silent}
use Rattle.channel.specs.declared.state.Call.{Call}
use Rattle.channel.specs.declared.state.Arrival.{Arrival}
use Rattle.channel.specs.declared.state.Channel.{Channel}
use Rattle.channel.specs.declared.state.Event.TheVariants.{Capture, Release, Cut, PressOn, PressOff, MobileOn, MobileOff, Ring, Cancel, RingAnswer, Tick, EndTalk, EndCall}
use Rattle.channel.specs.declared.state.Notice.TheVariants.{CaptureReply, CaptureState, AnswerReply}
use Rattle.channel.specs.declared.state.Send.{Send}

-- ---- turns put together

turns-append : (was mid is : Bool) (os ps : List ℕ) → ByTurns was os mid → ByTurns mid ps is → ByTurns was (os ++ ps) is
turns-append was mid is [] ps h k = rw h k
turns-append was mid is (o ∷ os) ps h k = (h.0, turns-append (not was) mid is os ps h.1 k)

orders_append : (B x : ℕ) (ss ts : List Send) → orders_to B x (ss ++ ts) ≡ orders_to B x ss ++ orders_to B x ts
unfolding orders_to
orders_append B x [] ts = refl
orders_append B x (s ∷ ss) ts =
    rw (orders_append B x ss ts)
    (sym (cond_of (λ (l : List ℕ). l ++ orders_to B x ts) (eqb (matter_of s.notice) x && is_in B s.recipients) (order_of s.notice ∷ orders_to B x ss) (orders_to B x ss)))

-- one start, or one end, to a desk that is told, or to none
started : (t : Bool) → ByTurns false (cond t (1 ∷ []) []) t
started true = (refl, refl)
started false = refl

ended : (t : Bool) → ByTurns t (cond t (0 ∷ []) []) false
ended true = (refl, refl)
ended false = refl

-- a matter's number is known
by_matter : (P : ℕ → Type 0) → P 0 → P 1 → P 2 → P 3 → P 4 → P 5 → P 6 → (x : ℕ) → x ≤ 6 → P x
by_matter P p0 p1 p2 p3 p4 p5 p6 zero h = p0
by_matter P p0 p1 p2 p3 p4 p5 p6 (suc zero) h = p1
by_matter P p0 p1 p2 p3 p4 p5 p6 (suc (suc zero)) h = p2
by_matter P p0 p1 p2 p3 p4 p5 p6 (suc (suc (suc zero))) h = p3
by_matter P p0 p1 p2 p3 p4 p5 p6 (suc (suc (suc (suc zero)))) h = p4
by_matter P p0 p1 p2 p3 p4 p5 p6 (suc (suc (suc (suc (suc zero))))) h = p5
by_matter P p0 p1 p2 p3 p4 p5 p6 (suc (suc (suc (suc (suc (suc zero)))))) h = p6
by_matter P p0 p1 p2 p3 p4 p5 p6 (suc (suc (suc (suc (suc (suc (suc x))))))) h = absurd (omega arith)

module _ (B : ℕ) where
  -- what B is told of every matter goes by turns, from one channel to another
  abbrev Turn : Channel → List Send → Channel → ℕ → Type 0
  Turn c ss c' x = ByTurns (lasting B x c) (orders_to B x ss) (lasting B x c')

  abbrev Turns : Channel → List Send → Channel → Type 0
  Turns c ss c' = (x : ℕ) → x ≤ 6 → Turn c ss c' x

  join : (c d e : Channel) (ss ts : List Send) → Turns c ss d → Turns d ts e → Turns c (ss ++ ts) e
  join c d e ss ts h k x l =
      rw (orders_append B x ss ts) (turns-append (lasting B x c) (lasting B x d) (lasting B x e) (orders_to B x ss) (orders_to B x ts) (h x l) (k x l))

  abbrev Goes : Channel → Step → Type 0
  Goes c st = Turns c st.sends st.next

  -- ---- what is sent of no matter

  nothing : (c : Channel) → Turns c [] c
  unfolding orders_to
  nothing c x l = refl

  aside : (c : Channel) (s : Send) → 7 ≤ matter_of s.notice → Turns c (s ∷ []) c
  unfolding orders_to
  aside c s h x l = rw (ne_eqb (matter_of s.notice) x (omega arith))

  reply : (c : Channel) (m r : ℕ) → Turns c (to m (CaptureReply r) ∷ []) c
  reply c m r = aside c (to m (CaptureReply r)) (omega arith)

  state : (c : Channel) (m h s : ℕ) → Turns c (to m (CaptureState h s) ∷ []) c
  state c m h s = aside c (to m (CaptureState h s)) (omega arith)

  -- ---- what ends

  press-off : (c : Channel) (p : Option ℕ) (k : Option Call) → Turns (with_presser p c) (press_off_sends p k) (with_presser None c)
  unfolding orders_to pick
  press-off c None k = nothing (with_presser None c)
  press-off c (Some d) k = let y = ended (is_in B (only d)) in by_matter _ refl y y refl refl refl refl

  -- while a mobile talks none rings, and the incoming contact is on for it alone
  mobile-off : (c : Channel) (a : Option Arrival) → (is_present a ≡ true → is_ringing c ≡ false)
      → Turns (with_arrival a c) (mobile_off_sends a) (with_arrival None c)
  unfolding orders_to pick
  mobile-off c None q = nothing (with_arrival None c)
  mobile-off c (Some a) q = let y = ended (is_in B a.recipients) in by_matter _ refl refl refl (simp (q refl, or-false) y) y y refl

  -- a call that is no ring
  call_end : (r : ℕ) (c : Channel) (k : Option Call) → is_ringing c ≡ false → Turns (with_call k c) (end_of r k) (with_call None c)
  unfolding orders_to pick
  call_end r c None q = nothing (with_call None c)
  call_end r c (Some k) q = by_matter _ refl refl refl (rw q) refl refl (ended (is_in B k.recipients))

  -- a ring, if there is one; its call goes on
  ring-off : (c : Channel) (t : Bool) (k : Option Call) → is_ringing c ≡ t → c.arrival ≡ None
      → Turns (with_call k c) (sent_if t (ring_off_sends k)) (with_ring 0 (with_call k c))
  unfolding orders_to pick
  ring-off c false k q a = by_matter _ refl refl refl (rw q) refl refl refl
  ring-off c true None q a = by_matter _ refl refl refl (rw q) refl refl refl
  ring-off c true (Some k) q a = by_matter _ refl refl refl (rw (a, q) (ended (is_in B k.recipients))) refl refl refl

  -- ---- what begins

  press-on : (d : ℕ) (n : Number) (c : Channel) (p : Option ℕ) (k : Option Call) → is_held p ≡ false → is_ringing c ≡ false
      → Goes (with_presser p (with_call k c)) (press_on d n (with_presser p (with_call k c)))
  unfolding orders_to pick press_on
  press-on d n c (Some h) k o q = absurd (true≢false o)
  press-on d n c None None o q = let y = started (is_in B (only d)) in by_matter _ refl y y (rw q) refl refl y
  press-on d n c None (Some k) o q = let y = started (is_in B (only d)) in by_matter _ refl y y refl refl refl refl

  mobile-on : (e b : ℕ) (n : Number) (c : Channel) (a : Option Arrival) (k : Option Call) → is_present a ≡ false → is_ringing c ≡ false
      → Goes (with_arrival a (with_call k c)) (mobile_on e b n (with_arrival a (with_call k c)))
  unfolding orders_to pick mobile_on
  mobile-on e b n c (Some a) k o q = absurd (true≢false o)
  mobile-on e b n c None None o q =
      let y = started (is_in B (mobile_recipients c.holder e)) in by_matter _ refl refl refl (simp (q, or-false) y) y y y
  mobile-on e b n c None (Some k) o q =
      let y = started (is_in B (mobile_recipients c.holder e)) in by_matter _ refl refl refl (simp (q, or-false) y) y y refl

  ring-on : (d b : ℕ) (n : Number) (c : Channel) → Idle c → Goes c (ring d b n c)
  unfolding orders_to pick ring
  ring-on d b n c i =
      let y = started (is_in B (only d)) in
      by_matter _ refl refl refl (rw (i.absent, i.silent) y) refl refl (rw i.closed y)

  -- ---- the rules

  module _ (e : ℕ) (c : Channel) (rung : is_ringing c ≡ true → Rung c) where
    -- the channel after a press off
    abbrev let_go : Channel
    let_go = with_presser None c

    capture-turns : (h : Option ℕ) (d : ℕ) → Goes c (capture_at h e d c)
    capture-turns None d =
        either (Goes c) (is_ringing c) _ _ (reply c (only d) _) (join c c c _ _ (reply c (only d) _) (state c e _ _))
    capture-turns (Some h) d = reply c (only d) _

    cut-turns : is_held c.holder ≡ true → Goes c (cut e c)
    unfolding cut
    cut-turns h =
        let over : Channel = with_call None let_go in
        join c let_go over (press_off_sends c.presser c.call) _ (press-off c c.presser c.call)
        (join let_go over over (end_of 1 c.call) _ (call_end 1 let_go c.call (held-silent c rung h)) (state over e _ _))

    release-turns : (d : ℕ) → Goes c (release e d c)
    unfolding release
    release-turns d =
        by_branch (Goes c) (held_by d c.holder) _ _
        (λ h. join c c (cut e c).next (to (only d) (CaptureReply 0) ∷ []) _ (reply c (only d) _) (cut-turns (by_held c.holder h)))
        (λ h. reply c (only d) _)
      where
        by_held : (p : Option ℕ) → held_by d p ≡ true → is_held p ≡ true
        by_held None h = h
        by_held (Some h') h = refl

    unanswered-turns : (r : ℕ) → is_ringing c ≡ true → Goes c (unanswered r c)
    unfolding unanswered
    unanswered-turns r q =
        join c (with_ring 0 c) (unanswered r c).next (ring_off_sends c.call) _
        (ring-off c true c.call q (rung q).nobody-talks) (call_end r (with_ring 0 c) c.call refl)

    -- a ring that is answered leaves the incoming contact on
    answer-turns : (d : ℕ) (matched : Bool) (x : ℕ) → x ≤ 6 → (x ≡ 3 → matched ≡ false)
        → Turn c (ring_answer e d matched c).sends (ring_answer e d matched c).next x
    unfolding orders_to pick ring_answer answered
    answer-turns d false x l g = aside c (to (only d) (AnswerReply 0)) (omega arith) x l
    answer-turns d true x l g =
        by_matter (λ x. (x ≡ 3 → true ≡ false) → Turn c (answered e d c).sends (answered e d c).next x)
        (λ g. refl) (λ g. refl) (λ g. refl) (λ g. absurd (true≢false (g refl))) (λ g. refl) (λ g. refl) (λ g. refl) x l g

    -- the ring timer falls, and the mobile rings on
    tick_ring-turns : is_ringing c ≡ true → Goes c (tick_ring c)
    unfolding orders_to pick tick_ring
    tick_ring-turns q =
        by_branch (Goes c) (leb c.ring 1) _ _ (λ h. unanswered-turns 5 q)
        (λ h. by_matter _ refl refl refl (rw (q, lt-ltb 0 (c.ring - 1) (omega (arith, leb-false c.ring 1 h)))) refl refl refl)

    tick-turns : Goes c (tick e c)
    unfolding tick tick_idle tick_quiet tick_release
    tick-turns =
        by_branch (Goes c) (is_ringing c) _ _ tick_ring-turns
        (λ q. either (Goes c) (is_pressed c) _ _ (nothing c)
        (either (Goes c) (is_present c.arrival) _ _ (nothing c)
        (either (Goes c) (ltb 0 c.quiet) _ _
        (either (Goes c) (leb c.quiet 1) _ _ (call_end 3 c c.call q) (nothing c))
        (either (Goes c) (is_held c.holder) _ _ (either (Goes c) (leb c.release 1) _ _ (state c e _ _) (nothing c)) (nothing c)))))

    handover_turns : Turns c ((end_talk c).sends ++ (end_call e c).sends) (freed c)
    unfolding end_talk end_call
    handover_turns =
        let still : Channel = with_arrival None let_go in
        let silent : Channel = with_ring 0 still in
        join c still (freed c) (end_talk c).sends _
        (join c let_go still (press_off_sends c.presser c.call) _ (press-off c c.presser c.call) (mobile-off let_go c.arrival (talk-silent c rung)))
        (join still silent (freed c) (sent_if (is_ringing c) (ring_off_sends c.call)) _ (ring-off still (is_ringing c) c.call refl refl)
        (join silent (freed c) (freed c) (end_of 2 c.call) _ (call_end 2 silent c.call refl)
        (either (λ ss. Turns (freed c) ss (freed c)) (is_held c.holder) _ _ (state (freed c) e _ _) (nothing (freed c)))))

pub by_turns : GoesByTurns
unfolding happens capture press_off mobile_off
by_turns B x (Capture d) e c l f ok g = capture-turns B e c ok.rung c.holder d x l
by_turns B x (Release d) e c l f ok g = release-turns B e c ok.rung d x l
by_turns B x Cut e c l f ok g = cut-turns B e c ok.rung f x l
by_turns B x (PressOn d n) e c l f ok g =
    press-on B d n c c.presser c.call g (held-silent c ok.rung (ap is_held f.1)) x l
by_turns B x PressOff e c l f ok g = press-off B c c.presser c.call x l
by_turns B x (MobileOn b n) e c l f ok g = mobile-on B e b n c c.arrival c.call g f.2 x l
by_turns B x MobileOff e c l f ok g = mobile-off B c c.arrival (talk-silent c ok.rung) x l
by_turns B x (Ring d b n) e c l f ok g = ring-on B d b n c f.2 x l
by_turns B x Cancel e c l f ok g = unanswered-turns B e c ok.rung 2 f x l
by_turns B x (RingAnswer d matched) e c l f ok g = answer-turns B e c ok.rung d matched x l g
by_turns B x Tick e c l f ok g = tick-turns B e c ok.rung x l
by_turns B x EndTalk e c l f ok g = absurd g
by_turns B x EndCall e c l f ok g = absurd g

-- nothing lasts on a channel on which nothing goes on
none_lasts : (B : ℕ) (c : Channel) (x : ℕ) → x ≤ 6 → lasting B x (freed c) ≡ false
unfolding pick
none_lasts B c = by_matter _ refl refl refl refl refl refl refl

pub handover_ends : HandoverEnds
unfolding happens
handover_ends B x e c l ok = rw (none_lasts B c x l) at (handover_turns B e c ok.rung x l)
