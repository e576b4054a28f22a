-- 01, Line rules, and 02 §1, a mobile that rings one desk: what happens on one channel. Each rule gives the channel after it and what it sends, in order.
use Rattle.std.specs.Prelude.{ℕ, ◌-◌, List, [], ◌∷◌, ◌++◌, Bool, cond, leb, ltb, eqb, Option, None, Some, unwrap_or}
use Rattle.telegram.specs.declared.message.Number.{Number}
use Rattle.channel.specs.State.{only, free_channel, is_held, held_by, holder_place, party_set, is_open, is_present}
use Rattle.channel.specs.declared.state.Call.{Call}
use Rattle.channel.specs.declared.state.Arrival.{Arrival}
use Rattle.channel.specs.declared.state.Channel.{Channel}
use Rattle.channel.specs.declared.state.Event.{Event}
use Rattle.channel.specs.declared.state.Event.TheVariants.{Capture, Release, Cut, PressOn, PressOff, MobileOn, MobileOff, Ring, Cancel, RingAnswer, Tick, EndTalk, EndCall}
use Rattle.channel.specs.declared.state.Notice.{Notice}
use Rattle.channel.specs.declared.state.Notice.TheVariants.{PressAnswer, Incoming, BaseArrival, Call as CallNotice, PressNotice, CallerNotice, CaptureReply, CaptureState, RingNotice, AnswerReply, CallResult}
use Rattle.channel.specs.declared.state.Send.{Send}

-- ---- words

-- "quiet clock 10", "release clock 120"
abbrev pub quiet_time : ℕ
quiet_time = 10

abbrev pub release_time : ℕ
release_time = 120

-- 02 §1: "the fifteenth tick"
abbrev pub ring_time : ℕ
ring_time = 15

-- a general call, and 02 §1's: "the call, its presses and arrivals begun in it have type 3"
abbrev pub general : ℕ
general = 1

abbrev pub individual : ℕ
individual = 3

abbrev pub down : ℕ
down = 1

abbrev pub up : ℕ
up = 2

-- a channel after a rule, and what the rule sends
pub record Step : Type 0 where
  pub next : Channel
  pub sends : List Send

abbrev pub step : Channel → List Send → Step
step c ss = record { next = c; sends = ss }

abbrev pub to : ℕ → Notice → Send
to m n = record { recipients = m; notice = n }

-- what is sent if a test holds
abbrev pub sent_if : Bool → List Send → List Send
sent_if t ss = cond t ss []

-- ---- a channel with one part changed

abbrev pub with_holder : Option ℕ → Channel → Channel
with_holder h c =
    record { code = c.code; entitled = c.entitled; holder = h; presser = c.presser; quiet = c.quiet; release = c.release; ring = c.ring; call = c.call; arrival = c.arrival }

abbrev pub with_presser : Option ℕ → Channel → Channel
with_presser p c =
    record { code = c.code; entitled = c.entitled; holder = c.holder; presser = p; quiet = c.quiet; release = c.release; ring = c.ring; call = c.call; arrival = c.arrival }

abbrev pub with_quiet : ℕ → Channel → Channel
with_quiet n c =
    record { code = c.code; entitled = c.entitled; holder = c.holder; presser = c.presser; quiet = n; release = c.release; ring = c.ring; call = c.call; arrival = c.arrival }

abbrev pub with_release : ℕ → Channel → Channel
with_release n c =
    record { code = c.code; entitled = c.entitled; holder = c.holder; presser = c.presser; quiet = c.quiet; release = n; ring = c.ring; call = c.call; arrival = c.arrival }

abbrev pub with_ring : ℕ → Channel → Channel
with_ring n c =
    record { code = c.code; entitled = c.entitled; holder = c.holder; presser = c.presser; quiet = c.quiet; release = c.release; ring = n; call = c.call; arrival = c.arrival }

abbrev pub with_call : Option Call → Channel → Channel
with_call k c =
    record { code = c.code; entitled = c.entitled; holder = c.holder; presser = c.presser; quiet = c.quiet; release = c.release; ring = c.ring; call = k; arrival = c.arrival }

abbrev pub with_arrival : Option Arrival → Channel → Channel
with_arrival a c =
    record { code = c.code; entitled = c.entitled; holder = c.holder; presser = c.presser; quiet = c.quiet; release = c.release; ring = c.ring; call = c.call; arrival = a }

-- ---- choices by what the channel has

abbrev pub is_pressed : Channel → Bool
is_pressed c = is_held c.presser

-- a mobile rings: "ring clock"
abbrev pub is_ringing : Channel → Bool
is_ringing c = ltb 0 c.ring

-- "if no call is open, one opens"
abbrev pub opened_by : Option Call → Call → Option Call
opened_by k new = Some (unwrap_or k new)

-- ---- what is sent

-- a 550473, if a call is open, to the call's told set: 1 for its start or 0 for its end, and a reason
abbrev pub call_sends : ℕ → ℕ → Option Call → List Send
call_sends start reason None = []
call_sends start reason (Some k) = to k.recipients (CallNotice k.kind k.direction k.base k.source start reason) ∷ []

-- "550473 start": reason 00
abbrev pub start_of : Option Call → List Send
start_of = call_sends 1 0

-- "if no call is open, one opens .. with 550473 start"
abbrev pub opening_sends : Option Call → Call → List Send
opening_sends None new = start_of (Some new)
opening_sends (Some k) new = []

-- "550473 end", with a reason
abbrev pub end_of : ℕ → Option Call → List Send
end_of = call_sends 0

-- the type of the talk in a call
abbrev pub kind_of : Option Call → ℕ
kind_of None = general
kind_of (Some k) = k.kind

-- "Press answer OFF, 550477 order 0, to the holder": to who presses, and that is the holder (Invariant)
abbrev pub press_off_sends : Option ℕ → Option Call → List Send
press_off_sends None k = []
press_off_sends (Some d) k = to (only d) (PressAnswer 0) ∷ to (only d) (PressNotice (kind_of k) 0) ∷ []

-- "To the arrival's told set, held or not by then: incoming OFF, 550464 order 0, 550477 order 0"
abbrev pub mobile_off_sends : Option Arrival → List Send
mobile_off_sends None = []
mobile_off_sends (Some a) =
    to a.recipients (Incoming 0) ∷ to a.recipients (BaseArrival a.kind a.base a.number 0) ∷ to a.recipients (CallerNotice a.kind a.base a.number 0) ∷ []

-- "550651 state 0 to E, numbers as at capture"
abbrev pub freed_sends : ℕ → Channel → List Send
freed_sends e c = to e (CaptureState (holder_place c.holder) 0) ∷ []

-- 02 §1: "incoming OFF, 550480 result 0", to the called desk, and that is whom the call was told to
abbrev pub ring_off_sends : Option Call → List Send
ring_off_sends None = []
ring_off_sends (Some k) = to k.recipients (Incoming 0) ∷ to k.recipients (CallResult 0) ∷ []

-- ---- the rules. E, "the set of running entitled desks", is e.

-- "Capture (550600 order 1). Free: holder set, release clock 120; 550650 result 0 to the desk, 550651 state 1 to E, with
-- the holder's number for the holder and the none-number for all others. Held by the same desk: 550650 result 0 only.
-- Held by another: 550650 result 1 only." 02 §1: "A capture request during a ring gets result 1."
abbrev pub captured : ℕ → ℕ → Channel → Step
captured e d c =
    step (with_holder (Some d) (with_release release_time c)) (to (only d) (CaptureReply 0) ∷ to e (CaptureState d 1) ∷ [])

abbrev pub capture_at : Option ℕ → ℕ → ℕ → Channel → Step
capture_at None e d c = cond (is_ringing c) (step c (to (only d) (CaptureReply 1) ∷ [])) (captured e d c)
capture_at (Some h) e d c = step c (to (only d) (CaptureReply (cond (eqb h d) 0 1)) ∷ [])

unfoldable pub capture : ℕ → ℕ → Channel → Step
capture e d c = capture_at c.holder e d c

-- "Cut by the holder. If pressed, the press-off records. If a call is open, 550473 end, reason 01, to its told set. 550651
-- state 0 to E, numbers as at capture. Holder, press, call and clocks cleared; an arrival stays."
unfoldable pub cut : ℕ → Channel → Step
cut e c =
    step
    (with_holder None (with_presser None (with_quiet 0 (with_release 0 (with_call None c)))))
    (press_off_sends c.presser c.call ++ (end_of 1 c.call ++ freed_sends e c))

-- "Release (order 0). By the holder: 550650 result 0, then a cut. Otherwise 550650 result 1."
unfoldable pub release : ℕ → ℕ → Channel → Step
release e d c =
    cond (held_by d c.holder)
    (step (cut e c).next (to (only d) (CaptureReply 0) ∷ (cut e c).sends))
    (step c (to (only d) (CaptureReply 1) ∷ []))

-- "Press on. Quiet clock 0, release clock 120. Press answer ON; if no call is open, one opens (down, base 999, own number,
-- told only the holder) with 550473 start; then 550477 down, order 1. All to the holder.": to desk d, whose number is n, and d
-- is the holder (row 14)
abbrev pub press_call : ℕ → Number → Call
press_call d n = record { kind = general; direction = down; recipients = only d; base = 999; source = n }

unfoldable pub press_on : ℕ → Number → Channel → Step
press_on d n c =
    step
    (with_presser (Some d) (with_quiet 0 (with_release release_time (with_call (opened_by c.call (press_call d n)) c))))
    (to (only d) (PressAnswer 1)
    ∷ opening_sends c.call (press_call d n)
    ++ (to (only d) (PressNotice (kind_of c.call) 1) ∷ []))

-- "Press off. Press answer OFF, 550477 order 0, to the holder. Release clock 120; quiet clock 10 if there is no arrival."
unfoldable pub press_off : Channel → Step
press_off c =
    step
    (with_presser None (with_quiet (cond (is_present c.arrival) c.quiet quiet_time) (with_release release_time c)))
    (press_off_sends c.presser c.call)

-- "Mobile on. Told set: the holder alone if held, else E."
abbrev pub mobile_recipients : Option ℕ → ℕ → ℕ
mobile_recipients None e = e
mobile_recipients (Some d) e = only d

-- "To it: incoming ON; 550464 order 1; if no call is open, one opens (up, this base and number, this told set) with 550473
-- start; 550477 up, order 1. Quiet clock 0; release clock 120 if held."
abbrev pub mobile_call : ℕ → ℕ → Number → Call
mobile_call m b n = record { kind = general; direction = up; recipients = m; base = b; source = n }

unfoldable pub mobile_on : ℕ → ℕ → Number → Channel → Step
mobile_on e b n c =
    let m : ℕ = mobile_recipients c.holder e in
    let k : ℕ = kind_of c.call in
    step
    (with_quiet 0 (with_release (cond (is_held c.holder) release_time c.release)
    (with_call (opened_by c.call (mobile_call m b n)) (with_arrival (Some (record { kind = k; recipients = m; base = b; number = n })) c))))
    (to m (Incoming 1)
    ∷ to m (BaseArrival k b n 1)
    ∷ opening_sends c.call (mobile_call m b n)
    ++ (to m (CallerNotice k b n 1) ∷ []))

-- "Mobile off. .. Arrival gone. Release clock 120 if held; quiet clock 10 if a call is open and press is off."
unfoldable pub mobile_off : Channel → Step
mobile_off c =
    step
    (with_quiet (cond (is_open c.call) (cond (is_pressed c) c.quiet quiet_time) c.quiet)
    (with_release (cond (is_held c.holder) release_time c.release) (with_arrival None c)))
    (mobile_off_sends c.arrival)

-- 02 §1: "A ring sends the called desk, and it alone, incoming ON, the notice, then 550473 start (up, the mobile's base and
-- number)". The ring is that call, told to the called desk d alone, and the ring timer.
abbrev pub ring_call : ℕ → ℕ → Number → Call
ring_call d b n = record { kind = individual; direction = up; recipients = only d; base = b; source = n }

unfoldable pub ring : ℕ → ℕ → Number → Channel → Step
ring d b n c =
    step
    (with_ring ring_time (with_call (Some (ring_call d b n)) c))
    (to (only d) (Incoming 1) ∷ to (only d) (RingNotice n) ∷ start_of (Some (ring_call d b n)))

-- 02 §1: "The fifteenth tick without it gives that desk, and no other, incoming OFF, 550480 result 0, 550473 end, reason 05; a cancel
-- gives the same with reason 02."
unfoldable pub unanswered : ℕ → Channel → Step
unanswered reason c =
    step (with_ring 0 (with_call None c)) (ring_off_sends c.call ++ end_of reason c.call)

-- 02 §1: "550419 from that desk .. gives it 550469 with 1 and 550480 result 1, then 550651, holder and release clock as at a capture,
-- quiet clock 10"
unfoldable pub answered : ℕ → ℕ → Channel → Step
answered e d c =
    step
    (with_holder (Some d) (with_ring 0 (with_quiet quiet_time (with_release release_time c))))
    (to (only d) (AnswerReply 1) ∷ to (only d) (CallResult 1) ∷ to e (CaptureState d 1) ∷ [])

-- "A 550419 .. that doesn't match .. gets 550469 with 0." Whether it matches is not for the rule to say: `answers_ring`, beside the set.
unfoldable pub ring_answer : ℕ → ℕ → Bool → Channel → Step
ring_answer e d matched c = cond matched (answered e d c) (step c (to (only d) (AnswerReply 0) ∷ []))

-- "Tick .. Pressed or arrival: nothing. Else if the quiet clock runs, it falls by 1; at 0 550473 end, reason 03, to the
-- call's told set, and the call is gone."
unfoldable pub tick_quiet : Channel → Step
tick_quiet c =
    cond (leb c.quiet 1)
    (step (with_quiet 0 (with_call None c)) (end_of 3 c.call))
    (step (with_quiet (c.quiet - 1) c) [])

-- "Else if held, the release clock falls by 1; at 0 550651 state 0 to E as at cut, and the holder is gone."
unfoldable pub tick_release : ℕ → Channel → Step
tick_release e c =
    cond (leb c.release 1)
    (step (with_holder None (with_release 0 c)) (freed_sends e c))
    (step (with_release (c.release - 1) c) [])

unfoldable pub tick_idle : ℕ → Channel → Step
tick_idle e c = cond (ltb 0 c.quiet) (tick_quiet c) (cond (is_held c.holder) (tick_release e c) (step c []))

-- 02 §1: "The fifteenth tick without it"; while a mobile rings no other timer runs
unfoldable pub tick_ring : Channel → Step
tick_ring c = cond (leb c.ring 1) (unanswered 5 c) (step (with_ring (c.ring - 1) c) [])

unfoldable pub tick : ℕ → Channel → Step
tick e c =
    cond (is_ringing c) (tick_ring c)
    (cond (is_pressed c) (step c []) (cond (is_present c.arrival) (step c []) (tick_idle e c)))

-- "Handover, per channel .., each only where there is something to end: press-off records; mobile-off records;" and then, in a
-- list of its own, "550473 end, reason 02, to the call's told set; 550651 state 0 to E as at cut". Both are of the channel as it
-- was, and nothing goes on after them. 02 §1: "A handover ends it as a cancel does."
abbrev pub freed : Channel → Channel
freed c = free_channel c.code c.entitled

unfoldable pub end_talk : Channel → Step
end_talk c = step (freed c) (press_off_sends c.presser c.call ++ mobile_off_sends c.arrival)

unfoldable pub end_call : ℕ → Channel → Step
end_call e c =
    step (freed c)
    (sent_if (is_ringing c) (ring_off_sends c.call) ++ (end_of 2 c.call ++ sent_if (is_held c.holder) (freed_sends e c)))

-- what happens on a channel, by its event
unfoldable pub happens : Event → ℕ → Channel → Step
happens (Capture d) e c = capture e d c
happens (Release d) e c = release e d c
happens Cut e c = cut e c
happens (PressOn d n) e c = press_on d n c
happens PressOff e c = press_off c
happens (MobileOn b n) e c = mobile_on e b n c
happens MobileOff e c = mobile_off c
happens (Ring d b n) e c = ring d b n c
happens Cancel e c = unanswered 2 c
happens (RingAnswer d matched) e c = ring_answer e d matched c
happens Tick e c = tick e c
happens EndTalk e c = end_talk c
happens EndCall e c = end_call e c
