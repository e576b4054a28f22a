-- What is promised of the line rules of one channel, for every channel and every set of listeners. `proofs/` proves each under the
-- name given with it. Most of them shut out one of 01's traps on the bench.
use Rattle.std.specs.Prelude.{ℕ, zero, suc, ◌≤◌, List, [], ◌∷◌, ◌++◌, map, Bool, true, false, ◌⊎◌, ◌≡◌, eqb, ltb, replicate, Option, None, Some}
use Rattle.laws.specs.Each.{Each}
use Rattle.telegram.specs.Telegram.{num}
use Rattle.telegram.specs.declared.message.Number.{Number}
use Rattle.channel.specs.State.{only, is_in, free_channel, is_held, is_present, holder_place, is_open}
use Rattle.line_rules.specs.Rules.{quiet_time, release_time, to, is_ringing, cut, press_off, mobile_on, mobile_off, ring_call, ring, unanswered, tick, end_of, freed_sends, mobile_recipients, happens}
use Rattle.line_rules.specs.Notices.{content_for}
use Rattle.line_rules.specs.Veil.{hide_call, hide_arrival, hide, hide_step}
use Rattle.line_rules.specs.Turns.{orders_to, lasting, ByTurns, Begins}
use Rattle.line_rules.specs.Invariant.{NumberOk, ChannelOk, Fits, NoticeOk, StepOk, ContentOk}
use Rattle.line_rules.specs.Among.{Around, numbers_in, AllListen, ForDesk, Among, FitsAmong, NoticeTold, StepAmong}
use Rattle.channel.specs.declared.state.Call.{Call}
use Rattle.channel.specs.declared.state.Arrival.{Arrival}
use Rattle.channel.specs.declared.state.Channel.{Channel}
use Rattle.channel.specs.declared.state.Event.{Event}
use Rattle.channel.specs.declared.state.Event.TheVariants.{Capture, Release, Cut, PressOn, PressOff, MobileOn, MobileOff, Ring, Cancel, RingAnswer, Tick, EndTalk, EndCall}
use Rattle.channel.specs.declared.state.Notice.{Notice}
use Rattle.channel.specs.declared.state.Notice.TheVariants.{PressAnswer, Incoming, BaseArrival, Call as CallNotice, PressNotice, CallerNotice, CaptureReply, CaptureState, RingNotice, AnswerReply, CallResult}
use Rattle.channel.specs.declared.state.Send.{Send}

abbrev pub recipients_of : List Send → List ℕ
recipients_of = map (λ (s : Send). s.recipients)

-- A mobile off goes to those who were told of its mobile on, whoever holds or listens by then (`Traps.off_to_the_told`).
abbrev pub OffToTheTold : Type 0
OffToTheTold =
    (c : Channel) (a : Arrival) → c.arrival ≡ Some a → recipients_of (mobile_off c).sends ≡ a.recipients ∷ a.recipients ∷ a.recipients ∷ []

abbrev pub GoesTo : ℕ → Send → Type 0
GoesTo m s = s.recipients ≡ m

-- A mobile on, on a held channel, goes to the holder alone (`Traps.on_to_the_holder`).
abbrev pub OnToTheHolder : Type 0
OnToTheHolder = (e b : ℕ) (n : Number) (c : Channel) (d : ℕ) → c.holder ≡ Some d → Each (GoesTo (only d)) (mobile_on e b n c).sends

-- the recipients that an arrival keeps
abbrev pub kept_in : Option Arrival → ℕ
kept_in None = 0
kept_in (Some a) = a.recipients

-- A mobile on keeps whom it tells: all of it goes to the recipients of the arrival that it makes (`Traps.told_are_kept`).
abbrev pub ToldAreKept : Type 0
ToldAreKept = (e b : ℕ) (n : Number) (c : Channel) → Each (GoesTo (kept_in (mobile_on e b n c).next.arrival)) (mobile_on e b n c).sends

-- if a notice is a 550651, this holds of the desk that it is about
abbrev pub About : (ℕ → Type 0) → Notice → Type 0
About P (PressAnswer on) = Unit {0}
About P (Incoming on) = Unit {0}
About P (BaseArrival k b n o) = Unit {0}
About P (CallNotice k w b s t r) = Unit {0}
About P (PressNotice k o) = Unit {0}
About P (CallerNotice k b n o) = Unit {0}
About P (CaptureReply r) = Unit {0}
About P (CaptureState h s) = P h
About P (RingNotice n) = Unit {0}
About P (AnswerReply r) = Unit {0}
About P (CallResult r) = Unit {0}

abbrev pub IsAbout : (ℕ → Type 0) → Send → Type 0
IsAbout P s = About P s.notice

-- the holder, or the desk that captures or answers a ring
abbrev pub Concerned : Event → Channel → ℕ → Type 0
Concerned v c d = (d ≡ holder_place c.holder) ⊎ ((v ≡ Capture d) ⊎ (v ≡ RingAnswer d true))

-- Every 550651 that an event sends is about the holder, or the desk that captures or answers a ring (`Traps.about_the_holder`).
abbrev pub AboutTheHolder : Type 0
AboutTheHolder = (v : Event) (e : ℕ) (c : Channel) → Each (IsAbout (Concerned v c)) (happens v e c).sends

-- A 550651 gives no number to a desk that it is not about, not even its own (`Traps.number_for_the_holder`).
abbrev pub NumberForTheHolder : Type 0
NumberForTheHolder =
    (desk channel holder state : ℕ) (own : Number) → eqb holder desk ≡ false
    → content_for desk own channel (CaptureState holder state) ≡ content_for desk (num 0) channel (CaptureState holder state)

-- A cut leaves the arrival as it is (`Traps.arrival_outlives_a_cut`).
abbrev pub ArrivalOutlivesACut : Type 0
ArrivalOutlivesACut = (e : ℕ) (c : Channel) → (cut e c).next.arrival ≡ c.arrival

-- While the quiet timer runs, a tick leaves the release timer alone (`Traps.one_timer_at_a_time`).
abbrev pub OneTimerAtATime : Type 0
OneTimerAtATime = (e : ℕ) (c : Channel) → ltb 0 c.quiet ≡ true → (tick e c).next.release ≡ c.release

-- a held channel with no press and no arrival, its timers just started
unfoldable pub quietly : ℕ → ℕ → ℕ → Option Call → Channel
quietly code entitled d k =
    record { code = code; entitled = entitled; holder = Some d; presser = None; quiet = quiet_time; release = release_time; ring = 0; call = k; arrival = None }

-- what each of so many ticks sends, and whether a call is open and the channel held after it
unfoldable pub by_ticks : ℕ → ℕ → Channel → List (List Send × (Bool × Bool))
by_ticks zero e c = []
by_ticks (suc n) e c =
    ((tick e c).sends, (is_open (tick e c).next.call, is_held (tick e c).next.holder)) ∷ by_ticks n e (tick e c).next

-- "After the holder's press off with no arrival, .. 9 send nothing, the tenth ends the call, and the 130th releases"
-- (`Traps.ten_and_a_hundred_and_thirty`); while a desk presses, a call is open (`StaysOk`)
abbrev pub TenAndAHundredAndThirty : Type 0
TenAndAHundredAndThirty =
    (e : ℕ) (c : Channel) (d : ℕ) → c.holder ≡ Some d → c.arrival ≡ None → is_open c.call ≡ true → c.ring ≡ 0
    → by_ticks 130 e (press_off c).next
    ≡ replicate 9 ([], (true, true))
    ++ ((end_of 3 c.call, (false, true)) ∷ replicate 119 ([], (false, true)) ++ ((freed_sends e c, (false, false)) ∷ []))

-- ---- Rings (02 §1)

-- "A ring sends the called desk, and it alone": all of it goes to that desk, and the call that is kept is that desk's
-- (`Traps.ring_to_the_called`).
abbrev pub RingToTheCalled : Type 0
RingToTheCalled =
    (d b : ℕ) (n : Number) (c : Channel)
    → Each (GoesTo (only d)) (ring d b n c).sends × ((ring d b n c).next.call ≡ Some (record { kind = 3; direction = 2; recipients = only d; base = b; source = n }))

-- "gives that desk, and no other": the end of a ring that is not answered goes to those whom its call was told to
-- (`Traps.ring_end_to_the_called`).
abbrev pub RingEndToTheCalled : Type 0
RingEndToTheCalled =
    (reason : ℕ) (c : Channel) (k : Call) → c.call ≡ Some k → Each (GoesTo k.recipients) (unanswered reason c).sends

-- whether a mobile still rings after each of so many ticks, and what each sends
unfoldable pub ring_ticks : ℕ → ℕ → Channel → List (List Send × Bool)
ring_ticks zero e c = []
ring_ticks (suc n) e c = ((tick e c).sends, is_ringing (tick e c).next) ∷ ring_ticks n e (tick e c).next

-- "The fifteenth tick without it": fourteen send nothing, the fifteenth ends the ring (`Traps.fourteen_and_the_fifteenth`).
abbrev pub FourteenAndTheFifteenth : Type 0
FourteenAndTheFifteenth =
    (e d b : ℕ) (n : Number) (c : Channel)
    → ring_ticks 15 e (ring d b n c).next
    ≡ replicate 14 ([], true)
    ++ ((to (only d) (Incoming 0) ∷ to (only d) (CallResult 0) ∷ end_of 5 (Some (ring_call d b n)), false) ∷ [])

-- "a cancel gives the same with reason 02" (`Traps.cancel_is_the_same`).
abbrev pub CancelIsTheSame : Type 0
CancelIsTheSame =
    (e d b : ℕ) (n : Number) (c : Channel)
    → (happens Cancel e (ring d b n c).next).sends
    ≡ to (only d) (Incoming 0) ∷ to (only d) (CallResult 0) ∷ end_of 2 (Some (ring_call d b n))

-- "A handover ends it as a cancel does" (`Traps.handover_cancels`).
abbrev pub HandoverCancels : Type 0
HandoverCancels =
    (e : ℕ) (c : Channel) → ChannelOk c → is_ringing c ≡ true
    → (happens EndTalk e c).sends ++ (happens EndCall e c).sends ≡ (happens Cancel e c).sends

-- ---- What holds of every channel

-- A free channel of a plan is so (`Kept.free_is_ok`).
abbrev pub FreeIsOk : Type 0
FreeIsOk = (code entitled : ℕ) → code ≤ 99 → ChannelOk (free_channel code entitled)

-- Whatever happens on a channel, it stays so, and what it sends is in range (`Kept.stays-ok`).
abbrev pub StaysOk : Type 0
StaysOk = (v : Event) (e : ℕ) (c : Channel) → Fits v c → ChannelOk c → StepOk (happens v e c)

-- A notice in range is a telegram in range to every desk (`Kept.says_in_range`).
abbrev pub SaysInRange : Type 0
SaysInRange = (desk : ℕ) (own : Number) (ch : ℕ) (n : Notice) → NumberOk own → ch ≤ 99 → NoticeOk n → ContentOk (content_for desk own ch n)

-- ---- Who is told, and of which numbers

-- A free channel of a plan is so among any desks (`Kept.free_is_among`).
abbrev pub FreeIsAmong : Type 1
FreeIsAmong = (w : Around) (code entitled : ℕ) → Among w (free_channel code entitled)

-- Only listening desks are told of a channel, and each number only to desks that it is for; and it stays so, whatever happens
-- (`Kept.stays-among`).
abbrev pub StaysAmong : Type 1
StaysAmong =
    (w : Around) (v : Event) (e : ℕ) (c : Channel) → Fits v c → FitsAmong w v c → AllListen w c e → ChannelOk c → Among w c
    → StepAmong w c (happens v e c)

-- Each number in what a recipient is told is for it (`Kept.says_for_desk`).
abbrev pub SaysForDesk : Type 1
SaysForDesk =
    (w : Around) (c : Channel) (m ch d : ℕ) (n : Notice) → NoticeTold w c m n → is_in d m ≡ true
    → Each (ForDesk w d) (numbers_in (content_for d (w.own d) ch n))

-- A desk is not in the set of another (`Kept.only-other`).
abbrev pub OnlyOther : Type 0
OnlyOther = (B d : ℕ) → (d ≡ B → ⊥) → is_in B (only d) ≡ false

-- ---- What a desk B may see: what happens on a channel goes by what is left of it when numbers are hidden from B (`Kept`)

abbrev pub HideTwice : Type 0
HideTwice = (B : ℕ) (c : Channel) → hide B (hide B c) ≡ hide B c

abbrev pub PresentHide : Type 0
PresentHide = (B : ℕ) (a : Option Arrival) → is_present (hide_arrival B a) ≡ is_present a

abbrev pub OpenHide : Type 0
OpenHide = (B : ℕ) (k : Option Call) → is_open (hide_call B k) ≡ is_open k

abbrev pub HappensHide : Type 0
HappensHide = (B : ℕ) (v : Event) (e : ℕ) (c : Channel) → hide_step B (happens v e (hide B c)) ≡ hide_step B (happens v e c)

-- A mobile's number is hidden from B where B is not among its recipients.
abbrev pub NumberHidden : Type 0
NumberHidden =
    (B e b : ℕ) (n n' : Number) (c : Channel) → is_in B (mobile_recipients c.holder e) ≡ false
    → hide_step B (mobile_on e b n c) ≡ hide_step B (mobile_on e b n' c)

-- So is that of a mobile that rings another desk.
abbrev pub RingHidden : Type 0
RingHidden =
    (B d b : ℕ) (n n' : Number) (c : Channel) → is_in B (only d) ≡ false → hide_step B (ring d b n c) ≡ hide_step B (ring d b n' c)

-- ---- Holdings

-- what may end the holding of desk d on a channel: its release, a cut (the holder's, by row 14), its timer, a handover
abbrev pub Ends : Event → Channel → ℕ → Type 0
Ends (Capture d') c d = ⊥
Ends (Release d') c d = d' ≡ d
Ends Cut c d = Unit {0}
Ends (PressOn d' n) c d = ⊥
Ends PressOff c d = ⊥
Ends (MobileOn b n) c d = ⊥
Ends MobileOff c d = ⊥
Ends (Ring d' b n) c d = ⊥
Ends Cancel c d = ⊥
Ends (RingAnswer d' matched) c d = ⊥
Ends Tick c d = c.release ≤ 1
Ends EndTalk c d = Unit {0}
Ends EndCall c d = Unit {0}

-- A holding lasts unless one of these ends it (`Kept.holding_lasts`).
abbrev pub HoldingLasts : Type 0
HoldingLasts =
    (v : Event) (e : ℕ) (c : Channel) (d : ℕ) → Fits v c → ChannelOk c → c.holder ≡ Some d
    → ((happens v e c).next.holder ≡ Some d) ⊎ Ends v c d

-- ---- The plan's part of a channel

-- A channel keeps its code and its entitled desks, whatever happens (`Kept.keeps_place`).
abbrev pub KeepsPlace : Type 0
KeepsPlace = (v : Event) (e : ℕ) (c : Channel) → ((happens v e c).next.code ≡ c.code) × ((happens v e c).next.entitled ≡ c.entitled)

-- ---- What was told is ended

-- On every matter a desk is told start and end by turns, and of each end whose start it was told (`Kept.by_turns`).
abbrev pub GoesByTurns : Type 0
GoesByTurns =
    (B x : ℕ) (v : Event) (e : ℕ) (c : Channel) → x ≤ 6 → Fits v c → ChannelOk c → Begins x v c
    → ByTurns (lasting B x c) (orders_to B x (happens v e c).sends) (lasting B x (happens v e c).next)

-- After the two parts of a handover nothing lasts (`Kept.handover_ends`).
abbrev pub HandoverEnds : Type 0
HandoverEnds =
    (B x : ℕ) (e : ℕ) (c : Channel) → x ≤ 6 → ChannelOk c
    → ByTurns (lasting B x c) (orders_to B x ((happens EndTalk e c).sends ++ (happens EndCall e c).sends)) false
