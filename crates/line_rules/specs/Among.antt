-- Who is told of a channel, and which numbers: what holds of a channel among the desks of its set, in every state that a feed from
-- a new set brings about.
use Rattle.std.specs.Prelude.{ℕ, List, [], ◌∷◌, true, ◌⊎◌, ◌≡◌, Option, None, Some}
use Rattle.laws.specs.Each.{Each}
use Rattle.telegram.specs.Telegram.{num}
use Rattle.telegram.specs.declared.message.Number.{Number}
use Rattle.telegram.specs.declared.message.Message.TheVariants.{TimeNotice, RingAnswer as Answers, OperationAnswer, TimeRequest, BaseArrival as Arrived, RingNotice as Rings, AnswerReply as Taken, OperationRequest, Call as CallMade, CallerNotice as Talks, CallResult as Result, CaptureRequest, CaptureReply as Reply, CaptureState as State}
use Rattle.channel.specs.State.{is_in}
use Rattle.channel.specs.declared.state.Call.{Call}
use Rattle.channel.specs.declared.state.Arrival.{Arrival}
use Rattle.channel.specs.declared.state.Channel.{Channel}
use Rattle.channel.specs.declared.state.Event.{Event}
use Rattle.channel.specs.declared.state.Event.TheVariants.{Capture, Release, Cut, PressOn, PressOff, MobileOn, MobileOff, Ring, Cancel, RingAnswer, Tick, EndTalk, EndCall}
use Rattle.channel.specs.declared.state.Notice.{Notice}
use Rattle.channel.specs.declared.state.Notice.TheVariants.{PressAnswer, Incoming, BaseArrival, Call as CallNotice, PressNotice, CallerNotice, CaptureReply, CaptureState, RingNotice, AnswerReply, CallResult}
use Rattle.channel.specs.declared.state.Send.{Send}
use Rattle.line_rules.specs.Rules.{Step}
use Rattle.line_rules.specs.Notices.{Content, telegram, contact}

-- What a set has around its channels: its running desks, each desk's own number, and any property of numbers that mobiles' have.
pub record Around : Type 1 where
  pub running : ℕ → Type 0
  pub own : ℕ → Number
  pub mobile : Number → Type 0

-- the numbers in what a desk is told
abbrev pub numbers_in : Content → List Number
numbers_in (telegram (TimeNotice m)) = []
numbers_in (telegram (Answers m)) = m.source ∷ m.destination ∷ []
numbers_in (telegram (OperationAnswer m)) = []
numbers_in (telegram TimeRequest) = []
numbers_in (telegram (Arrived m)) = m.number ∷ []
numbers_in (telegram (Rings m)) = m.source ∷ m.destination ∷ []
numbers_in (telegram (Taken m)) = []
numbers_in (telegram OperationRequest) = []
numbers_in (telegram (CallMade m)) = m.source ∷ m.destination ∷ []
numbers_in (telegram (Talks m)) = m.number ∷ []
numbers_in (telegram (Result m)) = m.destination ∷ []
numbers_in (telegram (CaptureRequest m)) = m.number ∷ []
numbers_in (telegram (Reply m)) = []
numbers_in (telegram (State m)) = m.number ∷ []
numbers_in (contact k ch on) = []

module _ (w : Around) where
  -- a running entitled desk
  abbrev pub Listens : Channel → ℕ → Type 0
  Listens c d = w.running d × (is_in d c.entitled ≡ true)

  -- all desks of a set listen
  abbrev pub AllListen : Channel → ℕ → Type 0
  AllListen c m = (d : ℕ) → is_in d m ≡ true → Listens c d

  -- a number that desk d may be told: none, its own, or a mobile's
  abbrev pub ForDesk : ℕ → Number → Type 0
  ForDesk d n = (n ≡ num 0) ⊎ ((n ≡ w.own d) ⊎ w.mobile n)

  -- recipients who all listen, with a number for each
  pub record Told (c : Channel) (m : ℕ) (n : Number) : Type 0 where
    pub listen : AllListen c m
    pub learn : (d : ℕ) → is_in d m ≡ true → ForDesk d n

  abbrev pub HolderListens : Channel → Option ℕ → Type 0
  HolderListens c None = Unit {0}
  HolderListens c (Some d) = Listens c d

  abbrev pub CallTold : Channel → Option Call → Type 0
  CallTold c None = Unit {0}
  CallTold c (Some k) = Told c k.recipients k.source

  abbrev pub ArrivalTold : Channel → Option Arrival → Type 0
  ArrivalTold c None = Unit {0}
  ArrivalTold c (Some a) = Told c a.recipients a.number

  pub record Among (c : Channel) : Type 0 where
    pub holder_listens : HolderListens c c.holder
    pub call-told : CallTold c c.call
    pub arrival-told : ArrivalTold c c.arrival

  -- what an accepted entry makes sure of before an event, beside `Fits`
  abbrev pub FitsAmong : Event → Channel → Type 0
  FitsAmong (Capture d) c = Listens c d
  FitsAmong (Release d) c = Listens c d
  FitsAmong Cut c = Unit {0}
  FitsAmong (PressOn d n) c = n ≡ w.own d
  FitsAmong PressOff c = Unit {0}
  FitsAmong (MobileOn b n) c = w.mobile n
  FitsAmong MobileOff c = Unit {0}
  FitsAmong (Ring d b n) c = Listens c d × w.mobile n
  FitsAmong Cancel c = Unit {0}
  FitsAmong (RingAnswer d matched) c = Listens c d
  FitsAmong Tick c = Unit {0}
  FitsAmong EndTalk c = Unit {0}
  FitsAmong EndCall c = Unit {0}

  -- ---- what is sent

  -- a send about channel c: its recipients listen, and each number in it, as content_for puts it, is for its desk
  abbrev pub NoticeTold : Channel → ℕ → Notice → Type 0
  NoticeTold c m (PressAnswer on) = AllListen c m
  NoticeTold c m (Incoming on) = AllListen c m
  NoticeTold c m (BaseArrival k b n o) = Told c m n
  NoticeTold c m (CallNotice k d b s t r) = Told c m s
  NoticeTold c m (PressNotice k o) = AllListen c m
  NoticeTold c m (CallerNotice k b n o) = Told c m n
  NoticeTold c m (CaptureReply r) = AllListen c m
  NoticeTold c m (CaptureState h s) = AllListen c m
  NoticeTold c m (RingNotice n) = Told c m n
  NoticeTold c m (AnswerReply r) = AllListen c m
  NoticeTold c m (CallResult r) = AllListen c m

  abbrev pub SendTold : Channel → Send → Type 0
  SendTold c s = NoticeTold c s.recipients s.notice

  -- what a rule makes of channel c
  pub record StepAmong (c : Channel) (st : Step) : Type 0 where
    pub next-among : Among st.next
    pub sends-told : Each (SendTold c) st.sends
