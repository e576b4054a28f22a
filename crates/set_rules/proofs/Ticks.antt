-- The marked case of the ticks: nine send nothing, the tenth ends the call, the 130th releases.
-- Assumes nothing.
use Prim.Native.Nat.{ℕ, zero, suc, ◌+◌}
use mathlib.Core.List.{List, [], ◌∷◌, ◌++◌, map, append-nil}
use mathlib.Core.Bool.{Bool, true, false, ◌&&◌, not, cond, false≢true}
use mathlib.Core.Path.{◌≡◌, refl, sym, ap, ◌∙◌}
use native.Mathlib.Omega.{arith}
use lib.Dec.{eqb, ltb}
use lib.ListN.{length, replicate, get_or}
use borrow.Author.Tests.{ltb-false}
use Rattle.std.specs.Prelude.{Option, None, Some}
use Rattle.laws.proofs.Tests.{by_test}
use Rattle.channel.specs.State.{is_in, is_held, is_open}
use Rattle.line_rules.specs.Rules.{happens, press_off, tick, tick_idle, tick_quiet, tick_release, is_pressed, is_ringing, end_of, freed_sends}
use Rattle.line_rules.specs.Promises.{quietly}
use Rattle.channel.specs.declared.state.Call.{Call}
use Rattle.channel.specs.declared.state.Channel.{Channel}
use Rattle.channel.specs.declared.state.Send.{Send}
use Rattle.set_state.specs.State.{new_set, no_channel, place_of, has_channel, channel_at, listeners_of}
use Rattle.set_rules.specs.Entries.{read_entry, entry_kind, entry_desk, entry_channel, entry_on, ReadEntry, entry_base, entry_number, entry_called}
use Rattle.laws.specs.Each.{Each}
use Rattle.laws.specs.Table.{pick}
use Rattle.set_rules.specs.Refusals.{refusal_of}
use Rattle.set_rules.specs.Records.{delivered, records_of}
use Rattle.set_rules.specs.SetRules.{sends_of, on_channel, on_tick, accepted_by, accepted}
use Rattle.set_rules.specs.Feeds.{Item, step_by, run, after}
use Rattle.set_rules.specs.Spelling.{entry_of}
use Rattle.set_rules.specs.Marked.{Accepted, Ticked, ticked_by, tick_of, ticks_with, end_bytes, EndsAt}
use Rattle.set_rules.proofs.Answers.{accepted-after, accepted-done}
use Rattle.set_rules.proofs.Rows.{no_row}
use Rattle.set_rules.proofs.Readable.{always_ok}
use Rattle.line_rules.specs.Invariant.{ChannelOk}
use Rattle.set_state.specs.declared.state.Desk.{Desk}
use Rattle.set_state.specs.declared.state.LineSet.{LineSet}

-- ---- an accepted tick

tick-done : (s : LineSet) (b : List ℕ) → (step_by s (record { entry = entry_of 6 []; buffer = b })).refusal ≡ 0
    → ((step_by s (record { entry = entry_of 6 []; buffer = b })).bytes ≡ records_of s.desks (on_tick s).sent)
    × ((step_by s (record { entry = entry_of 6 []; buffer = b })).after ≡ (on_tick s).after)
unfolding pick accepted_by accepted read_entry on_tick entry_kind entry_desk entry_channel entry_on entry_base entry_number entry_called
tick-done s b z = let k = accepted-done s (record { entry = entry_of 6 []; buffer = b }) z in (k.bytes_are, k.after_is)

-- what a tick of a set writes, and how it leaves the first channel
tick_in : LineSet → Ticked
tick_in s =
    let c : Channel = get_or (on_tick s).after.channels 0 no_channel in
    ticked_by (records_of s.desks (on_tick s).sent) (is_open c.call) (is_held c.holder)

-- the same of so many ticks
by_ticks : ℕ → LineSet → List Ticked
by_ticks zero s = []
by_ticks (suc n) s = tick_in s ∷ by_ticks n (on_tick s).after

ticks_are : (bs : List (List ℕ)) (s : LineSet) → Each Accepted (run s (ticks_with bs)) → map tick_of (run s (ticks_with bs)) ≡ by_ticks (length bs) s
unfolding run by_ticks tick_in
ticks_are [] s a = refl
ticks_are (b ∷ bs) s a =
    let k = tick-done s b a.0 in
    let rest : Each Accepted (run (on_tick s).after (ticks_with bs)) = rw k.1 at a.1 in
    rw (k.0, k.1, ticks_are bs (on_tick s).after rest)

-- ---- 130 ticks of a set with one channel, held, with an open call, no press and no arrival

abbrev set_with : Channel → List Channel → List Desk → ℕ → LineSet
set_with c rest ds n = record { channels = c ∷ rest; desks = ds; size = record { desks = n; channels = 1 }; planned = true }

-- as 01 has it: what two of the ticks write, and the rest nothing
abbrev in_words : List ℕ → List ℕ → List Ticked
in_words v w =
    replicate 9 (ticked_by [] true true)
    ++ (ticked_by v false true ∷ replicate 119 (ticked_by [] false true) ++ (ticked_by w false false ∷ []))

ticking : (code entitled d n : ℕ) (call : Call) (rest : List Channel) (ds : List Desk)
    → let k = Some call in
    by_ticks 130 (set_with (quietly code entitled d k) rest ds n)
    ≡ in_words (records_of ds (delivered ds code (end_of 3 k) ++ []))
    (records_of ds (delivered ds code (freed_sends (listeners_of ds n (quietly code entitled d k)) (quietly code entitled d k)) ++ []))
unfolding quietly by_ticks tick_in on_tick sends_of delivered records_of happens tick tick_idle tick_quiet tick_release
ticking code entitled d n call rest ds = refl

ticked_open : (code entitled d n : ℕ) (k : Option Call) → is_open k ≡ true → (rest : List Channel) (ds : List Desk)
    → by_ticks 130 (set_with (quietly code entitled d k) rest ds n)
    ≡ in_words (records_of ds (delivered ds code (end_of 3 k)))
    (records_of ds (delivered ds code (freed_sends (listeners_of ds n (quietly code entitled d k)) (quietly code entitled d k))))
ticked_open code entitled d n None o rest ds = absurd (false≢true o)
ticked_open code entitled d n (Some k) o rest ds =
    let q = quietly code entitled d (Some k) in
    ticking code entitled d n k rest ds
    ∙ rw (append-nil (delivered ds code (end_of 3 (Some k))), append-nil (delivered ds code (freed_sends (listeners_of ds n q) q)))

-- ---- an accepted press off on the one channel

-- rows 4 and 12 of an accepted press: there is a plan, and the channel is in it
pub press-planned : (s : LineSet) (e : List ℕ) (x : ReadEntry) → entry_kind x ≡ 2 → refusal_of s e x ≡ 0 → (s.planned ≡ true) × (has_channel s (entry_channel x) ≡ true)
press-planned s e x k z =
    let t = no_row s e x z in
    (planned s.planned (rw k at t.row4-fails), has (has_channel s (entry_channel x)) (is_in (entry_desk x) (channel_at s (entry_channel x)).entitled) (rw k at t.row12-fails))
  where
    planned : (t : Bool) → (not t && true) ≡ false → t ≡ true
    planned true h = refl
    planned false h = absurd (false≢true (sym h))

    has : (a b : Bool) → not (a && b) ≡ false → a ≡ true
    has true b h = refl
    has false b h = absurd (false≢true (sym h))

-- the one channel is the one that is pressed
one_place : (c : Channel) (rest : List Channel) (ds : List Desk) (n ch : ℕ) → has_channel (set_with c rest ds n) ch ≡ true → eqb c.code ch ≡ true
unfolding place_of
one_place c rest ds n ch h = go (eqb c.code ch) h
  where
    go : (t : Bool) → ltb (cond t 0 (1 + 0)) 1 ≡ true → t ≡ true
    go true h = refl
    go false h = absurd (false≢true h)

let_go : (c : Channel) (rest : List Channel) (ds : List Desk) (n d : ℕ) (e : List ℕ) (x : ReadEntry) → c.holder ≡ Some d → c.arrival ≡ None → c.ring ≡ 0
    → entry_kind x ≡ 2 → entry_on x ≡ 0 → eqb c.code (entry_channel x) ≡ true
    → (accepted (set_with c rest ds n) e x).after ≡ set_with (quietly c.code c.entitled d c.call) rest ds n
unfolding pick accepted_by accepted on_channel place_of happens press_off quietly
let_go c rest ds n d e x h a q k o m = rw (k, o, m, h, a, q)

-- the channel was pressed: row 15
was_pressed : (c : Channel) (rest : List Channel) (ds : List Desk) (n : ℕ) (e : List ℕ) (x : ReadEntry) → entry_kind x ≡ 2 → entry_on x ≡ 0
    → eqb c.code (entry_channel x) ≡ true → refusal_of (set_with c rest ds n) e x ≡ 0 → is_pressed c ≡ true
unfolding place_of
was_pressed c rest ds n e x k o m z =
    let off : eqb 0 (cond (is_pressed c) 1 0) ≡ false = rw (k, o, m) at (no_row (set_with c rest ds n) e x z).row15-fails in
    by_test (is_pressed c) (λ p. p) (λ p. absurd (false≢true (sym (rw p at off))))

-- so a call was open (`Timed`), and no mobile rings where a desk holds
first-ok : (f : List Item) (c : Channel) (rest : List Channel) → (after new_set f).channels ≡ c ∷ rest → ChannelOk c
first-ok f c rest cs = let ok : Each ChannelOk (c ∷ rest) = rw cs at (always_ok f).channels-ok in ok.0

held-silent : (c : Channel) (d : ℕ) → ChannelOk c → c.holder ≡ Some d → c.ring ≡ 0
held-silent c d ok h =
    by_test (is_ringing c)
    (λ r. absurd (false≢true (ap is_held (sym (ok.rung r).nobody-holds ∙ h))))
    (λ r. omega (arith, ltb-false 0 c.ring r))

pub ends_at : EndsAt 10 130
unfolding quietly
ends_at f c rest d one cs h a i k o z bs l all =
    let s = after new_set f in
    let x = read_entry i.entry in
    let r = accepted-after s i z in
    let p = press-planned s i.entry x k r.0 in
    let s' = set_with c rest s.desks s.size.desks in
    let e : s ≡ s' = λ j. record { channels = cs j; desks = s.desks; size = record { desks = s.size.desks; channels = one j }; planned = p.0 j } in
    let m = one_place c rest s.desks s.size.desks (entry_channel x) (ap (λ (t : LineSet). has_channel t (entry_channel x)) (sym e) ∙ p.1) in
    let pressed = was_pressed c rest s.desks s.size.desks i.entry x k o m (ap (λ (t : LineSet). refusal_of t i.entry x) (sym e) ∙ r.0) in
    let ok = first-ok f c rest cs in
    let q = quietly c.code c.entitled d c.call in
    let s₁ = set_with q rest s.desks s.size.desks in
    let g : (step_by s i).after ≡ s₁ =
    r.1 ∙ ap (λ (t : LineSet). (accepted t i.entry x).after) e ∙ let_go c rest s.desks s.size.desks d i.entry x h a (held-silent c d ok h) k o m in
    let w : freed_sends (listeners_of s.desks s.size.desks q) q ≡ freed_sends (listeners_of s.desks s.size.desks c) c = rw h in
    ap (λ (t : LineSet). map tick_of (run t (ticks_with bs))) g
    ∙ ticks_are bs s₁ (rw g at all)
    ∙ ap (λ (j : ℕ). by_ticks j s₁) l
    ∙ ticked_open c.code c.entitled d s.size.desks c.call (ok.timed.pressed_open pressed) rest s.desks
    ∙ ap (λ (n : List Send). in_words (end_bytes s c) (records_of s.desks (delivered s.desks c.code n))) w
