-- A tick as the code goes about it, by what it does to the timers. That it is the rule is promised: `ByTimers` (`Promises.antt`).
use Rattle.std.specs.Prelude.{ℕ, ◌-◌, [], Bool, true, false, cond, ◌||◌, leb, ltb, None}
use Rattle.channel.specs.State.{is_held, is_present}
use Rattle.line_rules.specs.Rules.{Step, step, is_pressed, is_ringing, with_call, with_quiet, with_holder, with_release, with_ring, end_of, freed_sends, unanswered}
use Rattle.channel.specs.declared.state.Channel.{Channel}
use Rattle.channel.specs.declared.state.Falling.{Falling}
use Rattle.channel.specs.declared.state.Falling.TheVariants.{Still, Ring, Quiet, Release, Due}

-- what a tick does to the timers
unfoldable pub falling : Channel → Falling
falling c =
    cond (is_ringing c) (cond (leb c.ring 1) Due (Ring (c.ring - 1)))
    (cond (is_pressed c) Still
    (cond (is_present c.arrival) Still
    (cond (ltb 0 c.quiet) (cond (leb c.quiet 1) Due (Quiet (c.quiet - 1)))
    (cond (is_held c.holder) (cond (leb c.release 1) Due (Release (c.release - 1))) Still))))

-- a timer may fall: if not, the channel is at rest
abbrev pub may_fall : Channel → Bool
may_fall c = (ltb 0 c.quiet || ltb 0 c.ring) || is_held c.holder

abbrev pub is_due : Falling → Bool
is_due Still = false
is_due (Ring r) = false
is_due (Quiet q) = false
is_due (Release r) = false
is_due Due = true

-- what a timer does that runs out
unfoldable pub run_out : ℕ → Channel → Step
run_out e c =
    cond (is_ringing c) (unanswered 5 c)
    (cond (ltb 0 c.quiet)
    (step (with_quiet 0 (with_call None c)) (end_of 3 c.call))
    (step (with_holder None (with_release 0 c)) (freed_sends e c)))

-- a tick, by what it does to the timers
abbrev pub tick_by : Falling → ℕ → Channel → Step
tick_by Still e c = step c []
tick_by (Ring r) e c = step (with_ring r c) []
tick_by (Quiet q) e c = step (with_quiet q c) []
tick_by (Release r) e c = step (with_release r c) []
tick_by Due e c = run_out e c
