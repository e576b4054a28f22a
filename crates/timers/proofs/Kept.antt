-- The promises of `specs/Promises.antt`, kept: the one module of these proofs that other crates cite.
-- Assumes nothing.
use Prim.Native.Nat.{ℕ}
use mathlib.Core.List.{[]}
use mathlib.Core.Bool.{true, false, false≢true, true≢false}
use mathlib.Core.Path.{◌≡◌, refl, sym, ap, ◌∙◌}
use lib.Dec.{leb, ltb}
use Rattle.laws.proofs.Tests.{cond_of}
use Rattle.channel.specs.State.{is_held, is_present}
use Rattle.line_rules.specs.Rules.{is_pressed, is_ringing, tick, tick_ring, tick_idle, tick_quiet, tick_release}
use Rattle.timers.specs.Falls.{falling, is_due, run_out, tick_by}
use Rattle.timers.specs.Promises.{ByTimers, ByKnownTimers, AtRest, SilentUnlessDue, DueRunsOut}
use Rattle.timers.proofs.Ticks.{by_due, rest-still}
use Rattle.channel.specs.declared.state.Channel.{Channel}
use Rattle.channel.specs.declared.state.Falling.{Falling}
use Rattle.channel.specs.declared.state.Falling.TheVariants.{Still, Ring, Quiet, Release, Due}

pub tick-falling : ByTimers
unfolding tick tick_ring tick_idle tick_quiet tick_release falling run_out
tick-falling e c =
    by_due (is_ringing c) (leb c.ring 1) (is_pressed c) (is_present c.arrival) (ltb 0 c.quiet) (leb c.quiet 1)
    (is_held c.holder) (leb c.release 1) _ _ _ _ _ _ _
    ∙ sym (simp (cond_of (λ (f : Falling). tick_by f e c)) refl)

pub tick_by_lem : {f : Falling} → ByKnownTimers f
tick_by_lem e c h = tick-falling e c ∙ ap (λ (g : Falling). tick_by g e c) h

pub at_rest : AtRest
at_rest = rest-still

silent : (e : ℕ) (c : Channel) (f : Falling) → is_due f ≡ false → (tick_by f e c).sends ≡ []
silent e c Still n = refl
silent e c (Ring r) n = refl
silent e c (Quiet q) n = refl
silent e c (Release r) n = refl
silent e c Due n = absurd (true≢false n)

pub silent_unless_due : SilentUnlessDue
silent_unless_due e c n = rw (tick-falling e c) (silent e c (falling c) n)

runs_out : (e : ℕ) (c : Channel) (f : Falling) → is_due f ≡ true → tick_by f e c ≡ run_out e c
runs_out e c Still d = absurd (false≢true d)
runs_out e c (Ring r) d = absurd (false≢true d)
runs_out e c (Quiet q) d = absurd (false≢true d)
runs_out e c (Release r) d = absurd (false≢true d)
runs_out e c Due d = refl

pub due_runs_out : DueRunsOut
due_runs_out e c d = tick-falling e c ∙ runs_out e c (falling c) d
