-- What is promised of a tick, beside the contracts. `proofs/Kept.antt` has the proof of each under the name given with it, and
-- is the one module of the proofs that other crates cite.
use Rattle.std.specs.Prelude.{ℕ, [], true, false, ◌≡◌}
use Rattle.line_rules.specs.Rules.{tick}
use Rattle.timers.specs.Falls.{falling, may_fall, is_due, run_out, tick_by}
use Rattle.channel.specs.declared.state.Channel.{Channel}
use Rattle.channel.specs.declared.state.Falling.{Falling}
use Rattle.channel.specs.declared.state.Falling.TheVariants.{Still}

-- The rule's tick goes by what it does to the timers (`tick-falling`), also where that is known (`tick_by_lem`).
abbrev pub ByTimers : Type 0
ByTimers = (e : ℕ) (c : Channel) → tick e c ≡ tick_by (falling c) e c

abbrev pub ByKnownTimers : Falling → Type 0
ByKnownTimers f = (e : ℕ) (c : Channel) → falling c ≡ f → tick e c ≡ tick_by f e c

-- Where no timer may fall the channel is at rest (`at_rest`).
abbrev pub AtRest : Type 0
AtRest = (c : Channel) → may_fall c ≡ false → falling c ≡ Still

-- A tick sends nothing unless a timer runs out (`silent_unless_due`).
abbrev pub SilentUnlessDue : Type 0
SilentUnlessDue = (e : ℕ) (c : Channel) → is_due (falling c) ≡ false → (tick e c).sends ≡ []

-- One that runs out does what `run_out` says (`due_runs_out`).
abbrev pub DueRunsOut : Type 0
DueRunsOut = (e : ℕ) (c : Channel) → is_due (falling c) ≡ true → tick e c ≡ run_out e c
