-- `timers::timers::ticked` meets its contract: by what the tick does to the timers.
-- Assumes nothing.
use mathlib.Core.Path.{refl, sym, ◌∙◌}
use Rattle.timers.proofs.Kept.{tick-falling}
use Rattle.timers.proofs.timers.ticked.Goals as goal

pub returns-in-Still : goal.returns-in-Still
returns-in-Still c x = rw (tick-falling, sym c.falls.ensures ∙ c.in-Still.is) refl

pub returns-in-Ring : goal.returns-in-Ring
returns-in-Ring c x = rw (tick-falling, sym c.falls.ensures ∙ c.in-Ring.is) refl

pub returns-in-Quiet : goal.returns-in-Quiet
returns-in-Quiet c x = rw (tick-falling, sym c.falls.ensures ∙ c.in-Quiet.is) refl

pub returns-in-Release : goal.returns-in-Release
returns-in-Release c x = rw (tick-falling, sym c.falls.ensures ∙ c.in-Release.is) refl

pub returns-in-Due : goal.returns-in-Due
returns-in-Due c x = rw (tick-falling, sym c.falls.ensures ∙ c.in-Due.is) (c.run_out.ensures x)
