-- `changes::line::is_heard` meets its contract: a ring has a desk, and nothing is said of other events.
-- Assumes nothing.
use Prim.Native.Nat.{ℕ}
use mathlib.Core.List.{List, [], ◌∷◌}
use mathlib.Core.Path.{◌≡◌, ap₂, ◌∙◌}
use borrow.Enum.Refused.{opened}
use types.Run.{miss}
use Rattle.channel.specs.State.{is_in}
use Rattle.changes.proofs.line.is_heard.Goals as goal

pub returns-in-Ring : goal.returns-in-Ring
returns-in-Ring c = λ d b k e.
    let rung = c.in-Ring.is in
    let same : c.in-Ring.desk ≡ d = cc in
    c.is_in.ensures ∙ ap₂ is_in same c.listeners-listeners.ensures

-- the arm of every event but the ring, which is the eighth
abbrev others : List ℕ
others = 0 ∷ 1 ∷ 2 ∷ 3 ∷ 4 ∷ 5 ∷ 6 ∷ 8 ∷ 9 ∷ 10 ∷ 11 ∷ 12 ∷ []

pub returns-in_default : goal.returns-in_default
returns-in_default c = λ d b k e. absurd (miss others 7 tt (rw e at (opened c.in_default.in_default-own.keys2)))
