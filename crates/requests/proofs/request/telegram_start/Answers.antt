-- `requests::request::telegram_start` meets its contract.
-- Assumes nothing.
use mathlib.Core.Path.{refl}
use native.Mathlib.Omega.{arith}
use borrow.Author.Tests.{lt-ltb, le-ltb}
use Rattle.requests.proofs.request.telegram_start.Goals as goal

pub returns-then-length-lt5 : goal.returns-then-length-lt5
returns-then-length-lt5 c = (rw (lt-ltb _ _ c.if-length-lt5.true) refl, omega arith)

pub returns-else-length-lt5 : goal.returns-else-length-lt5
returns-else-length-lt5 c = (rw (le-ltb _ _ c.if-length-lt5.false) refl, omega arith)
