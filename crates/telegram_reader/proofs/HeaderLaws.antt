-- What the reader's header step tells of `header_ok`.
-- Assumes nothing.
use Prim.Native.Nat.{ℕ, ◌≤◌}
use mathlib.Core.List.{List}
use mathlib.Core.Bool.{true, false}
use mathlib.Core.Path.{◌≡◌, sym}
use lib.ListN.{length}
use Rattle.std.specs.Prelude.{Some, None}
use Rattle.std.proofs.lemmas.Option.{none-some, cond_some}
use Rattle.laws.proofs.Tests.{cond-left}
use Rattle.telegram.specs.Telegram.{nth, heading, header_ok}
use Rattle.telegram.proofs.Kept.{header_long as long-header}
use Rattle.telegram_reader.specs.Steps.{header_of}

pub header_found : (s : List ℕ) (k : ℕ) → header_of s ≡ Some k → (header_ok s ≡ true) × (nth (heading s) 1 ≡ k)
header_found s k e = cond_some (header_ok s) (nth (heading s) 1) k e

pub header_none : (s : List ℕ) → header_of s ≡ None → header_ok s ≡ false
header_none s e = (cond-left (header_ok s) _ None e (λ q. none-some (nth (heading s) 1) (sym q))).0

pub header_long : (s : List ℕ) (k : ℕ) → header_of s ≡ Some k → 16 ≤ length s
header_long s k e = long-header s (header_found s k e).0
