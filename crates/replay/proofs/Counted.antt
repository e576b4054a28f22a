-- The front of the buffer that is counted is what was written.
-- Assumes nothing.
use Rattle.std.proofs.Common.{◌≡◌, ℕ, List, take, sym, take_at}
use Rattle.telegram.specs.Telegram.{over}
use Rattle.set_state.specs.declared.state.LineSet.{LineSet}
use Rattle.set_rules.specs.Feeds.{step_of}
use Rattle.set_rules.proofs.Kept.{counted}

pub front-is : (s : LineSet) (e : List ℕ) (room : ℕ) (buffer : List ℕ) → take (step_of s e room).count (over (step_of s e room).bytes buffer) ≡ (step_of s e room).bytes
front-is s e room buffer = take_at (step_of s e room).bytes _ (step_of s e room).count (sym (counted s e room))
