-- `requests::request::is_telegram` meets its contract, kind by kind.
-- Assumes nothing.
use mathlib.Core.Path.{refl}
use Rattle.set_rules.specs.Entries.{entry_kind}
use Rattle.requests.proofs.Asked.{no_telegram}
use Rattle.requests.proofs.request.is_telegram.Goals as goal

pub returns-in-Telegram : goal.returns-in-Telegram
unfolding entry_kind
returns-in-Telegram c = rw c.in-Telegram.is refl

pub returns-in_default : goal.returns-in_default
unfolding entry_kind
returns-in_default c = no_telegram _ c.in_default.not-Telegram
