-- `requests::request::is_from_desk` meets its contract, kind by kind.
-- Assumes nothing.
use mathlib.Core.Path.{refl}
use Rattle.set_rules.specs.Entries.{entry_kind}
use Rattle.requests.proofs.Asked.{no_desk_asks}
use Rattle.requests.proofs.request.is_from_desk.Goals as goal

pub returns-in-Telegram : goal.returns-in-Telegram
unfolding entry_kind
returns-in-Telegram c = rw c.in-Telegram.is refl

pub returns-in_default : goal.returns-in_default
unfolding entry_kind
returns-in_default c = no_desk_asks _ c.in_default.not-Telegram c.in_default.not-Press c.in_default.not-Cut

pub returns-in-Press : goal.returns-in-Press
unfolding entry_kind
returns-in-Press c = rw c.in-Press.is refl

pub returns-in-Cut : goal.returns-in-Cut
unfolding entry_kind
returns-in-Cut c = rw c.in-Cut.is refl
