-- `telegrams::line::put_line` meets its contract: what reads as a message can be sent, and a refusal has two digits at most.
-- Assumes nothing.
use mathlib.Core.Path.{sym}
use native.Mathlib.Omega.{arith}
use Rattle.telegram.proofs.Kept.{written_form}
use Rattle.telegrams.proofs.LineLaws.{line_of, few-digits}
use borrow.Author.Rules.{rules}
use Rattle.telegrams.proofs.line.put_line.Goals as goal

pub put_telegram-requires : goal.put_telegram-requires
put_telegram-requires c = ((written_form c.args.telegram.now c.in-Ok.read.code c.in-Ok.read.message (sym c.in-Ok.ensures)).0, search rules)

pub put_item-requires : goal.put_item-requires
put_item-requires c = rw c.refusal.ensures (omega (arith, few-digits c.args.telegram.now (sym c.in-Err.ensures)))

pub returns-in-Ok : goal.returns-in-Ok
returns-in-Ok c = rw (line_of c.args.telegram.now (sym c.in-Ok.ensures)) c.put_telegram.ensures

pub returns-in-Err : goal.returns-in-Err
returns-in-Err c = rw (line_of c.args.telegram.now (sym c.in-Err.ensures), ← c.refusal.ensures) c.put_item.ensures
