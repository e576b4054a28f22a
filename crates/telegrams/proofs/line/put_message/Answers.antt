-- `telegrams::line::put_message` meets its contract: the writer refuses no message that can be sent and has room.
-- Assumes nothing.
use mathlib.Core.Path.{◌≡◌}
use native.Mathlib.Omega.{arith}
use lib.ListN.{length}
use Rattle.std.specs.Prelude.{Err}
use Rattle.telegram.specs.Telegram.{telegram_of, write_refusal}
use Rattle.telegram.specs.declared.message.WriteError.{WriteError}
use Rattle.telegram.specs.declared.message.WriteError.TheVariants.{OutOfRange, NoRoom}
use Rattle.telegrams.proofs.LineLaws.{not-refused, counted, message_put}
use Rattle.telegram.proofs.Kept.{length-telegram, size-most}
use Rattle.telegrams.proofs.line.put_message.Goals as goal
use Rattle.telegrams.proofs.line.put_message.Goals.{In-Ok}

-- the count is the telegram's length
count : (c : In-Ok) → c.in-Ok.n ≡ length (telegram_of c.args.code c.args.message)
count c =
    let a = c.args in
    counted a.code a.message c.requires.0 a.text.now a.at c.requires.1 c.in-Ok.ensures.value

pub overflow_add-result : goal.overflow_add-result
overflow_add-result c =
    let a = c.args in
    omega (arith, count (goal.at.overflow_add-result c).In-Ok, length-telegram a.code a.message, size-most a.message)

pub returns-in-Ok : goal.returns-in-Ok
returns-in-Ok c =
    let a = c.args in
    message_put a.code a.message c.requires.0 a.text.now a.at c.requires.1 c.in-Ok.ensures.buffer_after (count (goal.at.returns-in-Ok c).In-Ok)

-- 10 or 16
some-refusal : (e : WriteError) → write_refusal (Err e) ≡ 0 → ⊥
some-refusal OutOfRange h = omega arith
some-refusal NoRoom h = omega arith

pub returns-in-Err : goal.returns-in-Err
returns-in-Err c =
    let a = c.args in
    absurd (some-refusal c.in-Err.error (not-refused a.code a.message c.requires.0 a.text.now a.at c.requires.1 c.in-Err.ensures.value))
