-- `telegrams::line::put_telegram` meets its contract: 0, a space, the telegram of 46 bytes at most, and the line's end.
-- Assumes nothing.
use native.Mathlib.Omega.{arith}
use Rattle.text.specs.Ascii.{ascii}
use Rattle.text.proofs.Kept.{also}
use Rattle.telegram.proofs.Kept.{length-telegram, size-most}
use Rattle.telegrams.specs.Lines.{message_line}
use Rattle.telegrams.proofs.line.put_telegram.Goals as goal

pub put_byte-requires : goal.put_byte-requires
put_byte-requires c =
    let a = c.args in
    let second = c.put_byte-second.ensures.place in
    let third = c.put_message-third.ensures.place in
    omega (arith, c.put_byte-first.ensures.place, second, third, length-telegram a.code a.message, size-most a.message)

pub returns : goal.returns
unfolding message_line ascii
returns c =
    let second = c.put_byte-second.ensures in
    let third = c.put_message-third.ensures in
    also (also (also c.put_byte-first.ensures second) third) c.put_byte.ensures
