-- `telegrams::show` meets its contract: a frame that is whole has the line of what stands behind its length.
-- Assumes nothing.
use Rattle.std.proofs.Common.{◌≡◌, ℕ, true, List, drop, sym, ◌∙◌, arith}
use Rattle.laws.proofs.Lists.{part_to_end}
use Rattle.text.specs.Written.{Puts}
use Rattle.telegrams.specs.Lines.{whole, answer_line, frame_line}
use Rattle.telegrams.proofs.LineLaws.{line-short}
use Rattle.telegrams.proofs.show.Goals as goal

pub returns-clause-some : goal.returns-clause-some
unfolding frame_line
returns-clause-some c =
    let frame : List ℕ = c.args.frame.now in
    let is : whole frame ≡ true = sym c.is_whole-whole.ensures ∙ c.if-not-whole.false in
    let put : Puts c.args.text.now c.args.waits (answer_line (drop 2 frame)) c.put_line.new.text c.put_line.result = rw (part_to_end frame 2) at c.put_line.ensures in
    (omega (arith, put.place, line-short (drop 2 frame), c.put_line.auto.text), rw is put)
