-- `streams::reading::next` meets its contract: a frame that is there, or one that comes after the text was written.
-- Assumes nothing.
use Rattle.std.proofs.Common.{arith, length}
use Rattle.std.proofs.lemmas.Result.{IfErr-weaker}
use Rattle.streams.proofs.Nexts.{fits, no_room, no_frame, hands_it, hands_then, fails, stops_on}
use Rattle.streams.proofs.reading.next.Goals as goal
use Rattle.streams.proofs.reading.next.Goals.{then-size-gt0+else-fits, else-size-gt0}

pub overflow_add-from : goal.overflow_add-from
overflow_add-from g c =
    let a = c.args in
    omega (arith, c.requires.0.room, fits a.most a.input.now a.at c.requires.0 _ c.frame_size-size.ensures)

pub returns-then-fits-clause-next : goal.returns-then-fits-clause-next
returns-then-fits-clause-next g c =
    let a = c.args in
    hands_it a.most a.input.now a.at c.requires.0 _ c.frame_size-size.ensures a.room _ _ c.if-size-gt0.true (omega arith) (omega arith) c.at_frame.ensures

pub overflow_add-from-then-whole : goal.overflow_add-from-then-whole
overflow_add-from-then-whole g c =
    let a = c.args in
    omega (arith, c.requires.0.room, fits a.most a.input.now a.at c.requires.0 _ c.frame_size-size.ensures)

pub returns-then-whole-clause-next : goal.returns-then-whole-clause-next
returns-then-whole-clause-next g c =
    let a = c.args in
    let pre = c.requires in
    elim c.if-size-gt0.branch [
      | then-size-gt0+else-fits h ↦ hands_then a.most a.input.now a.at pre.0 _ c.frame_size-size.ensures a.room _ _ c.if-whole.true (λ f. omega (arith, f, h.if-fits.false)) pre.2 pre.3 c.at_frame-then-whole.ensures
      | else-size-gt0 h ↦ absurd (omega (arith, h.if-size-gt0.false, c.if-whole.true))
    ]

pub returns-in-Err-clause-stops : goal.returns-in-Err-clause-stops
returns-in-Err-clause-stops g c =
    let a = c.args in
    let pre = c.requires in
    let e = c.frame_size-size.ensures in
    elim c.if-size-gt0.branch [
      | then-size-gt0+else-fits h ↦ fails a.most a.input.now a.at pre.0 _ e a.room _ (no_room a.most a.input.now a.at pre.0 _ e (λ f. omega (arith, f, h.if-fits.false)) pre.2) pre.3
      | else-size-gt0 h ↦ fails a.most a.input.now a.at pre.0 _ e a.room _ (no_frame a.most a.input.now a.at pre.0 _ e a.room (length a.text.now) h.if-size-gt0.false) pre.3
    ]

pub returns-clause-stops : goal.returns-clause-stops
returns-clause-stops g c =
    let a = c.args in
    IfErr-weaker c.refill.result _ _ (λ s q. stops_on a.most a.input.now a.at c.requires.0 _ c.frame_size-size.ensures a.room _ s.at c.if-whole.false c.requires.3 q.0 q.1) c.refill.ensures.stays
