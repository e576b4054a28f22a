-- `streams::reading::refill` meets its contract: the bytes that are left come first, and then what was read.
-- Assumes nothing.
use Rattle.std.proofs.Common.{ℕ, false, List, sym, ap, ◌∙◌, arith, subst, rules}
use Rattle.std.specs.Io.KnownBytes.{Consumes}
use Rattle.frames.specs.Frames.{frame_size}
use Rattle.streams.proofs.Nexts.{at_front, reads_it, reads_none, came_read, came_none, stays_there, gained_read}
use Rattle.streams.proofs.reading.refill.Goals as goal

pub fill-requires : goal.fill-requires
fill-requires g c =
    let a = c.args in
    let pre = c.requires in
    (search rules, search rules, ap (λ (l : List ℕ). frame_size a.most l false) (at_front a.input.now a.at pre.0 _ c.copy_within.ensures.after) ∙ pre.2)

pub returns-then-none-clause-none : goal.returns-then-none-clause-none
returns-then-none-clause-none g c =
    let a = c.args in
    let f = c.in-Ok.ensures in
    reads_none a.input.now a.at c.requires.0 a.most _ _ _ c.copy_within.ensures.after f.behind _ (sym c.frame_size-size.ensures ∙ c.if-none.true) f.whole

pub returns-then-none-clause-reads : goal.returns-then-none-clause-reads
returns-then-none-clause-reads g c =
    let a = c.args in
    let f = c.in-Ok.ensures in
    let e = came_none a.input.now a.at c.requires.0 a.most _ _ _ c.copy_within.ensures.after f.behind _ (sym c.frame_size-size.ensures ∙ c.if-none.true) f.whole in
    subst (Consumes (g.R.Read.remaining a.reader.now) (g.R.Read.remaining c.fill.new.reader)) (sym e) f.bytes

pub returns-clause-some : goal.returns-clause-some
returns-clause-some g c =
    let a = c.args in
    let f = c.in-Ok.ensures in
    reads_it a.input.now a.at c.requires.0 a.most _ _ _ c.copy_within.ensures.after f.behind _ _ _ c.frame_size-size.ensures (omega arith) f.whole c.at_frame.ensures

pub returns-clause-reads : goal.returns-clause-reads
returns-clause-reads g c =
    let a = c.args in
    let f = c.in-Ok.ensures in
    let e = came_read a.input.now a.at c.requires.0 a.most _ _ _ c.copy_within.ensures.after f.behind _ _ _ c.at_frame.ensures in
    subst (Consumes (g.R.Read.remaining a.reader.now) (g.R.Read.remaining c.fill.new.reader)) (sym e) f.bytes

pub returns-in-Err-clause-stays : goal.returns-in-Err-clause-stays
returns-in-Err-clause-stays g c =
    let a = c.args in
    stays_there a.input.now a.at c.requires.0 a.most _ _ _ c.copy_within.ensures.after c.in-Err.ensures.partly.0 _ c.unreadable.ensures

pub returns-in-Err-clause-gains : goal.returns-in-Err-clause-gains
returns-in-Err-clause-gains g c =
    let a = c.args in
    let partly = c.in-Err.ensures.partly in
    let e = gained_read a.input.now a.at c.requires.0 a.most _ _ _ c.copy_within.ensures.after partly.0 _ c.unreadable.ensures in
    subst (Consumes (g.R.Read.remaining a.reader.now) (g.R.Read.remaining c.fill.new.reader)) (sym e) partly.1
