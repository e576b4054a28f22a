-- `telegrams::run` meets its contract: what each turn writes, and what it leaves waiting, are the lines of what was given up to there.
-- Assumes nothing.
use Rattle.std.proofs.Common.{◌≡◌, ℕ, ◌<◌, ◌^◌, false, List, Some, length, is_some, sym, refl, ap, ◌∙◌, arith, rules}
use Rattle.std.proofs.lemmas.Result.{on_ok_weaker}
use Rattle.streams.specs.Places.{frame_at}
use Rattle.telegrams.specs.Lines.{whole}
use Rattle.telegrams.specs.Promises.{Bytes}
use Rattle.telegrams.proofs.RunLaws.{Ends, goes, ends, stops, spent, where_known}
use Rattle.telegrams.proofs.run.Goals as goal
use Rattle.telegrams.proofs.run.Goals.{else-loop-test, then-loop-test+in_ok-next+in-Some+in_default-show}

pub returns-in_default : goal.returns-in_default
returns-in_default g c =
    let e = c.in_ok-next.ensures in
    let none = c.in_default.is in
    where_known _ _ _ (λ given k h m. ends _ _ (c.loop.invariant.4 given k h m) (rw none at e.next) (rw none at e.reads) ((rw none at e.end) refl) (rw none at e.writes))

pub loop-preserved : goal.loop-preserved
loop-preserved g c =
    let i = c.loop.invariant in
    let e = c.in_ok-next.ensures in
    let some = c.in-Some.is in
    let n = rw some at e.next in
    let put = c.in-Some-show.ensures.some in (
      record { frame = n.came.within.frame; read = n.came.within.read; room = n.came.within.room },
      search rules,
      search rules,
      search rules,
      λ given k h m. goes _ _ (i.4 given k h m) n (rw some at e.reads) (rw some at e.end) (rw some at e.writes) _ (omega arith) put.1 (omega (arith, put.0)),
    )

pub returns : goal.returns
returns g c =
    let i = c.loop.invariant in
    let l = c.loop-test in
    let ended : (given : List ℕ) → g.R.Read.remaining c.args.reader.now ≡ Some given → Bytes given → length given < 2 ^ 64
    → Ends given (g.W.Write.contents c.args.writer.now) (g.W.Write.contents l.writer) l.at l.text =
    λ given k h m. elim l.branch [
      | else-loop-test w ↦ rw (w.writer-is, w.at-is, w.text-is) (spent (i.4 given k h m) (omega (arith, w.loop-test.false)))
      | then-loop-test+in_ok-next+in-Some+in_default-show w ↦
          let e = w.in_ok-next.ensures in
          let some = w.in-Some.is in
          let n = rw some at e.next in
          let none = w.in_default-show.is in
          let broken : whole (frame_at w.next.new.input w.in-Some.next) ≡ false = sym w.show.ensures.stops ∙ ap is_some none in
          rw (w.writer-is, w.at-is, w.text-is, rw none at w.show.ensures.none)
          (stops _ _ (i.4 given k h m) n (rw some at e.reads) (rw some at e.end) (rw some at e.writes) broken (omega (arith, n.spare)))
    ] in
    on_ok_weaker c.write_out.result (λ a. where_known _ _ _ (λ given k h m. ended given k h m _ a)) c.write_out.ensures
