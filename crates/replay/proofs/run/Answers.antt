-- `replay::run` meets its contract: what each turn writes, and what it leaves waiting, are the lines of the entries up to there.
-- Assumes nothing.
use Rattle.std.proofs.Common.{◌≡◌, ℕ, ◌<◌, ◌^◌, List, Some, length, refl, sym, ◌∙◌, arith, rules}
use Rattle.std.proofs.lemmas.Result.{on_ok_weaker}
use borrow.Author.Tests.{eqb-true, eqb-false}
use Rattle.replay.proofs.RunLaws.{Ends, first, goes, ends, stops, spent, where_known}
use Rattle.replay.proofs.run.Goals as goal
use Rattle.replay.proofs.run.Goals.{else-loop-test, then-loop-test+in_ok-next+in-Some+then-last}

pub loop-init : goal.loop-init
loop-init g c = (
  search rules,
  search rules,
  refl,
  refl,
  refl,
  λ feed k h. first feed _ _ _ _ _ _ _ c.new-set.ensures c.new-at.ensures k h (omega (arith, h)),
)

pub returns-in_default : goal.returns-in_default
returns-in_default g c =
    let e = c.in_ok-next.ensures in
    let none = c.in_default.is in
    where_known _ _ _ (λ feed k h. ends _ _ (c.loop.invariant.5 feed k h) (rw none at e.next) (rw none at e.reads) ((rw none at e.end) refl) (rw none at e.writes))

pub loop-preserved : goal.loop-preserved
loop-preserved g c =
    let i = c.loop.invariant in
    let e = c.in_ok-next.ensures in
    let some = c.in-Some.is in
    let n = rw some at e.next in
    let s = c.show.ensures in (
      record { frame = n.came.within.frame; read = n.came.within.read; room = n.came.within.room },
      search rules,
      search rules,
      search rules,
      search rules,
      λ feed k h. goes _ _ (i.5 feed k h) n (rw some at e.reads) (rw some at e.end) (rw some at e.writes) c.loop.records c.step_in-reply.ensures (i.4 ∙ c.requires.1) s.1 (omega (arith, s.0)) _ (omega arith) (eqb-false _ 1 (sym c.is_last-last.ensures ∙ c.if-last.false)),
    )

pub returns : goal.returns
returns g c =
    let i = c.loop.invariant in
    let l = c.loop-test in
    let ended : (feed : List ℕ) → g.R.Read.remaining c.args.reader.now ≡ Some feed → length feed < 2 ^ 64
    → Ends feed (g.W.Write.contents c.args.writer.now) (g.W.Write.contents l.writer) l.at l.text =
    λ feed k h. elim l.branch [
      | else-loop-test w ↦ rw (w.writer-is, w.at-is, w.text-is) (spent (i.5 feed k h) (omega (arith, w.loop-test.false)))
      | then-loop-test+in_ok-next+in-Some+then-last w ↦
          let e = w.in_ok-next.ensures in
          let some = w.in-Some.is in
          let s = w.show.ensures in
          rw (w.writer-is, w.at-is, w.text-is)
          (stops _ _ (i.5 feed k h) (rw some at e.next) (rw some at e.reads) (rw some at e.end) (rw some at e.writes) c.loop.records w.step_in-reply.ensures (i.4 ∙ c.requires.1) s.1 (omega (arith, s.0)) (eqb-true _ 1 (sym w.is_last-last.ensures ∙ w.if-last.true)))
    ] in
    on_ok_weaker c.write_out.result (λ a. where_known _ _ _ (λ feed k h. ended feed k h _ a)) c.write_out.ensures
