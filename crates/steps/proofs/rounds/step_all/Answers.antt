-- `steps::rounds::step_all` meets its contract: the counts so far, with what is left of the feed, stay the round. Each turn reads at
-- least a byte, so there are no more entries than bytes.
-- Assumes nothing.
use Rattle.std.proofs.Common.{ℕ, ◌+◌, ◌%◌, ◌^◌, length, refl, sym, ap, ◌∙◌, arith}
use borrow.Author.Tests.{eqb-true, eqb-false}
use Rattle.set_rules.specs.Feeds.{numbers_in}
use Rattle.steps.proofs.Counting.{so_far_none, so_far_all, so_far_next, stopped, Size, size_of, one-accepted, none-accepted}
use Rattle.steps.proofs.rounds.step_all.Goals as goal
use Rattle.steps.proofs.rounds.step_all.Goals.{After-frame_size-size, then-refusal-eq0, else-refusal-eq0}

-- how many bytes this turn steps
size : (c : After-frame_size-size) → Size c.loop-rest.rest.now c.frame_size-size.result
size c = size_of _ _ (eqb-false _ 0 (sym c.loop-rest-test.ensures)) c.frame_size-size.ensures

pub loop-rest-init : goal.loop-rest-init
loop-rest-init c = record { entries = omega arith; accepted = omega arith; lent = refl; so_far = rw c.new-set.ensures (so_far_none _ _) }

pub split_at-requires : goal.split_at-requires
split_at-requires c = (size (goal.at.split_at-requires c).After-frame_size-size).within

pub loop-rest-smaller : goal.loop-rest-smaller
loop-rest-smaller c =
    let z = size (goal.at.loop-rest-smaller c).After-frame_size-size in
    omega (arith, z.some, z.within, c.split_at.ensures.back_len)

pub loop-rest-preserved : goal.loop-rest-preserved
loop-rest-preserved c =
    let l = c.loop-rest in
    let z = size (goal.at.loop-rest-preserved c).After-frame_size-size in
    record {
      entries = omega (arith, z.some, c.split_at.ensures.back_len, l.invariant.entries);
      accepted = elim c.if-refusal-eq0.branch [ then-refusal-eq0 w ↦ omega arith | else-refusal-eq0 w ↦ omega arith ];
      lent = c.step_in-reply.auto.buffer ∙ l.invariant.lent;
      so_far = rw c.split_at.ensures.back (so_far_next (length c.args.buffer.now) c.args.feed.now l.set (record { entries = l.entries; accepted = l.accepted; bytes = l.bytes }) l.rest.now c.frame_size-size.result z l.invariant.so_far
          (length l.buffer) l.invariant.lent (numbers_in (record { set = c.step_in-reply.new.set; reply = c.step_in-reply.result })) (rw c.split_at.ensures.front at c.step_in-reply.ensures.answer)
          c.if-refusal-eq0.accepted (elim c.if-refusal-eq0.branch [ then-refusal-eq0 w ↦ one-accepted l.accepted (sym c.refusal_number-refusal.ensures ∙ w.if-refusal-eq0.true) w.accepted-is | else-refusal-eq0 w ↦ none-accepted l.accepted (λ z. w.if-refusal-eq0.false (c.refusal_number-refusal.ensures ∙ z)) w.accepted-is ])
          c.wrapping_add_u64-bytes.result (c.wrapping_add_u64-bytes.ensures.value ∙ ap (λ (n : ℕ). (l.bytes + n) % 2 ^ 64) c.bytes_written.ensures)
          (λ z. c.if-last.false (c.refusal_number-refusal.ensures ∙ z)));
    }

pub returns-after-loop-rest : goal.returns-after-loop-rest
returns-after-loop-rest c = so_far_all _ _ _ _ _ (eqb-true _ 0 (sym c.loop-rest-test.ensures)) c.loop-rest.invariant.so_far

pub returns-then-last : goal.returns-then-last
returns-then-last c =
    let l = c.loop-rest in
    let z = size (goal.at.returns-then-last c).After-frame_size-size in
    stopped (length c.args.buffer.now) c.args.feed.now l.set (record { entries = l.entries; accepted = l.accepted; bytes = l.bytes }) l.rest.now c.frame_size-size.result z l.invariant.so_far
    (length l.buffer) l.invariant.lent (numbers_in (record { set = c.step_in-reply.new.set; reply = c.step_in-reply.result })) (rw c.split_at.ensures.front at c.step_in-reply.ensures.answer)
    c.if-refusal-eq0.accepted (elim c.if-refusal-eq0.branch [ then-refusal-eq0 w ↦ one-accepted l.accepted (sym c.refusal_number-refusal.ensures ∙ w.if-refusal-eq0.true) w.accepted-is | else-refusal-eq0 w ↦ none-accepted l.accepted (λ z. w.if-refusal-eq0.false (c.refusal_number-refusal.ensures ∙ z)) w.accepted-is ])
    c.wrapping_add_u64-bytes.result (c.wrapping_add_u64-bytes.ensures.value ∙ ap (λ (n : ℕ). (l.bytes + n) % 2 ^ 64) c.bytes_written.ensures)
    (sym c.refusal_number-refusal.ensures ∙ c.if-last.true)
