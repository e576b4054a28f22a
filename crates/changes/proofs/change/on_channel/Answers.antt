-- `changes::change::on_channel` meets its contract: the space is counted, then the records are written.
-- Assumes nothing.
use Prim.Native.Nat.{ℕ}
use mathlib.Core.List.{List}
use mathlib.Core.Path.{◌≡◌, ap, ap₂, ◌∙◌}
use native.Mathlib.Omega.{arith}
use lib.ListN.{length, set}
use Rattle.channel.specs.declared.state.Channel.{Channel}
use Rattle.records.specs.Emitting.{written}
use Rattle.set_state.specs.State.{with_channels}
use Rattle.set_rules.specs.Records.{delivered, space_of}
use Rattle.set_rules.specs.SetRules.{Effect}
use Rattle.set_rules.specs.Feeds.{emit}
use Rattle.set_state.specs.declared.state.Refusal.TheVariants.{NoRoom}
use Rattle.set_rules.proofs.Kept.{even_sends, space-length}
use Rattle.changes.specs.Changes.{set_with}
use Rattle.changes.proofs.Heard.{same-space, same-records}
use Rattle.set_rules.specs.RecordLaws.{accepted_with}
use Rattle.set_rules.proofs.Kept.{gives_as, left_as_was, no_room}
use Rattle.changes.proofs.Changing.{moved_at, moved_at_lem}
use Rattle.records.proofs.Kept.{emitted}
use Rattle.changes.proofs.change.on_channel.Goals as goal

pub returns-then-buffer-need : goal.returns-then-buffer-need
returns-then-buffer-need c = λ ch planned cs k place w.
    let a = c.args in
    let b = a.buffer.now in
    let s = set_with planned a.desks a.n cs k in
    let f = moved_at s place a.event a.c in
    let total : c.space-need.result ≡ space_of f.sent = c.space-need.ensures.0 a.desks a.c.code ∙ same-space a.desks a.c.code _ _ c.moved-m.ensures.1 in
    gives_as (ap (λ (g : Effect). emit s g (length b)) (moved_at_lem s ch place a.event a.c w))
    (no_room s b f (omega (arith, total, c.if-buffer-need.true)) (left_as_was s NoRoom b))

pub put-requires : goal.put-requires
put-requires c =
    let a = c.args in
    let ch = a.c.code in
    let sends = c.moved-m.result.sends in
    omega (arith, c.space-need.ensures.0 a.desks ch, space-length a.desks (delivered a.desks ch sends) (even_sends a.desks ch sends), c.if-buffer-need.false)

pub returns : goal.returns
returns c = λ ch planned cs k place w.
    let a = c.args in
    let b = a.buffer.now in
    let s = set_with planned a.desks a.n cs k in
    let f = moved_at s place a.event a.c in
    let m = c.moved-m.ensures in
    let total : c.space-need.result ≡ space_of f.sent = c.space-need.ensures.0 a.desks a.c.code ∙ same-space a.desks a.c.code _ _ m.1 in
    gives_as (ap (λ (g : Effect). emit s g (length b)) (moved_at_lem s ch place a.event a.c w))
    (emitted s f b (omega (arith, total, c.if-buffer-need.false)) (even_sends _ _ _)
    (c.put.ensures.1 ∙ ap (λ (l : List ℕ). written b 0 l) (same-records a.desks a.c.code _ _ m.1))
    (ap₂ (λ (x : Channel) (n : ℕ). accepted_with (with_channels (set cs place x) s) n) m.0 total))
