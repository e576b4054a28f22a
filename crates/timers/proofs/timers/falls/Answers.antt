-- `timers::timers::falls` meets its contract: its tests are the rule's, in the rule's order.
-- Assumes nothing.
use mathlib.Core.Path.{◌≡◌, sym}
use mathlib.Core.Bool.{false, ◌||◌}
use Rattle.channel.specs.State.{is_present}
use Rattle.line_rules.specs.Rules.{is_pressed}
use Rattle.timers.proofs.Ticks.{ring_falls, ring-due, talked, quiet_falls, quiet_due, free, release_falls, release-due}
use Rattle.timers.proofs.timers.falls.Goals as goal
use Rattle.timers.proofs.timers.falls.Goals.{Else-talks}

pub returns-then-channel-gt1 : goal.returns-then-channel-gt1
returns-then-channel-gt1 c = sym (ring_falls _ c.if-channel-gt1.true)

pub returns-then-channel-gt0 : goal.returns-then-channel-gt0
returns-then-channel-gt0 c = sym (ring-due _ c.if-channel-gt0.true c.if-channel-gt1.false)

pub returns-then-talks : goal.returns-then-talks
returns-then-talks c = sym (talked _ c.if-channel-gt0.false (rw (c.is_held.ensures, c.is_present.ensures) at c.if-talks.true))

-- nobody talks
no_talk : (c : Else-talks) → (is_pressed c.args.channel || is_present c.args.channel.arrival) ≡ false
no_talk c = rw (c.is_held.ensures, c.is_present.ensures) at c.if-talks.false

pub returns-then-channel-gt1-2 : goal.returns-then-channel-gt1-2
returns-then-channel-gt1-2 c =
    let t = c in
    sym (quiet_falls _ t.if-channel-gt0.false (no_talk (goal.at.returns-then-channel-gt1-2 c).Else-talks) c.if-channel-gt1-2.true)

pub returns-then-channel-gt0-2 : goal.returns-then-channel-gt0-2
returns-then-channel-gt0-2 c =
    let t = c in
    sym (quiet_due _ t.if-channel-gt0.false (no_talk (goal.at.returns-then-channel-gt0-2 c).Else-talks) c.if-channel-gt0-2.true c.if-channel-gt1-2.false)

pub returns-then-not-is_held : goal.returns-then-not-is_held
returns-then-not-is_held c =
    let t = c in
    sym (free _ t.if-channel-gt0.false (no_talk (goal.at.returns-then-not-is_held c).Else-talks) c.if-channel-gt0-2.false (rw c.is_held-2.ensures at c.if-not-is_held.true))

pub returns-then-channel-gt1-3 : goal.returns-then-channel-gt1-3
returns-then-channel-gt1-3 c =
    let h = c in
    let t = c in
    sym (release_falls _ t.if-channel-gt0.false (no_talk (goal.at.returns-then-channel-gt1-3 c).Else-talks) h.if-channel-gt0-2.false (rw h.is_held-2.ensures at h.if-not-is_held.false) c.if-channel-gt1-3.true)

pub returns : goal.returns
returns c =
    let h = c in
    let t = c in
    sym (release-due _ t.if-channel-gt0.false (no_talk (goal.at.returns c).Else-talks) h.if-channel-gt0-2.false (rw h.is_held-2.ensures at h.if-not-is_held.false) c.if-channel-gt1-3.false)
