-- `streams::reading::fill` meets its contract: each turn adds a byte at least behind those that are there. No turn begins with a whole
-- frame, so a full input is none that is waited for.
-- Assumes nothing.
use Rattle.std.proofs.Common.{◌≡◌, ℕ, ◌+◌, false, List, take, subst, sym, ap, ◌∙◌, arith, take_all}
use Rattle.std.specs.Io.KnownBytes.{Consumes}
use Rattle.frames.specs.Frames.{frame_size}
use Rattle.frames.proofs.Kept.{size-full}
use Rattle.streams.specs.Places.{FilledBehind, between}
use Rattle.streams.proofs.Moving.{filled_on, consumes_on, consumes_not}
use Rattle.streams.proofs.reading.fill.Goals as goal

pub loop-filled-preserved : goal.loop-filled-preserved
loop-filled-preserved g c =
    let l = c.loop-filled in
    let r = c.in-Ok.ensures in
    (filled_on l.invariant.0 r.behind, sym c.frame_size.ensures ∙ omega arith, consumes_on _ _ _ _ l.invariant.0.least r.behind l.invariant.2 r.bytes.0)

pub returns-after-loop-filled-clause-whole : goal.returns-after-loop-filled-clause-whole
returns-after-loop-filled-clause-whole g c =
    let l = c.loop-filled in
    let a = c.args in
    let all : take l.filled l.input ≡ l.input = take_all l.filled l.input (omega arith) in
    λ e z. size-full a.most l.input (omega (arith, l.invariant.0.long)) (ap (λ (w : List ℕ). frame_size a.most w false) (sym all) ∙ z)

pub returns-then-frame_size-gt0-clause-behind : goal.returns-then-frame_size-gt0-clause-behind
returns-then-frame_size-gt0-clause-behind g c = filled_on c.loop-filled.invariant.0 c.in-Ok.ensures.behind

pub returns-then-frame_size-gt0-clause-bytes : goal.returns-then-frame_size-gt0-clause-bytes
returns-then-frame_size-gt0-clause-bytes g c =
    let l = c.loop-filled in
    let r = c.in-Ok.ensures in
    consumes_on _ _ _ _ l.invariant.0.least r.behind l.invariant.2 r.bytes.0

pub returns-in-Err-clause-partly : goal.returns-in-Err-clause-partly
returns-in-Err-clause-partly g c =
    let i = c.loop-filled.invariant in
    let r = c.in-Err.ensures in
    (filled_on i.0 r.behind, consumes_not _ _ _ _ r.behind i.2 r.bytes)

pub returns-then-count-eq0-clause-behind : goal.returns-then-count-eq0-clause-behind
returns-then-count-eq0-clause-behind g c =
    let l = c.loop-filled in
    let none : l.filled + c.in-Ok.count ≡ l.filled = omega arith in
    subst (FilledBehind c.args.input.now c.args.have c.read_more.new.input) none (filled_on l.invariant.0 c.in-Ok.ensures.behind)

pub returns-then-count-eq0-clause-bytes : goal.returns-then-count-eq0-clause-bytes
returns-then-count-eq0-clause-bytes g c =
    let l = c.loop-filled in
    let r = c.in-Ok.ensures in
    let none : l.filled + c.in-Ok.count ≡ l.filled = omega arith in
    subst (λ (k : ℕ). Consumes (g.R.Read.remaining c.args.reader.now) (g.R.Read.remaining c.read_more.new.reader) (between c.args.have k c.read_more.new.input)) none
    (consumes_on _ _ _ _ l.invariant.0.least r.behind l.invariant.2 r.bytes.0)
