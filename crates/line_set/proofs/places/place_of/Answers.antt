-- `line_set::places::place_of` meets its contract: the channels passed have another code.
-- Assumes nothing.
use mathlib.Core.Path.{◌≡◌, ◌∙◌}
use native.Mathlib.Omega.{arith}
use lib.ListN.{length}
use borrow.Author.Tests.{eq-eqb, ne_eqb}
use Rattle.laws.proofs.Seeking.{sought-first, sought-next, sought-found, sought-last}
use Rattle.line_set.proofs.Seeking.{by_code}
use Rattle.line_set.proofs.places.place_of.Goals as goal

pub returns-then-c-code : goal.returns-then-c-code
returns-then-c-code c =
    let l = c.loop-i in
    sought-found (by_code c.args.code) c.args.channels.now l.i _ (omega arith) (eq-eqb _ _ c.if-c-code.true) l.invariant

pub loop-i-init : goal.loop-i-init
loop-i-init c = sought-first _ _

pub loop-i-preserved : goal.loop-i-preserved
loop-i-preserved c =
    let l = c.loop-i in
    sought-next (by_code c.args.code) c.args.channels.now l.i _ (omega arith) (ne_eqb _ _ c.if-c-code.false) l.invariant

pub returns : goal.returns
returns c =
    let l = c.loop-i in
    let all : length c.args.channels.now ≡ l.i = omega arith in
    all ∙ sought-last (by_code c.args.code) c.args.channels.now l.i (omega arith) l.invariant
