-- `changes::lookup::linked` meets its contract: past the last place nothing changes.
-- Assumes nothing.
use mathlib.Core.Path.{◌≡◌, sym, ap}
use native.Mathlib.Omega.{arith}
use lib.ListN.{length, set}
use lib.Seq.{set_out}
use Rattle.laws.proofs.Lists.{any_default}
use Rattle.set_state.specs.State.{no_desk, linked}
use Rattle.set_state.specs.declared.state.Desk.{Desk}
use Rattle.set_state.specs.declared.state.Link.{Link}
use borrow.Author.Rules.{rules}
use Rattle.changes.proofs.lookup.linked.Goals as goal

pub returns-then-i-lt4 : goal.returns-then-i-lt4
returns-then-i-lt4 c =
    let st = c in
    let n : length st.args.desks ≡ 4 = search rules in
    ap (λ (k : Desk). set st.args.desks st.args.d (linked (λ (l : Link). st.args.link) k)) (any_default st.args.desks st.args.d _ no_desk (omega (arith, n, c.if-i-lt4.true)))

pub returns : goal.returns
returns c =
    let st = c in
    let n : length st.args.desks ≡ 4 = search rules in
    sym (set_out st.args.desks st.args.d _ (omega (arith, n)))
