-- `changes::lookup::listeners` meets its contract: one share after another.
-- Assumes nothing.
use mathlib.Core.List.{List}
use mathlib.Core.Path.{◌≡◌, sym, ap, ◌∙◌}
use lib.ListN.{length, take, get_or}
use Rattle.set_state.specs.State.{running_from}
use Rattle.set_state.specs.declared.state.Desk.{Desk}
use Rattle.changes.proofs.Places.{shares, four}
use borrow.Author.Rules.{rules}
use Rattle.changes.proofs.lookup.listeners.Goals as goal

-- what the code has past the end of an array
abbrev none : Desk
none = record { code = 0; number = record { digits = 0 }; link = record { phase = 0 } }

pub returns : goal.returns
returns c =
    let st = c in
    let n : length st.args.desks ≡ 4 = search rules in
    let ds = st.args.desks in
    rw (c.place_if-a.ensures.value, c.place_if-b.ensures.value, c.place_if-c.ensures.value, c.place_if-d.ensures.value)
    (shares (get_or ds 0 none) (get_or ds 1 none) (get_or ds 2 none) (get_or ds 3 none) st.args.n st.args.entitled
    ∙ ap (λ (l : List Desk). running_from 0 st.args.entitled (take st.args.n l)) (sym (four ds none n)))
