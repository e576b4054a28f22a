-- `requests::request::asked_of_entry` meets its contract: the refusals known by now come first, and a telegram is read last.
-- Assumes nothing.
use Prim.Native.Nat.{ℕ}
use mathlib.Core.Bool.{true, false}
use mathlib.Core.Path.{◌≡◌, refl, sym, ap, ap₂, ◌∙◌}
use lib.ListN.{get_or, drop}
use borrow.Author.Tests.{eqb-true, ne_eqb, le-ltb, leb-true}
use Rattle.std.specs.Prelude.{Result, Ok}
use Rattle.std.proofs.lemmas.Result.{err_from_is_err_and}
use Rattle.laws.proofs.Tests.{both}
use Rattle.laws.proofs.Lists.{part_to_end}
use Rattle.telegram.specs.Telegram.{num, read_telegram}
use Rattle.channel.specs.declared.state.Event.{Event}
use Rattle.set_state.specs.State.{no_desk}
use Rattle.set_state.specs.Entry.{numbered, desk_from}
use Rattle.set_rules.specs.Entries.{entry_kind, entry_desk, entry_channel}
use Rattle.set_rules.specs.Refusals.{is_kind, from_desk, first_of}
use Rattle.set_state.specs.declared.state.Desk.{Desk}
use Rattle.telegram_requests.specs.Asking.{telegram_asked}
use Rattle.telegram_requests.specs.declared.request.Asked.{Asked}
use Rattle.telegram_requests.specs.declared.request.Asked.TheVariants.{OfLine}
use Rattle.telegram_requests.specs.declared.request.LineRequest.TheVariants.{OnChannel}
use Rattle.requests.specs.Asking.{in_phase, asked_of}
use Rattle.requests.proofs.Asked.{desk_there, past_five, telegram_form}
use Rattle.requests.proofs.request.asked_of_entry.Goals as goal

pub returns-then-not-planned : goal.returns-then-not-planned
unfolding asked_of first_of
returns-then-not-planned c = λ found d k. rw (c.if-not-planned.true, ne_eqb _ _ k) refl

-- a desk that is asked for is not there
pub returns-then-from_desk-n : goal.returns-then-from_desk-n
unfolding asked_of first_of entry_desk
returns-then-from_desk-n c = λ found d k.
    let a = c.args in
    let t = both _ _ c.if-from_desk-n.true in
    rw (c.if-not-planned.false, ne_eqb _ _ k, sym c.is_from_desk-from_desk.ensures ∙ t.0, le-ltb (desk_from a.x) a.n (leb-true _ _ (rw c.desk-d.ensures at t.1))) refl

pub slice_bounds-read_request-count : goal.slice_bounds-read_request-count
slice_bounds-read_request-count c = c.telegram_start-start.ensures.1

pub slice_bounds-read_request-start : goal.slice_bounds-read_request-start
slice_bounds-read_request-start c = c.telegram_start-start.ensures.1

-- a telegram that asks nothing
pub returns-in_err-asked : goal.returns-in_err-asked
unfolding asked_of first_of entry_desk
returns-in_err-asked c = λ found d k.
    let a = c.args in
    let e = a.entry.now in
    let h = get_or a.desks (desk_from a.x) no_desk in
    let whole = part_to_end e c.telegram_start-start.result ∙ (ap (λ (i : ℕ). drop i e) c.telegram_start-start.ensures.0 ∙ past_five e) in
    let desk : c.desk_at-desk.result ≡ h = c.desk_at-desk.ensures ∙ ap (λ (i : ℕ). get_or a.desks i no_desk) c.desk-d.ensures in
    let asked : numbered c.read_request.result ≡ telegram_asked (desk_from a.x) h.code (read_telegram (drop 5 e)) =
    c.read_request.ensures ∙ (λ i. telegram_asked (c.desk-d.ensures i) (desk i).code (read_telegram (whole i))) in
    let one : entry_kind (Ok a.x) ≡ 1 = eqb-true _ 1 (sym c.is_telegram.ensures ∙ c.if-is_telegram.true) in
    let there = desk_there true a.n (desk_from a.x) (rw one at (rw (c.is_from_desk-from_desk.ensures, c.desk-d.ensures) at c.if-from_desk-n.false)) in
    let p = err_from_is_err_and c.from_residual.result c.from_residual.ensures.1 in
    rw (c.if-not-planned.false, one, there, p.1, p.2)
    (ap (in_phase h.link.phase) (sym (ap numbered c.in_err-asked.was) ∙ asked) ∙ telegram_form (desk_from a.x) h.code h.link.phase (read_telegram (drop 5 e)))

-- one that asks something
pub returns-then-is_telegram : goal.returns-then-is_telegram
unfolding asked_of first_of entry_desk
returns-then-is_telegram c = λ found d k.
    let a = c.args in
    let e = a.entry.now in
    let h = get_or a.desks (desk_from a.x) no_desk in
    let whole = part_to_end e c.telegram_start-start.result ∙ (ap (λ (i : ℕ). drop i e) c.telegram_start-start.ensures.0 ∙ past_five e) in
    let desk : c.desk_at-desk.result ≡ h = c.desk_at-desk.ensures ∙ ap (λ (i : ℕ). get_or a.desks i no_desk) c.desk-d.ensures in
    let asked : numbered c.read_request.result ≡ telegram_asked (desk_from a.x) h.code (read_telegram (drop 5 e)) =
    c.read_request.ensures ∙ (λ i. telegram_asked (c.desk-d.ensures i) (desk i).code (read_telegram (whole i))) in
    let one : entry_kind (Ok a.x) ≡ 1 = eqb-true _ 1 (sym c.is_telegram.ensures ∙ c.if-is_telegram.true) in
    let there = desk_there true a.n (desk_from a.x) (rw one at (rw (c.is_from_desk-from_desk.ensures, c.desk-d.ensures) at c.if-from_desk-n.false)) in
    rw (c.if-not-planned.false, one, there)
    (c.in_phase.ensures
    ∙ ap₂ (λ (j : Desk) (q : Result Asked ℕ). in_phase j.link.phase q) desk (sym (ap numbered c.in_ok-asked.was) ∙ asked)
    ∙ telegram_form (desk_from a.x) h.code h.link.phase (read_telegram (drop 5 e)))

-- a press or a cut of a desk that is not running
pub returns-then-from_desk-desk : goal.returns-then-from_desk-desk
unfolding asked_of first_of entry_desk
returns-then-from_desk-desk c = λ found d k.
    let a = c.args in
    let from = c.is_from_desk-from_desk.ensures in
    let t = both _ _ c.if-from_desk-desk.true in
    let other : is_kind 1 (Ok a.x) ≡ false = sym c.is_telegram.ensures ∙ c.if-is_telegram.false in
    let desk : c.desk_at-desk.result ≡ get_or a.desks (desk_from a.x) no_desk = c.desk_at-desk.ensures ∙ ap (λ (i : ℕ). get_or a.desks i no_desk) c.desk-d.ensures in
    rw (c.if-not-planned.false, ne_eqb _ _ k, desk_there (from_desk (Ok a.x)) a.n (desk_from a.x) (rw (from, c.desk-d.ensures) at c.if-from_desk-n.false), other, rw other at (sym from ∙ t.0), ← desk, t.1) refl

-- what is not by telegram
pub returns : goal.returns
unfolding asked_of first_of entry_desk entry_channel
returns c = λ found d k.
    let a = c.args in
    let from = c.is_from_desk-from_desk.ensures in
    let other : is_kind 1 (Ok a.x) ≡ false = sym c.is_telegram.ensures ∙ c.if-is_telegram.false in
    let desk : c.desk_at-desk.result ≡ get_or a.desks (desk_from a.x) no_desk = c.desk_at-desk.ensures ∙ ap (λ (i : ℕ). get_or a.desks i no_desk) c.desk-d.ensures in
    rw (c.if-not-planned.false, ne_eqb _ _ k, desk_there (from_desk (Ok a.x)) a.n (desk_from a.x) (rw (from, c.desk-d.ensures) at c.if-from_desk-n.false), other, ← desk, rw other at (rw from at c.if-from_desk-desk.false))
    (ap₂ (λ (ch : ℕ) (v : Event). Ok (OfLine (OnChannel ch (num 0) v))) c.channel-channel.ensures c.event_of-event.ensures)
