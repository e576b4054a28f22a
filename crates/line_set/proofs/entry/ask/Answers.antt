-- `line_set::entry::ask` meets its contract: what is asked of a link, or of a channel that is sought by its code.
-- Assumes nothing.
use Prim.Native.Nat.{ℕ}
use mathlib.Core.Bool.{Bool, true}
use mathlib.Core.Path.{◌≡◌, sym, ap, subst, ◌∙◌}
use lib.ListN.{length}
use Rattle.std.proofs.Common.{rules, Ok, Err}
use Rattle.channel.specs.declared.state.Channel.{Channel}
use Rattle.set_state.specs.State.{no_channel}
use Rattle.set_state.specs.Entry.{numbered}
use Rattle.set_rules.specs.SetRules.{on_link}
use Rattle.set_rules.specs.Feeds.{emit}
use Rattle.set_rules.proofs.Kept.{gives_as, left_as_was}
use Rattle.telegram_requests.specs.declared.request.Asked.TheVariants.{OfLink, OfLine}
use Rattle.changes.specs.Changes.{Asks, Stands}
use Rattle.changes.proofs.Kept.{refused_as, linked_as}
use Rattle.line_set.proofs.OneStep.{is_plan, asks}
use Rattle.line_set.proofs.entry.ask.Goals as goal
use Rattle.line_set.proofs.entry.ask.Goals.{After-seek-sought}

pub returns-in_err-asked : goal.returns-in_err-asked
returns-in_err-asked c =
    let s = c.args.set.now in
    let e : c.from_residual.result ≡ Err c.in_err-asked.field-0.0 = search rules in
    rw e
    (gives_as (refused_as s.planned s.desks s.size.desks s.channels s.size.channels c.args.entry.now (Ok c.args.x) true no_channel _ (length c.args.buffer.now) (c.in_err-asked.ensures true no_channel (λ k. c.requires.no_plan (is_plan _ k))))
    (left_as_was s c.in_err-asked.field-0.0 c.args.buffer.now))

pub returns-in-OfLink : goal.returns-in-OfLink
returns-in-OfLink c =
    let s = c.args.set.now in
    let room = length c.args.buffer.now in
    let asked : c.asked_of.result ≡ Ok (OfLink c.in-OfLink.request) = c.in_ok-asked.was ∙ ap Ok c.in-OfLink.is in
    gives_as
    (ap (λ (d : ℕ). emit s (on_link s d c.in-OfLink.request) room) c.desk.ensures
    ∙ linked_as s.planned s.desks s.size.desks s.channels s.size.channels c.args.entry.now c.args.x true no_channel _ room (sym (ap numbered asked) ∙ c.asked_of.ensures true no_channel (λ k. c.requires.no_plan (is_plan _ k))))
    c.link.ensures

asked-at : (c : After-seek-sought) → Asks c.args.set.now c.args.entry.now c.args.x c.in-OfLine.request c.seek-sought.result.place c.seek-sought.result.found c.seek-sought.result.channel
asked-at c =
    let s = c.args.set.now in
    let asked : c.asked_of.result ≡ Ok (OfLine c.in-OfLine.request) = c.in_ok-asked.was ∙ ap Ok c.in-OfLine.is in
    let r = c.seek-sought.result in
    asks s c.args.entry.now c.args.x c.in-OfLine.request (λ (found : Bool) (d : Channel) h. sym (ap numbered asked) ∙ c.asked_of.ensures found d h)
    (subst (λ (code : ℕ). Stands s code r.place r.found r.channel) c.code_of-code.ensures c.seek-sought.ensures.0)
    (record { no-plan = c.requires.no_plan; no_handover = c.requires.no_handover; no_tick = c.requires.no_tick })

pub returns-in_err-change-in-OfLine : goal.returns-in_err-change-in-OfLine
returns-in_err-change-in-OfLine c =
    let s = c.args.set.now in
    let e : c.from_residual-in_err-change-in-OfLine.result ≡ Err c.in_err-change-in-OfLine.field-0.0 = search rules in
    rw e (c.in_err-change-in-OfLine.ensures s.planned s.channels s.size.channels c.seek-sought.result.place c.args.entry.now (asked-at (goal.at.returns-in_err-change-in-OfLine c).After-seek-sought))

pub returns-in_ok-change-in-OfLine : goal.returns-in_ok-change-in-OfLine
returns-in_ok-change-in-OfLine c =
    let s = c.args.set.now in
    rw c.in_ok-change-in-OfLine.was at (c.change_of.ensures s.planned s.channels s.size.channels c.seek-sought.result.place c.args.entry.now (asked-at (goal.at.returns-in_ok-change-in-OfLine c).After-seek-sought))
