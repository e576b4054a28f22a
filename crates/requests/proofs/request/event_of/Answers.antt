-- `requests::request::event_of` meets its contract, kind by kind.
-- Assumes nothing.
use mathlib.Core.Path.{refl, ap}
use borrow.Author.Tests.{eq-eqb, ne_eqb}
use Rattle.channel.specs.declared.state.Event.TheVariants.{MobileOn}
use Rattle.telegram.specs.declared.message.Number.{Number}
use Rattle.set_rules.specs.Entries.{entry_kind, entry_desk, entry_on, entry_base, entry_number, entry_called}
use Rattle.requests.proofs.Asked.{off_else}
use Rattle.requests.proofs.request.event_of.Goals as goal

pub returns-then-on-eq1 : goal.returns-then-on-eq1
unfolding entry_kind entry_desk entry_on
returns-then-on-eq1 c = rw (c.in-Press.is, eq-eqb _ _ c.if-on-eq1.true) refl

pub returns-else-on-eq1 : goal.returns-else-on-eq1
unfolding entry_kind entry_on
returns-else-on-eq1 c = rw (c.in-Press.is, ne_eqb _ _ c.if-on-eq1.false) refl

pub returns-in-Cut : goal.returns-in-Cut
unfolding entry_kind
returns-in-Cut c = rw c.in-Cut.is refl

pub returns-in-MobileOn : goal.returns-in-MobileOn
unfolding entry_kind entry_base entry_number
returns-in-MobileOn c = rw c.in-MobileOn.is (ap (λ (k : Number). MobileOn c.in-MobileOn.base k) c.number_in-number.ensures)

pub returns-in-MobileCall : goal.returns-in-MobileCall
unfolding entry_kind entry_base entry_number entry_called
returns-in-MobileCall c = rw c.in-MobileCall.is c.ring_of.ensures

pub returns-in-MobileCancel : goal.returns-in-MobileCancel
unfolding entry_kind
returns-in-MobileCancel c = rw c.in-MobileCancel.is refl

pub returns-in_default : goal.returns-in_default
unfolding entry_kind
returns-in_default c =
    off_else c.args.desks c.args.n c.args.own c.args.x c.in_default.not-Press c.in_default.not-Cut c.in_default.not-MobileOn c.in_default.not-MobileCall c.in_default.not-MobileCancel
