-- The promises of `specs/Promises.antt` that other crates cite, kept.
-- Assumes nothing.
use mathlib.Core.Path.{refl}
use Rattle.line_rules.specs.Promises.{FreeIsOk, StaysOk, SaysInRange, FreeIsAmong, StaysAmong, SaysForDesk, OnlyOther, HideTwice, PresentHide, OpenHide, HappensHide, NumberHidden, RingHidden, HoldingLasts, KeepsPlace, GoesByTurns, HandoverEnds}
use Rattle.line_rules.proofs.Ranges as ranges
use Rattle.line_rules.proofs.Timers.{free-timed, happens-timed}
use Rattle.line_rules.proofs.Rings.{clash, happens-rung}
use Rattle.line_rules.proofs.Masks as masks
use Rattle.line_rules.proofs.Among as among
use Rattle.line_rules.proofs.Veil as left
use Rattle.line_rules.proofs.Holding as holding
use Rattle.line_rules.proofs.Place as place
use Rattle.line_rules.proofs.Turns as turns

pub free_is_ok : FreeIsOk
free_is_ok code entitled h = record {
  is_in_range = record { code_ok = h; call_ok = tt; arrival-ok = tt };
  timed = free-timed code entitled;
  rung = clash refl;
}

pub stays-ok : StaysOk
stays-ok v e c h ok =
    let r = ranges.happens_ranged e c ok.is_in_range v h in
    record {
      next-ok = record { is_in_range = r.next-ok; timed = happens-timed e c ok.timed ok.rung v h; rung = happens-rung e c ok.timed ok.rung v h };
      sends-ok = r.sends-ok;
    }

pub says_in_range : SaysInRange
says_in_range = ranges.says_in_range

pub free_is_among : FreeIsAmong
free_is_among = among.free_is_among

pub stays-among : StaysAmong
stays-among w v e c h g l ok a = among.happens-among w e c l ok.timed a v h g

pub says_for_desk : SaysForDesk
says_for_desk = among.says_for_desk

pub only-other : OnlyOther
only-other = masks.only-other

pub hide_twice : HideTwice
hide_twice = left.hide_twice

pub present_hide : PresentHide
present_hide = left.present_hide

pub open_hide : OpenHide
open_hide = left.open_hide

pub happens-hide : HappensHide
happens-hide = left.happens-hide

pub number_hidden : NumberHidden
number_hidden = left.number_hidden

pub ring_hidden : RingHidden
ring_hidden = left.ring_hidden

pub holding_lasts : HoldingLasts
holding_lasts = holding.holding_lasts

pub keeps_place : KeepsPlace
keeps_place = place.keeps_place

pub by_turns : GoesByTurns
by_turns = turns.by_turns

pub handover_ends : HandoverEnds
handover_ends = turns.handover_ends
