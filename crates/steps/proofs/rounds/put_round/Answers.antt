-- `steps::rounds::put_round` meets its contract: the line has 63 bytes at most.
-- Assumes nothing.
use Rattle.std.proofs.Common.{[], ◌∷◌, arith, length-append}
use Rattle.text.specs.Decimal.{decimal}
use Rattle.text.proofs.Kept.{also, puts-length}
use Rattle.steps.proofs.Texts.{parts, twenty}
use Rattle.steps.proofs.rounds.put_round.Goals as goal

pub put_item-first-requires : goal.put_item-first-requires
put_item-first-requires c = omega (arith, twenty c.args.round.entries c.well_formed.0.1.1.0.1)

pub put_item-second-requires : goal.put_item-second-requires
put_item-second-requires c =
    let a = c.args.round in
    let first = c.put_item-first.ensures in
    omega (arith, first.place, puts-length first, length-append (decimal a.entries) (32 ∷ []), twenty a.entries c.well_formed.0.1.1.0.1, twenty a.accepted c.well_formed.0.1.1.1.0.1)

pub put_item-requires : goal.put_item-requires
put_item-requires c =
    let a = c.args.round in
    let first = c.put_item-first.ensures in
    let second = c.put_item-second.ensures in
    omega (arith, first.place, puts-length first, length-append (decimal a.entries) (32 ∷ []), second.place, puts-length second, length-append (decimal a.accepted) (32 ∷ []), twenty a.entries c.well_formed.0.1.1.0.1, twenty a.accepted c.well_formed.0.1.1.1.0.1, twenty a.bytes c.well_formed.0.1.1.1.1.0.1)

pub returns : goal.returns
returns c = rw (← parts c.args.round) (also (also c.put_item-first.ensures c.put_item-second.ensures) c.put_item.ensures)
