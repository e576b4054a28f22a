-- `line_set::places::seek` meets its contract.
-- Assumes nothing.
use Prim.Native.Nat.{ℕ}
use mathlib.Core.List.{List}
use mathlib.Core.Path.{◌≡◌, ap, ◌∙◌}
use native.Mathlib.Omega.{arith}
use lib.ListN.{length, take}
use Rattle.laws.proofs.Lists.{any_default, take_count}
use Rattle.channel.specs.declared.state.Channel.{Channel}
use Rattle.set_state.specs.State.{no_channel, place_of}
use Rattle.line_set.proofs.OneStep.{stands}
use Rattle.line_set.proofs.Seeking.{counted}
use Rattle.line_set.proofs.places.seek.Goals as goal

pub returns : goal.returns
returns c =
    let s = c.args.set.now in
    let cs = s.channels in
    let l : length cs ≡ 32 = omega arith in
    let n = counted cs s.size.channels _ l c.count_of-count.ensures.0 in
    let all : take c.count_of-count.result cs ≡ take s.size.channels cs = ap (λ (k : ℕ). take k cs) n ∙ take_count s.size.channels cs in (
      stands s c.args.code _ _ _ _ n (c.place_of-i.ensures ∙ ap (λ (xs : List Channel). place_of c.args.code xs) all) c.place_below-place.ensures.0 (any_default cs _ no_channel _ (omega (arith, c.place_below-place.ensures.1))),
      c.place_below-place.ensures.1,
    )
