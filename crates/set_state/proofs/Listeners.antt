-- The listeners of a channel are exactly the running entitled desks of the plan.
-- Assumes nothing.
use Prim.Native.Nat.{ℕ, zero, suc, ◌+◌, ◌*◌, ◌/◌, ◌%◌, ◌^◌, ◌≤◌}
use mathlib.Core.List.{List, [], ◌∷◌}
use mathlib.Core.Bool.{Bool, true, false, ◌&&◌, cond}
use mathlib.Core.Path.{◌≡◌, ap, ◌∙◌}
use native.Mathlib.Omega.{arith}
use native.Mathlib.Nat.{zero-add, add-zero, pow-succ'}
use lib.Dec.{eqb}
use lib.ListN.{length, length-take, take, get_or}
use borrow.Author.Tests.{lt-ltb, eq-eqb, ne_eqb}
use Rattle.channel.specs.State.{only, is_in}
use Rattle.channel.proofs.Kept.{none_above}
use Rattle.set_state.specs.State.{no_desk, is_running, running_from}
use Rattle.set_state.specs.Promises.{ListenersExactly}
use Rattle.set_state.specs.declared.state.Desk.{Desk}

abbrev bit : Bool → ℕ
bit t = cond t 1 0

-- the tests of `running_from` as bits, the first one lowest
unfoldable bits_from : ℕ → ℕ → List Desk → ℕ
bits_from d m [] = 0
bits_from d m (k ∷ ks) = bit (is_running k && is_in d m) + 2 * bits_from (suc d) m ks

only_times : (t : Bool) (d : ℕ) → suc d ≤ 8 → cond t (only d) 0 ≡ 2 ^ d * bit t
only_times true d h = rw (lt-ltb d 8 h) (omega arith)
only_times false d h = omega arith

running_bits : (d m : ℕ) (ks : List Desk) → d + length ks ≤ 8 → running_from d m ks ≡ 2 ^ d * bits_from d m ks
unfolding running_from bits_from
running_bits d m [] h = omega arith
running_bits d m (k ∷ ks) h =
    let one = only_times (is_running k && is_in d m) d (omega arith) in
    let rest = rw (pow-succ' 2 d) at (running_bits (suc d) m ks (omega arith)) in
    omega (arith, one, rest)

bit-low : (t : Bool) (n : ℕ) → eqb ((bit t + 2 * n) % 2) 1 ≡ t
bit-low true n = eq-eqb ((1 + 2 * n) % 2) 1 (omega arith)
bit-low false n = ne_eqb ((0 + 2 * n) % 2) 1 (omega arith)

bit-rest : (t : Bool) (n : ℕ) → (bit t + 2 * n) / 2 ≡ n
bit-rest true n = omega arith
bit-rest false n = omega arith

in_bits : (i d m : ℕ) (ks : List Desk) → is_in i (bits_from d m ks) ≡ (is_running (get_or ks i no_desk) && is_in (d + i) m)
unfolding bits_from is_in
in_bits i d m [] = none_above 0 i 0 (omega arith) (omega arith)
in_bits zero d m (k ∷ ks) = rw (add-zero d) (bit-low (is_running k && is_in d m) (bits_from (suc d) m ks))
in_bits (suc i) d m (k ∷ ks) =
    let next : d + suc i ≡ suc d + i = omega arith in
    rw (bit-rest (is_running k && is_in d m) (bits_from (suc d) m ks), next) (in_bits i (suc d) m ks)

pub listeners_exactly : ListenersExactly
listeners_exactly ds n c d h =
    let ks = take n ds in
    let e = running_bits 0 c.entitled ks (omega (arith, length-take n ds)) in
    let one : running_from 0 c.entitled ks ≡ bits_from 0 c.entitled ks = omega (arith, e) in
    ap (is_in d) one ∙ (rw (zero-add d) at (in_bits d 0 c.entitled ks))
