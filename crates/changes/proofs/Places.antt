-- Laws on desks by their place.
-- Assumes nothing.
use Prim.Native.Nat.{ℕ, zero, suc, ◌+◌, ◌<◌, ◌/◌, ◌%◌}
use mathlib.Core.List.{List, [], ◌∷◌}
use mathlib.Core.Bool.{Bool, true, ◌&&◌, cond, and_comm}
use mathlib.Core.Path.{◌≡◌, refl, sym}
use native.Mathlib.Omega.{arith}
use lib.Dec.{eqb, ltb}
use lib.ListN.{length, take, get_or}
use lib.Seq.{take-nil}
use borrow.Author.Tests.{lt-ltb}
use Rattle.laws.proofs.Lists.{tab, tab-all}
use Rattle.channel.specs.State.{is_in}
use Rattle.set_state.specs.State.{is_running, running_from}
use Rattle.set_state.specs.declared.state.Desk.{Desk}

pub four : {A : Type 0} (xs : List A) (z : A) → length xs ≡ 4 → xs ≡ get_or xs 0 z ∷ get_or xs 1 z ∷ get_or xs 2 z ∷ get_or xs 3 z ∷ []
unfolding tab
four xs z h = sym (rw h at (tab-all xs z))

-- a desk's place in a set, if it listens and is running
abbrev share : Bool → Desk → ℕ → ℕ
share t k p = cond (t && is_running k) p 0

-- the listeners, one desk after another
pub shares : (a b c d : Desk) (n m : ℕ)
    → share (ltb 0 n && eqb (m % 2) 1) a 1
    + share (ltb 1 n && eqb (m / 2 % 2) 1) b 2
    + share (ltb 2 n && eqb (m / 2 / 2 % 2) 1) c 4
    + share (ltb 3 n && eqb (m / 2 / 2 / 2 % 2) 1) d 8
    ≡ running_from 0 m (take n (a ∷ b ∷ c ∷ d ∷ []))
unfolding running_from is_in
shares a b c d zero m = refl
shares a b c d (suc zero) m = rw (and_comm (is_running a)) (omega arith)
shares a b c d (suc (suc zero)) m = rw (and_comm (is_running a), and_comm (is_running b)) (omega arith)
shares a b c d (suc (suc (suc zero))) m = rw (and_comm (is_running a), and_comm (is_running b), and_comm (is_running c)) (omega arith)
shares a b c d (suc (suc (suc (suc n)))) m =
    let k : (i : ℕ) → i < 4 → ltb i (suc (suc (suc (suc n)))) ≡ true = λ i h. lt-ltb i _ (omega arith) in
    rw (k 0 (omega arith), k 1 (omega arith), k 2 (omega arith), k 3 (omega arith), and_comm (is_running a), and_comm (is_running b), and_comm (is_running c), and_comm (is_running d), take-nil n) (omega arith)
