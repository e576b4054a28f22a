-- A tick by the timer that runs out, and how the tests of the code tell what a tick does to the timers.
-- Assumes nothing.
use Prim.Native.Nat.{ℕ, ◌-◌, ◌<◌, ◌≤◌}
use mathlib.Core.Bool.{Bool, true, false, cond, ◌||◌}
use mathlib.Core.Path.{◌≡◌, refl}
use borrow.Author.Tests.{lt-ltb, le-ltb, lt-leb, le-leb, eqb-false, ltb-true}
use native.Mathlib.Omega.{arith}
use lib.Dec.{eqb, leb, ltb}
use Rattle.laws.proofs.Tests.{neither}
use Rattle.channel.specs.State.{is_held, is_present}
use Rattle.line_rules.specs.Rules.{Step, is_pressed, is_ringing}
use Rattle.timers.specs.Falls.{falling, may_fall, is_due}
use Rattle.channel.specs.declared.state.Channel.{Channel}
use Rattle.channel.specs.declared.state.Falling.{Falling}
use Rattle.channel.specs.declared.state.Falling.TheVariants.{Still, Ring, Quiet, Release, Due}

-- the timer that runs out is the one that falls: of the ring (g), of quiet (t) or of release
pub by_due : (g k p a t l h m : Bool) (u w s x q y r : Step)
    → cond g (cond k u w) (cond p s (cond a s (cond t (cond l x q) (cond h (cond m y r) s))))
    ≡ cond g (cond k (cond g u (cond t x y)) w)
    (cond p s (cond a s (cond t (cond l (cond g u (cond t x y)) q) (cond h (cond m (cond g u (cond t x y)) r) s))))
by_due true k p a t l h m u w s x q y r = refl
by_due false k p a true l h m u w s x q y r = refl
by_due false k p a false l h m u w s x q y r = refl

-- ---- the tests

-- a choice between equals
same : (t : Bool) (a : Falling) → cond t a a ≡ a
same true a = refl
same false a = refl

talk : (p a : Bool) (f : Falling) → (p || a) ≡ true → cond p Still (cond a Still f) ≡ Still
talk true a f h = refl
talk false true f h = refl
talk false false f h = cc

-- no timer runs out where neither that of the ring (g) nor that of quiet (t) has one second left, nor that of release
not-due : (g k p a t l h : Bool) (w q r : ℕ) → (g ≡ true → k ≡ false) → (t ≡ true → l ≡ false)
    → is_due (cond g (cond k Due (Ring w)) (cond p Still (cond a Still (cond t (cond l Due (Quiet q)) (cond h (Release r) Still))))) ≡ false
not-due true k p a t l h w q r e f = rw (e refl) refl
not-due false k true a t l h w q r e f = refl
not-due false k false true t l h w q r e f = refl
not-due false k false false true l h w q r e f = rw (f refl) refl
not-due false k false false false l true w q r e f = refl
not-due false k false false false l false w q r e f = refl

-- a timer that does not have one second left is stopped or has more
more : (x : ℕ) → eqb x 1 ≡ false → ltb 0 x ≡ true → leb x 1 ≡ false
more x n t = lt-leb x 1 (omega (arith, eqb-false x 1 n, ltb-true 0 x t))

module _ (c : Channel) where
  pub rest-still : may_fall c ≡ false → falling c ≡ Still
  unfolding falling
  rest-still h =
      let n = neither (ltb 0 c.quiet || ltb 0 c.ring) (is_held c.holder) h in
      let t = neither (ltb 0 c.quiet) (ltb 0 c.ring) n.0 in
      simp (t.0, t.1, n.1, same) refl

  pub later : eqb c.ring 1 ≡ false → eqb c.quiet 1 ≡ false → 1 < c.release → is_due (falling c) ≡ false
  unfolding falling
  later r q l = simp (lt-leb c.release 1 l) (not-due _ _ (is_pressed c) (is_present c.arrival) _ _ (is_held c.holder) _ _ _ (more c.ring r) (more c.quiet q))

  pub ring_falls : 1 < c.ring → falling c ≡ Ring (c.ring - 1)
  unfolding falling
  ring_falls r =
      let runs : 0 < c.ring = omega arith in
      simp (lt-ltb 0 c.ring runs, lt-leb c.ring 1 r) refl

  pub ring-due : 0 < c.ring → c.ring ≤ 1 → falling c ≡ Due
  unfolding falling
  ring-due runs r = simp (lt-ltb 0 c.ring runs, le-leb c.ring 1 r) refl

  module _ (silent : c.ring ≤ 0) where
    off : is_ringing c ≡ false
    off = le-ltb 0 c.ring silent

    pub talked : (is_pressed c || is_present c.arrival) ≡ true → falling c ≡ Still
    unfolding falling
    talked h = simp off (talk (is_pressed c) (is_present c.arrival) _ h)

    module _ (h : (is_pressed c || is_present c.arrival) ≡ false) where
      n : (is_pressed c ≡ false) × (is_present c.arrival ≡ false)
      n = neither (is_pressed c) (is_present c.arrival) h

      pub quiet_falls : 1 < c.quiet → falling c ≡ Quiet (c.quiet - 1)
      unfolding falling
      quiet_falls q =
          let runs : 0 < c.quiet = omega arith in
          simp (off, n.0, n.1, lt-ltb 0 c.quiet runs, lt-leb c.quiet 1 q) refl

      pub quiet_due : 0 < c.quiet → c.quiet ≤ 1 → falling c ≡ Due
      unfolding falling
      quiet_due runs q = simp (off, n.0, n.1, lt-ltb 0 c.quiet runs, le-leb c.quiet 1 q) refl

      module _ (stopped : c.quiet ≤ 0) where
        pub free : is_held c.holder ≡ false → falling c ≡ Still
        unfolding falling
        free e = simp (off, n.0, n.1, le-ltb 0 c.quiet stopped, e) refl

        module _ (held : is_held c.holder ≡ true) where
          pub release_falls : 1 < c.release → falling c ≡ Release (c.release - 1)
          unfolding falling
          release_falls r = simp (off, n.0, n.1, le-ltb 0 c.quiet stopped, held, lt-leb c.release 1 r) refl

          pub release-due : c.release ≤ 1 → falling c ≡ Due
          unfolding falling
          release-due r = simp (off, n.0, n.1, le-ltb 0 c.quiet stopped, held, le-leb c.release 1 r) refl
