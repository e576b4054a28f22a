-- Parts of bytes that are alike but for one part.
-- Assumes nothing.
use Prim.Native.Nat.{ℕ, ◌+◌, ◌-◌, ◌≤◌, ◌<◌}
use mathlib.Core.List.{List}
use mathlib.Core.Path.{◌≡◌, sym, ap, ◌∙◌}
use native.Mathlib.Omega.{arith}
use native.Mathlib.Nat.{add_assoc}
use lib.ListN.{length-drop, get_or, take, drop}
use lib.Seq.{take-take, drop-drop, get_or-take}
use Rattle.laws.specs.Alike.{AlikeBut}
use Rattle.laws.proofs.Lists.{part-front}

module _ (at n : ℕ) (e e' : List ℕ) (w : AlikeBut at n e e') where
  -- a part before the difference
  pub part-alike : (a k : ℕ) → a + k ≤ at → take k (drop a e) ≡ take k (drop a e')
  part-alike a k h =
      let f : take (a + k) e ≡ take (a + k) e' =
      sym (take-take (a + k) at e h) ∙ ap (λ (l : List ℕ). take (a + k) l) w.front ∙ take-take (a + k) at e' h in
      part-front a k e ∙ ap (λ (l : List ℕ). drop a l) f ∙ sym (part-front a k e')

  -- a byte before it
  pub byte-alike : (i : ℕ) → i < at → get_or e i 0 ≡ get_or e' i 0
  byte-alike i h = sym (get_or-take at e i 0 h) ∙ ap (λ (l : List ℕ). get_or l i 0) w.front ∙ get_or-take at e' i 0 h

-- what is left behind a place before the difference
pub rest-alike : (a at n : ℕ) (e e' : List ℕ) → AlikeBut (a + at) n e e' → AlikeBut at n (drop a e) (drop a e')
rest-alike a at n e e' w = record {
  long = length-drop a e ∙ ap (λ (k : ℕ). k - a) w.long ∙ sym (length-drop a e');
  front = part-alike (a + at) n e e' w a at (omega arith);
  back = behind e ∙ w.back ∙ sym (behind e');
}
  where
    behind : (l : List ℕ) → drop (at + n) (drop a l) ≡ drop (a + at + n) l
    behind l = drop-drop (at + n) a l ∙ ap (λ (k : ℕ). drop k l) (sym (add_assoc a at n))
