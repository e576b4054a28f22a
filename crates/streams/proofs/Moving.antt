-- Bytes read behind those of a buffer.
-- Assumes nothing.
use Rattle.std.proofs.Common.{◌≡◌, ℕ, zero, suc, ◌+◌, ◌-◌, ◌≤◌, List, [], ◌∷◌, ◌++◌, subst, take-append-drop, drop-drop, take, drop, sym, ap, ◌∙◌, arith, take-take}
use lib.Seq.{take-nil}
use Rattle.std.specs.Io.KnownBytes.{Consumes, Keeps}
use Rattle.std.proofs.KnownBytes.{Consumes-trans, Consumes-kept}
use Rattle.std.proofs.lemmas.List.{drop-take as drop-take-more}
use Rattle.std.specs.declared.option.Option.{Option}
use Rattle.streams.specs.Places.{FilledBehind, between}

-- what agrees at the front agrees in a shorter front
shorter : (n m : ℕ) (x y : List ℕ) → n ≤ m → take m x ≡ take m y → take n x ≡ take n y
shorter n m x y h e = sym (take-take n m x h) ∙ (ap (λ (l : List ℕ). take n l) e ∙ take-take n m y h)

-- filled behind, and then behind that
pub filled_on : {b : List ℕ} {have : ℕ} {b₁ : List ℕ} {n : ℕ} {b₂ : List ℕ} {m : ℕ} → FilledBehind b have b₁ n → FilledBehind b₁ n b₂ m → FilledBehind b have b₂ m
filled_on f g = record { kept = shorter _ _ _ _ f.least g.kept ∙ f.kept; long = g.long ∙ f.long; least = omega (arith, f.least, g.least); most = g.most }

-- ---- the bytes read behind

pub drop-take : (s n : ℕ) (l : List ℕ) → drop s (take n l) ≡ take (n - s) (drop s l)
drop-take zero n l = let e : n ≡ n - 0 = omega arith in ap (λ (k : ℕ). take k l) e
drop-take (suc s) zero l = let e : 0 ≡ 0 - suc s = omega arith in ap (λ (k : ℕ). take k (drop (suc s) l)) e
drop-take (suc s) (suc n) [] = sym (take-nil (suc n - suc s))
drop-take (suc s) (suc n) (x ∷ xs) = let e : n - s ≡ suc n - suc s = omega arith in drop-take s n xs ∙ ap (λ (k : ℕ). take k (drop s xs)) e

-- from one place on, past a second, to a third
between_on : (have n m : ℕ) (b b₁ : List ℕ) → have ≤ n → n ≤ m → take n b₁ ≡ take n b → between have m b₁ ≡ between have n b ++ between n m b₁
between_on have n m b b₁ h i e =
    let k : ℕ = n - have in
    let j : ℕ = m - n in
    let d : List ℕ = drop have b₁ in
    let all : m - have ≡ k + j = omega arith in
    let past : have + k ≡ n = omega arith in
    let first : take k d ≡ between have n b = sym (drop-take have n b₁) ∙ (ap (λ (l : List ℕ). drop have l) e ∙ drop-take have n b) in
    let cut : take (k + j) d ≡ take k d ++ take j (drop k d) =
    sym (take-append-drop k (take (k + j) d))
    ∙ (ap (λ (l : List ℕ). l ++ drop k (take (k + j) d)) (take-take k (k + j) d (omega arith)) ∙ ap (λ (l : List ℕ). take k d ++ l) (drop-take-more k j d)) in
    ap (λ (c : ℕ). take c d) all
    ∙ (cut
    ∙ (ap (λ (l : List ℕ). l ++ take j (drop k d)) first ∙ ap (λ (l : List ℕ). between have n b ++ take j l) (drop-drop k have b₁ ∙ ap (λ (c : ℕ). drop c b₁) past)))

-- what a reader gave up to there, and what it gives then
pub consumes_on : (x y z : Option (List ℕ)) (count : ℕ) {have n : ℕ} {b b₁ : List ℕ} → have ≤ n → FilledBehind b n b₁ (n + count) → Consumes x y (between have n b) → Consumes y z (take count (drop n b₁))
    → Consumes x z (between have (n + count) b₁)
consumes_on x y z count {have} {n} {b} {b₁} h f c d =
    let came : take count (drop n b₁) ≡ between n (n + count) b₁ = let e : count ≡ n + count - n = omega arith in ap (λ (k : ℕ). take k (drop n b₁)) e in
    subst (Consumes x z) (sym (between_on have n (n + count) b b₁ h f.least f.kept)) (Consumes-trans x y z _ _ c (rw came at d))

-- where a read failed, it gave none
pub consumes_not : (x y z : Option (List ℕ)) (have : ℕ) {n : ℕ} {b b₁ : List ℕ} → FilledBehind b n b₁ n → Consumes x y (between have n b) → Keeps y z → Consumes x z (between have n b₁)
consumes_not x y z have {n} {b} {b₁} f c k =
    let same : between have n b₁ ≡ between have n b = sym (drop-take have n b₁) ∙ (ap (λ (l : List ℕ). drop have l) f.kept ∙ drop-take have n b) in
    subst (Consumes x z) (sym same) (Consumes-kept x y z _ c k)
