-- What a turn of a program does where the bytes of its reader and of its writer are known.
-- Assumes nothing.
use Rattle.std.proofs.Common.{◌≡◌, ℕ, ◌+◌, ◌-◌, ◌≤◌, Bool, true, false, cond, ◌&&◌, leb, List, ◌++◌, None, Some, length, take, drop, refl, ap, ◌∙◌, append-nil, arith, length-append, length-take-le, take_at}
use lib.Seq.{sets-eq}
use Rattle.text.specs.Written.{written}
use Rattle.streams.specs.Places.{is_there, waits_at}
use Rattle.streams.specs.Promises.{Gives, NoneLeft, SendsOn, PutBehind}

-- ---- what a reader gives

pub gives : Gives
gives None v w c = absurd c
gives (Some v') v w c = (v', refl, c)

pub none_left : NoneLeft
none_left x v e h = rw e at h

-- ---- the text, part of which is written and part of which waits

split-there : (t : Bool) (w v : ℕ) (text : List ℕ) → v ≡ cond t w 0 → take (w - v) text ++ take v text ≡ take w text
split-there true w v text e = let none : w - w ≡ 0 = omega arith in rw (e, none) refl
split-there false w v text e = let all : w - 0 ≡ w = omega arith in rw (e, all) (append-nil (take w text))

pub sends_on : SendsOn
sends_on most room long b p b' r text n = split-there (is_there most b p && leb (p.waits + room) long) p.waits (waits_at r) text n.waits

pub put_behind : PutBehind
unfolding written
put_behind text at xs text' waits put h =
    let fits : at + length xs ≤ length text = omega (arith, put.place) in
    let front : length (take at text) ≡ at = length-take-le at text (omega arith) in
    let long : length (take at text ++ xs) ≡ waits = simp length-append (omega (arith, front, put.place)) in
    ap (λ (l : List ℕ). take waits l) (put.text ∙ sets-eq xs text at fits) ∙ take_at (take at text ++ xs) (drop (at + length xs) text) waits long
