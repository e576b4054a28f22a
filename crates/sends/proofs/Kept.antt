-- The promises of `specs/Promises.antt`, kept: the one module of these proofs that other crates cite.
-- Assumes nothing.
use mathlib.Core.List.{List, [], ◌∷◌, ◌++◌, append_assoc, append-nil}
use mathlib.Core.Bool.{Bool, true, false, cond}
use mathlib.Core.Path.{◌≡◌, refl}
use lib.Dec.{eqb}
use Rattle.std.specs.Prelude.{None, Some}
use Rattle.sends.specs.Promises.{heard_of, HeardInTurn, NothingToHear, HeardSendBySend, HeardByNobody, HeardIf, PressOffHeard}
use Rattle.sends.specs.Scripts.{heard}
use Rattle.channel.specs.declared.state.Send.{Send}

-- what comes after a send that may be left out
cond-append : (t : Bool) (s : Send) (xs ys : List Send) → cond t xs (s ∷ xs) ++ ys ≡ cond t (xs ++ ys) (s ∷ (xs ++ ys))
cond-append true s xs ys = refl
cond-append false s xs ys = refl

pub heard-append : HeardInTurn
unfolding heard
heard-append [] ys = refl
heard-append (x ∷ xs) ys = rw (cond-append (eqb x.recipients 0) x (heard xs) (heard ys), heard-append xs ys) refl

pub heard_nil : NothingToHear
unfolding heard
heard_nil = refl

pub heard_cons : HeardSendBySend
unfolding heard_of
heard_cons s ss = heard-append (s ∷ []) ss

pub heard-none : HeardByNobody
unfolding heard_of heard
heard-none n = refl

-- brings what is heard of two scripts to one form: send by send, without those to nobody
pub ruleset send-by-send = (heard-append, heard_nil, heard_cons, heard-none, append_assoc, append-nil)

pub heard-sent_if : HeardIf
unfolding heard_of heard
heard-sent_if true m n = refl
heard-sent_if false m n = refl

pub heard_press_off : PressOffHeard
heard_press_off None k = simp send-by-send refl
heard_press_off (Some d) k = simp send-by-send refl
