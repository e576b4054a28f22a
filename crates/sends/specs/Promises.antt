-- What is promised of what is heard of a script, beside the contracts. `proofs/Kept.antt` has the proof of each under the name
-- given with it, and is the one module of the proofs that other crates cite.
use Rattle.std.specs.Prelude.{ℕ, List, [], ◌∷◌, ◌++◌, Bool, cond, ◌≡◌, Option}
use Rattle.channel.specs.State.{party_set}
use Rattle.line_rules.specs.Rules.{to, sent_if, kind_of, press_off_sends}
use Rattle.channel.specs.declared.state.Call.{Call}
use Rattle.channel.specs.declared.state.Notice.{Notice}
use Rattle.channel.specs.declared.state.Notice.TheVariants.{PressAnswer, PressNotice}
use Rattle.channel.specs.declared.state.Send.{Send}
use Rattle.sends.specs.Scripts.{heard}

-- what is heard of one send
unfoldable pub heard_of : Send → List Send
heard_of s = heard (s ∷ [])

-- Of two scripts in turn is heard what is heard of each (`heard-append`).
abbrev pub HeardInTurn : Type 0
HeardInTurn = (xs ys : List Send) → heard (xs ++ ys) ≡ heard xs ++ heard ys

-- A script is heard send by send (`heard_nil`, `heard_cons`).
abbrev pub NothingToHear : Type 0
NothingToHear = heard [] ≡ []

abbrev pub HeardSendBySend : Type 0
HeardSendBySend = (s : Send) (ss : List Send) → heard (s ∷ ss) ≡ heard_of s ++ heard ss

-- Nobody hears what is sent to the empty set (`heard-none`).
abbrev pub HeardByNobody : Type 0
HeardByNobody = (n : Notice) → heard_of (to 0 n) ≡ []

-- What is sent if a test holds is heard like what is sent to a set that is empty unless it holds (`heard-sent_if`).
abbrev pub HeardIf : Type 0
HeardIf = (t : Bool) (m : ℕ) (n : Notice) → heard (sent_if t (to m n ∷ [])) ≡ heard_of (to (cond t m 0) n)

-- What ends a press is heard like what is sent to who presses, as a set (`heard_press_off`).
abbrev pub PressOffHeard : Type 0
PressOffHeard =
    (p : Option ℕ) (k : Option Call)
    → heard (press_off_sends p k) ≡ heard_of (to (party_set p) (PressAnswer 0)) ++ heard_of (to (party_set p) (PressNotice (kind_of k) 0))
