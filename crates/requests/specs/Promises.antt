-- What is promised of the rows up to 11, beside the contracts. `proofs/Kept.antt` has the proof under the name given with it,
-- and is the one module of the proofs that other crates cite.
use Rattle.std.specs.Prelude.{ℕ, not, cond, ◌≡◌, eqb}
use Rattle.telegram.specs.Telegram.{Reading}
use Rattle.set_rules.specs.Refusals.{code_is, identifier_is, body_reads, asked_in, phase_of}
use Rattle.set_state.specs.declared.state.Request.TheVariants.{Foreign}

-- What no desk sends has a refusal up to 11 (`foreign_refused`).
abbrev pub ForeignRefused : Type 0
ForeignRefused =
    (d k phase : ℕ) (r : Reading) → asked_in d r ≡ Foreign
    → ◌≡◌ {A = ℕ}
    (cond (not (code_is k r)) 8
    (cond (not (identifier_is r)) 9 (cond (not (body_reads r)) 10 (cond (not (eqb phase (phase_of (asked_in d r)))) 11 0))))
    0
    → ⊥
