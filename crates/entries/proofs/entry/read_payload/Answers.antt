-- `entries::entry::read_payload` meets its contract: each kind by its reader.
-- Assumes nothing.
use Prim.Native.Nat.{ℕ}
use mathlib.Core.List.{List}
use mathlib.Core.Bool.{and-true, cond}
use mathlib.Core.Path.{◌≡◌, refl, sym, ◌∙◌}
use lib.Dec.{eqb}
use lib.ListN.{length}
use Rattle.std.specs.Prelude.{Result, Ok, Err}
use Rattle.std.proofs.lemmas.Result.{err_from_is_err_and}
use Rattle.laws.proofs.Tests.{by_test}
use Rattle.frames.specs.Bytes.{byte}
use Rattle.set_state.specs.declared.state.Refusal.{Refusal}
use Rattle.set_state.specs.declared.state.Refusal.TheVariants.{Payload}
use Rattle.set_state.specs.declared.state.Entry.{Entry}
use Rattle.set_state.specs.declared.state.Entry.TheVariants.{MobileOff, MobileCancel}
use borrow.Author.Tests.{ne_eqb}
use Rattle.laws.specs.Table.{pick}
use Rattle.set_rules.specs.Entries.{entry_on, entry_base}
use Rattle.entries.specs.Payloads.{payload_in, line_in, bare_in}
use Rattle.entries.proofs.entry.read_payload.Goals as goal

pub returns-in-6 : goal.returns-in-6
unfolding pick payload_in entry_on entry_base bare_in
returns-in-6 c = rw c.in-6.is (simp and-true c.read_bare.ensures)

pub returns-in-7 : goal.returns-in-7
unfolding pick payload_in entry_on entry_base
returns-in-7 c = rw c.in-7.is refl

pub returns-in-8 : goal.returns-in-8
unfolding pick payload_in entry_on entry_base bare_in
returns-in-8 c = rw c.in-8.is (simp and-true c.read_bare-in-8.ensures)

pub returns-in_default : goal.returns-in_default
unfolding pick payload_in entry_on entry_base
returns-in_default c =
    let r = c.in_default.in_default-own.rest in
    simp (ne_eqb _ _ r.0.0.0.0.0.0.0.0.0.1, ne_eqb _ _ r.0.0.0.0.0.0.0.0.1, ne_eqb _ _ r.0.0.0.0.0.0.0.1, ne_eqb _ _ r.0.0.0.0.0.0.1, ne_eqb _ _ r.0.0.0.0.0.1, ne_eqb _ _ r.0.0.0.0.1, ne_eqb _ _ r.0.0.0.1, ne_eqb _ _ r.0.0.1, ne_eqb _ _ r.0.1, ne_eqb _ _ r.1) refl

-- the kinds whose payload is a channel
refused : (e : List ℕ) (r : Refusal) (x : Entry) → line_in e ≡ Err r → Err r ≡ cond (eqb (length e) 5) (Ok x) (Err Payload)
unfolding line_in
refused e r x h = by_test (eqb (length e) 5) (λ t. rw t (let f : ◌≡◌ {A = Result ℕ Refusal} (Ok (byte e 4)) (Err r) = rw t at h in cc)) (λ t. rw t (let f : ◌≡◌ {A = Result ℕ Refusal} (Err Payload) (Err r) = rw t at h in cc))

taken : (e : List ℕ) (ch : ℕ) (make : ℕ → Entry) → line_in e ≡ Ok ch → Ok (make ch) ≡ cond (eqb (length e) 5) (Ok (make (byte e 4))) (Err Payload)
unfolding line_in
taken e ch make h = by_test (eqb (length e) 5) (λ t. rw t (let f : ◌≡◌ {A = Result ℕ Refusal} (Ok (byte e 4)) (Ok ch) = rw t at h in cc)) (λ t. rw t (let f : ◌≡◌ {A = Result ℕ Refusal} (Err Payload) (Ok ch) = rw t at h in cc))

pub returns-in_err-read_line-in-5 : goal.returns-in_err-read_line-in-5
unfolding pick payload_in entry_on entry_base
returns-in_err-read_line-in-5 c =
    let p = err_from_is_err_and c.from_residual.result c.from_residual.ensures.1 in
    rw (p.1, p.2, c.in-5.is) (simp and-true (refused c.args.entry.now _ _ (sym c.read_line.ensures ∙ c.in_err-read_line-in-5.was)))

pub returns-in_ok-read_line-in-5 : goal.returns-in_ok-read_line-in-5
unfolding pick payload_in entry_on entry_base
returns-in_ok-read_line-in-5 c =
    rw c.in-5.is (simp and-true (taken c.args.entry.now _ MobileOff (sym c.read_line.ensures ∙ c.in_ok-read_line-in-5.was)))

pub returns-in_err-read_line-in-10 : goal.returns-in_err-read_line-in-10
unfolding pick payload_in entry_on entry_base
returns-in_err-read_line-in-10 c =
    let p = err_from_is_err_and c.from_residual-in_err-read_line-in-10.result c.from_residual-in_err-read_line-in-10.ensures.1 in
    rw (p.1, p.2, c.in-10.is) (simp and-true (refused c.args.entry.now _ _ (sym c.read_line-in-10.ensures ∙ c.in_err-read_line-in-10.was)))

pub returns-in_ok-read_line-in-10 : goal.returns-in_ok-read_line-in-10
unfolding pick payload_in entry_on entry_base
returns-in_ok-read_line-in-10 c =
    rw c.in-10.is (simp and-true (taken c.args.entry.now _ MobileCancel (sym c.read_line-in-10.ensures ∙ c.in_ok-read_line-in-10.was)))
