-- `telegram_reader::reader::read_header` meets its contract: the tests in the order of `header_ok`.
-- Assumes nothing.
use mathlib.Core.List.{[], ◌∷◌}
use mathlib.Core.Bool.{true, false}
use mathlib.Core.Path.{◌≡◌, sym, ◌∙◌}
use lib.ListN.{length, take, drop}
use lib.Dec.{eqb, lit≤}
use borrow.Author.Tests.{le-leb, lt-leb, eq-eqb, ne_eqb}
use Rattle.fields.specs.Fields.{length4, code, values_in}
use Rattle.fields.proofs.Kept.{fields-found, fields-none}
use Rattle.telegram.specs.Telegram.{nth, heading, header_ok}
use Rattle.telegram_reader.proofs.reader.read_header.Goals as goal

pub returns-then-s-lt16 : goal.returns-then-s-lt16
unfolding header_ok
returns-then-s-lt16 c = simp (lt-leb _ _ c.if-s-lt16.true)

pub returns-then-s-ne68 : goal.returns-then-s-ne68
unfolding header_ok
returns-then-s-ne68 c = simp (le-leb _ _ c.if-s-lt16.false, ne_eqb _ _ c.if-s-ne68.true)

pub returns-then-s-ne86 : goal.returns-then-s-ne86
unfolding header_ok
returns-then-s-ne86 c = simp (le-leb _ _ c.if-s-lt16.false, eq-eqb _ _ c.if-s-ne68.false, ne_eqb _ _ c.if-s-ne86.true)

pub returns-in_err-v : goal.returns-in_err-v
unfolding header_ok
returns-in_err-v c =
    let f = fields-none (length4 ∷ code ∷ []) (take 8 (drop 2 c.args.s.now)) (sym c.in_err-v.ensures) (lit≤ tt) in
    c.from_residual.ensures ∙ simp (le-leb _ _ c.if-s-lt16.false, eq-eqb _ _ c.if-s-ne68.false, eq-eqb _ _ c.if-s-ne86.false, f)

pub returns-then-v-s : goal.returns-then-v-s
unfolding header_ok values_in
returns-then-v-s c =
    let s = c.args.s.now in
    let f = fields-found (length4 ∷ code ∷ []) (take 8 (drop 2 s)) c.in_ok-v.v (sym c.in_ok-v.ensures) in
    let v : nth c.in_ok-v.v 0 ≡ nth (heading s) 0 = rw f.1 in
    let n : eqb (nth (heading s) 0) (length s) ≡ false = ne_eqb _ _ (λ q. c.if-v-s.true (v ∙ q)) in
    simp (le-leb _ _ c.if-s-lt16.false, eq-eqb _ _ c.if-s-ne68.false, eq-eqb _ _ c.if-s-ne86.false, f.0, n)

pub returns : goal.returns
unfolding header_ok values_in
returns c =
    let s = c.args.s.now in
    let f = fields-found (length4 ∷ code ∷ []) (take 8 (drop 2 s)) c.in_ok-v.v (sym c.in_ok-v.ensures) in
    let v : nth c.in_ok-v.v 0 ≡ nth (heading s) 0 = rw f.1 in
    let n : eqb (nth (heading s) 0) (length s) ≡ true = eq-eqb _ _ (sym v ∙ c.if-v-s.false) in
    simp (le-leb _ _ c.if-s-lt16.false, eq-eqb _ _ c.if-s-ne68.false, eq-eqb _ _ c.if-s-ne86.false, f.0, n, f.1)
