-- The promises of `specs/Promises.antt`, kept: the one module of these proofs that other crates cite.
-- Assumes nothing.
pub use Rattle.numerals.proofs.DigitLaws.{length_digits, digits-digits, digits-none, digits_suc, digits-split, value_digits, digits_value, value_below, value_found, malformed_found, value_none, spelt-fits, digits-spelt}
