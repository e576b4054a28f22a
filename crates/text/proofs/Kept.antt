-- The promises of `specs/Promises.antt`, kept: the one module of these proofs that other crates cite.
-- Assumes nothing.
pub use Rattle.text.proofs.PutLaws.{also, puts_none, puts-length}
pub use Rattle.text.proofs.DecimalLaws.{decimal-some, decimal-length, decimal_value, decimal-digits, decimal-first}
