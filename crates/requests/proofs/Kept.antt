-- The promise of `specs/Promises.antt`, kept: the one module of these proofs that other crates cite.
-- Assumes nothing.
pub use Rattle.requests.proofs.Asked.{foreign_refused}
