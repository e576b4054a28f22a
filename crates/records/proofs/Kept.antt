-- The promises of `specs/Promises.antt`, kept: the one module of these proofs that other crates cite.
-- Assumes nothing.
pub use Rattle.records.proofs.Writing.{written_none, start, next, room, all_put}
pub use Rattle.records.proofs.SendLaws.{nobody}
pub use Rattle.records.proofs.Emission.{emitted, put_first}
