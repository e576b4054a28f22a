-- The promises of `specs/Promises.antt`, kept: the one module of these proofs that other crates cite.
-- Assumes nothing.
pub use Rattle.fields.proofs.FieldLaws.{length-bytes, same_count, read-written, written_read, fields-found, fields-none, fields-spelt, named-spelt}
