-- The promises of `specs/Promises.antt`, kept: the one module of these proofs that other crates cite.
-- Assumes nothing.
pub use Rattle.bodies.proofs.BodyLaws.{as_contact, no_form, as_telegram, size_is, size-most}
