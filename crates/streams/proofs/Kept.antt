-- The promises of `specs/Promises.antt`, kept: the one module of these proofs that other crates cite.
-- Assumes nothing.
pub use Rattle.streams.proofs.Hands.{hands-first, nothing_left}
pub use Rattle.streams.proofs.Known.{gives, none_left, sends_on, put_behind}
pub use Rattle.streams.proofs.Stands.{turn_goes, turn_ends, printed}
