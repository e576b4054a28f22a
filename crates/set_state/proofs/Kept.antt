-- The promises of `specs/Promises.antt`, kept: the one module of these proofs that other crates cite.
-- Assumes nothing.
pub use Rattle.set_state.proofs.Listeners.{listeners_exactly}
pub use Rattle.set_state.proofs.Numbers.{numbered_from_one}
