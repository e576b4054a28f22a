-- The promises of `specs/Promises.antt`, kept: the one module of these proofs that other crates cite.
-- Assumes nothing.
pub use Rattle.answer_lines.proofs.Room.{lines_room}
pub use Rattle.answer_lines.proofs.Shown.{contact}
