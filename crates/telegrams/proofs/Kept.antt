-- The promises of `specs/Promises.antt`, kept.
-- Assumes nothing.
pub use Rattle.telegrams.proofs.LineLaws.{line-short}
pub use Rattle.telegrams.proofs.TurnLaws.{turns_print}
pub use Rattle.telegrams.proofs.Samples.{reads, refused_8, refused_9, refused_10, whole_input}
