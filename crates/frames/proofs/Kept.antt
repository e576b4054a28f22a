-- The promises of `specs/Promises.antt`, kept: the one module of these proofs that other crates cite.
-- Assumes nothing.
pub use Rattle.frames.proofs.FrameLaws.{same_frames, first_frame, size-within, size-some, size-long, size_cuts, size-stays, size-full}
