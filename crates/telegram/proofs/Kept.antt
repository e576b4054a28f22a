-- The promises of `specs/Promises.antt`, kept: the one module of these proofs that other crates cite.
-- Assumes nothing.
pub use Rattle.telegram.proofs.RoundTrip.{reads-back, written_form, one_form}
pub use Rattle.telegram.proofs.SizeLaws.{length-telegram, size-most}
pub use Rattle.telegram.proofs.HeaderLaws.{header_long}
pub use Rattle.telegram.proofs.WriterNumbers.{writer_numbers}
pub use Rattle.telegram.proofs.ReaderNumbers.{reader_numbers}
pub use Rattle.telegram.proofs.OneField.{source_apart}
