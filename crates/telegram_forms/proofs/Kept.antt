-- The promises of `specs/Promises.antt`, kept: the one module of these proofs that other crates cite.
-- Assumes nothing.
pub use Rattle.telegram_forms.proofs.PutLaws.{put_digits, put_both, put_caller, put_holder, put_rung, put_called, length-padded, form_put, form_over}
