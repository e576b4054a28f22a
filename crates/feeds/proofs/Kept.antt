-- The promises of `specs/Promises.antt`, kept: the one module of these proofs that other crates cite.
-- Assumes nothing.
pub use Rattle.feeds.proofs.Cuts.{with_one, not_with_one, first_entry}
pub use Rattle.feeds.proofs.TurnLaws.{first-answer, turns_print}
pub use Rattle.feeds.proofs.Listed.{whole-listing}
