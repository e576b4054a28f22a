-- What other crates cite of these proofs: the promises on refusals, counts, isolation and handovers, and the laws of `specs/RecordLaws.antt`.
-- Assumes nothing.
pub use Rattle.set_rules.proofs.Answers.{refused, counted, made_new, record_length, space-length, space-append, even_sends, even_all, halves_half, in_halves, gives_as, refusal_leaves, left_as_was, no_room}
pub use Rattle.set_rules.proofs.Rows.{payload_of_kind}
pub use Rattle.set_rules.proofs.Isolation.{isolated}
pub use Rattle.set_rules.proofs.Shape.{length-desks, length-channels}
