-- The promises of `specs/Promises.antt`, kept: the one module of these proofs that other crates cite.
-- Assumes nothing.
use Rattle.std.specs.Prelude.{Ok, Err}
use Rattle.requests.specs.Asking.{seen}
use Rattle.changes.specs.Changes.{set_with}
use Rattle.changes.specs.Promises.{RefusedAs, LinkedAs}
use Rattle.changes.proofs.Rules as rules
pub use Rattle.changes.proofs.Heard.{same-space, same-records}

pub refused_as : RefusedAs
refused_as planned ds n cs k e (Ok x) found c = rules.refused_as planned ds n cs k e x found c
refused_as planned ds n cs k e (Err r) found c = rules.unread_as (seen planned ds n found c) (set_with planned ds n cs k) e r

pub linked_as : LinkedAs
linked_as = rules.linked_as
