-- `telegram_writer::writer::in_range` meets its contract: each arm answers for its row, and a telegram with no fields is in range.
-- Assumes nothing.
use Rattle.fields.specs.Fields.{all_in}
use Rattle.telegram_writer.proofs.writer.in_range.Goals as goal

pub returns-in-TimeRequest : goal.returns-in-TimeRequest
unfolding all_in
returns-in-TimeRequest c = rw c.in-TimeRequest.is

pub returns-in-OperationRequest : goal.returns-in-OperationRequest
unfolding all_in
returns-in-OperationRequest c = rw c.in-OperationRequest.is

pub returns-in-Call : goal.returns-in-Call
returns-in-Call c = rw c.in-Call.is c.call_in_range.ensures
