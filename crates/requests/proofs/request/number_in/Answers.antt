-- `requests::request::number_in` meets its contract, case by case.
-- Assumes nothing.
use mathlib.Core.Path.{refl}
use borrow.Author.Rules.{rules}
use Rattle.requests.proofs.request.number_in.Goals as goal

pub enum_told-1 : goal.enum_told-1
enum_told-1 c = search rules

pub returns-in-Some : goal.returns-in-Some
returns-in-Some c = rw c.in-Some.is c.new.ensures

pub returns-in-None : goal.returns-in-None
returns-in-None c = rw c.in-None.is refl
