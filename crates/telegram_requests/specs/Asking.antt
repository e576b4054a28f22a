-- What a desk's telegram asks, as the code holds it: an answer to the rows 8 to 10.
use Rattle.std.specs.Prelude.{ℕ, cond, eqb, Result, Ok, Err}
use Rattle.telegram.specs.Telegram.{Reading}
use Rattle.set_rules.specs.Refusals.{code_is, identifier_is, asked_by}
use Rattle.set_state.specs.declared.state.Request.{Request}
use Rattle.set_state.specs.declared.state.Request.TheVariants.{OfLink as LinkIs, OnChannel as ChannelIs, AnswersRing as RingIs, Foreign}
use Rattle.telegram_requests.specs.declared.request.Asked.{Asked}
use Rattle.telegram_requests.specs.declared.request.Asked.TheVariants.{OfLink, OfLine}
use Rattle.telegram_requests.specs.declared.request.LineRequest.{LineRequest}
use Rattle.telegram_requests.specs.declared.request.LineRequest.TheVariants.{OnChannel, AnswersRing}

-- the code of the channel that is asked about
abbrev pub code_of : LineRequest → ℕ
code_of (OnChannel ch n v) = ch
code_of (AnswersRing m) = m.channel

-- what a request asks; one that no desk sends is 9
abbrev pub asking : Request → Result Asked ℕ
asking (LinkIs q) = Ok (OfLink q)
asking (ChannelIs ch n v) = Ok (OfLine (OnChannel ch n v))
asking (RingIs m) = Ok (OfLine (AnswersRing m))
asking Foreign = Err 9

-- why a telegram that does not read is refused
abbrev pub unread_as : ℕ → Reading → ℕ
unread_as k r = cond (code_is k r) (cond (identifier_is r) 10 9) 8

-- what the telegram of desk d, whose code is k, asks
abbrev pub telegram_asked : ℕ → ℕ → Reading → Result Asked ℕ
telegram_asked d k (Ok t) = cond (eqb t.code k) (asking (asked_by d t.message)) (Err 8)
telegram_asked d k (Err e) = Err (unread_as k (Err e))
