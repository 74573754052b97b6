-- What read_matrix_market answers, of a result: the bytes written, or the refusal's number and its place.
-- Assumes nothing.
use Rattle.std.specs.Prelude.{ℕ, Result, Ok, Err}
use Rattle.refusals.specs.declared.Refused.{Refused}
use Rattle.refusals.specs.Numbers.{number}
use Rattle.market_rules.specs.declared.MarketAnswer.{MarketAnswer}
use Rattle.market_rules.specs.Market.{market_refused}

abbrev pub answer_of : Result ℕ Refused → MarketAnswer
answer_of (Ok written) = record { refusal = 0; place = 0; written = written }
answer_of (Err refused) = market_refused (number refused.refusal) refused.place
