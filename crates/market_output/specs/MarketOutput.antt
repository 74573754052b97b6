-- Document 01, "Programs": what the program matrix-market writes for a Matrix Market file.
-- Assumes nothing.
use Rattle.std.specs.Prelude.{ℕ, zero, suc, List}
use Rattle.layout_rules.specs.Matrix.{longest_record}
use Rattle.text.specs.Text.{refused_line}
use Rattle.text.specs.Wrote.{text_in}
use Rattle.market_rules.specs.Market.{market_record, market_answer}

-- the record's bytes, or the refusal's line; there is room for every record, so it is 17, 4, 19 or 18
unfoldable pub market_output : List ℕ → List ℕ
market_output file =
    let answer = market_answer file longest_record in
    elim answer.refusal [ suc r ↦ refused_line (suc r) answer.place | zero ↦ market_record file ]

-- nothing where fewer bytes are lent than suffice for every record
abbrev pub market_output_in : ℕ → List ℕ → List ℕ
market_output_in lent file = text_in longest_record lent (market_output file)
