-- What code goes through from a place on, and what it writes of it: the comments as bytes, the entries read, and the record of numbers.
-- Assumes nothing.
use Rattle.std.specs.Prelude.{ℕ, zero, suc, ◌*◌, ◌<◌, ◌≡◌, true, false, List, [], ◌++◌, ltb, length, get_or, take, drop}
use Rattle.layout_rules.specs.Matrix.{matrix_record}
use Rattle.layout_rules.specs.Places.{first_records}
use Rattle.market_rules.specs.declared.MarketAnswer.{MarketAnswer}
use Rattle.market_rules.specs.Lines.{lines, line_place}
use Rattle.market_rules.specs.Forms.{entry_value}
use Rattle.market_rules.specs.Market.{comment_count, leading_entry_count, twos_complement, entry_index, market_record, market_refused, entries_answer}
use Rattle.market.specs.declared.Entries.{Entries}

-- how many bytes the comments have that a text begins with
abbrev pub comment_bytes : List ℕ → ℕ
comment_bytes text = line_place text (comment_count (lines text))

-- the entries read of a text's lines, at most as many as there is room for: how many, how many bytes their lines have, and the numbers
-- whose two bytes say them
pub record EntriesRead (text words : List ℕ) (read : Entries) : Type 0 where
  pub counted : read.count ≡ leading_entry_count (take (length words) (lines text))
  pub placed : read.bytes ≡ line_place text read.count
  pub told : (k : ℕ) → k < read.count → get_or words k 0 ≡ twos_complement (entry_value (get_or (lines text) k []))

-- the record of entries' numbers, which go column by column
unfoldable pub record_of : ℕ → ℕ → List ℕ → List ℕ
record_of m n words = matrix_record m n (first_records (λ k. get_or words (entry_index m n k) 0) (m * n))

-- 6: the buffer is shorter than the record
unfoldable pub record_answer : List ℕ → ℕ → MarketAnswer
record_answer bytes room = elim (ltb room (length bytes)) [ true ↦ market_refused 6 0 | false ↦ record { refusal = 0; place = 0; written = length bytes } ]

unfoldable pub record_buffer : List ℕ → List ℕ → List ℕ
record_buffer bytes buffer = elim (ltb (length buffer) (length bytes)) [ true ↦ buffer | false ↦ bytes ++ drop (length bytes) buffer ]

-- the buffer once the entries are answered: the file's record followed by the old bytes, or the old bytes
unfoldable pub entries_buffer : List ℕ → List ℕ → List ℕ
entries_buffer text buffer =
    elim (entries_answer text (length buffer)).refusal [ suc r ↦ buffer | zero ↦ market_record text ++ drop (length (market_record text)) buffer ]
