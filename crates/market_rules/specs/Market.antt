-- Document 01, "Matrix Market files" and "Why a record was declined": the matrix record of a file, and what read_matrix_market answers.
-- Assumes nothing.
use Rattle.std.specs.Prelude.{ℕ, zero, suc, ◌+◌, ◌*◌, ◌-◌, ◌/◌, ◌%◌, true, false, List, [], ◌++◌, ltb, eqb, ℤ, pos, negsuc, length, get_or, take, drop}
use Rattle.limits.specs.Size.{size_outside}
use Rattle.layout_rules.specs.Matrix.{matrix_record}
use Rattle.layout_rules.specs.Places.{first_records}
use Rattle.market_rules.specs.declared.MarketAnswer.{MarketAnswer}
use Rattle.market_rules.specs.Lines.{lines, line, line_place, leading_count}
use Rattle.market_rules.specs.Forms.{same, first_line, is_comment, is_size, size_rows, size_columns, is_entry, entry_value}

-- ---- the lines of a file

-- how many lines, from the first of them on, are comments
abbrev pub comment_count : List (List ℕ) → ℕ
comment_count ls = leading_count is_comment ls

-- the size line, the first behind the first line and the comments: its index, its place, and the m and n that it says
unfoldable pub size_index : List ℕ → ℕ
size_index text = suc (comment_count (drop 1 (lines text)))

abbrev pub size_place : List ℕ → ℕ
size_place text = line_place text (size_index text)

abbrev pub file_rows : List ℕ → ℕ
file_rows text = size_rows (line text (size_index text))

abbrev pub file_columns : List ℕ → ℕ
file_columns text = size_columns (line text (size_index text))

-- "the first m times n"
abbrev pub entry_count : List ℕ → ℕ
entry_count text = file_rows text * file_columns text

-- the lines behind the size line, and where line k of them starts
abbrev pub entry_lines : List ℕ → List (List ℕ)
entry_lines text = drop (suc (size_index text)) (lines text)

abbrev pub entry_place : List ℕ → ℕ → ℕ
entry_place text k = line_place text (suc (size_index text) + k)

abbrev pub file_entry : List ℕ → ℕ → ℤ
file_entry text k = entry_value (get_or (entry_lines text) k [])

-- ---- the record

-- "two's complement": the number whose two bytes say a coefficient
abbrev pub twos_complement : ℤ → ℕ
twos_complement (pos x) = x
twos_complement (negsuc x) = 65535 - x

-- the record goes row by row, the file column by column: coefficient k stands in row k div n and column k mod n; row i of column j is the
-- file's entry j times m plus i
abbrev pub entry_index : ℕ → ℕ → ℕ → ℕ
entry_index m n k = k % n * m + k / n

abbrev pub coefficient_words : List ℕ → List ℕ
coefficient_words text = first_records (λ k. twos_complement (file_entry text (entry_index (file_rows text) (file_columns text) k))) (entry_count text)

unfoldable pub market_record : List ℕ → List ℕ
market_record text = matrix_record (file_rows text) (file_columns text) (coefficient_words text)

-- ---- the answer

abbrev pub market_refused : ℕ → ℕ → MarketAnswer
market_refused r place = record { refusal = r; place = place; written = 0 }

abbrev pub market_accepted : List ℕ → MarketAnswer
market_accepted text = record { refusal = 0; place = 0; written = length (market_record text) }

-- how many lines, from the first of them on, are entries
abbrev pub leading_entry_count : List (List ℕ) → ℕ
leading_entry_count ls = leading_count is_entry ls

-- 19: one of the first m times n entry lines is not an integer from −32,768 to 32,767, tested line by line; 18: the entries are too few or
-- too many; 6: the buffer, of so many bytes, is shorter than the record
unfoldable pub entries_answer : List ℕ → ℕ → MarketAnswer
entries_answer text room =
    let due = take (entry_count text) (entry_lines text) in
    elim (ltb (leading_entry_count due) (length due)) [
      | true ↦ market_refused 19 (entry_place text (leading_entry_count due))
      | false ↦
          elim (eqb (length (entry_lines text)) (entry_count text)) [
            | false ↦ market_refused 18 (entry_place text (entry_count text))
            | true ↦ elim (ltb room (length (market_record text))) [ true ↦ market_refused 6 0 | false ↦ market_accepted text ]
          ]
    ]

-- 17: the first line or the size line is missing or has another form; 4: m or n outside 1 to 8
unfoldable pub market_answer : List ℕ → ℕ → MarketAnswer
market_answer text room =
    elim (same (line text 0) first_line) [
      | false ↦ market_refused 17 0
      | true ↦
          elim (is_size (line text (size_index text))) [
            | false ↦ market_refused 17 (size_place text)
            | true ↦ elim (size_outside (file_rows text) (file_columns text)) [ true ↦ market_refused 4 (size_place text) | false ↦ entries_answer text room ]
          ]
    ]

-- the buffer afterwards: the record followed by the old bytes, or the old bytes where it is refused
unfoldable pub market_buffer : List ℕ → List ℕ → List ℕ
market_buffer text buffer =
    elim (market_answer text (length buffer)).refusal [
      | suc r ↦ buffer
      | zero ↦ market_record text ++ drop (length (market_record text)) buffer
    ]
