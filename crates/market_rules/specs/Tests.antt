-- Document 01, "Matrix Market files" and "Why a record was declined": the forms of lines as statements, and the tests of read_matrix_market
-- in their order, each with the number and the place that are returned where it is the first that fails. Nothing here computes an answer;
-- read_matrix_market is held to this list.
-- Assumes nothing.
use Rattle.std.specs.Prelude.{ℕ, ◌≤◌, ◌<◌, ◌≡◌, ◌⊎◌, List, [], ◌∷◌, ◌++◌, ℤ, pos, negsuc, neg_ℤ, length, get_or, ◌≤ℤ◌}
use Rattle.limits.specs.Size.{SizeLimits}
use Rattle.layout_rules.specs.Tests.{Test, tested, first_tests}
use Rattle.text.specs.Decimal.{digit_byte, decimal_value}
use Rattle.market_rules.specs.Lines.{line_feed, line}
use Rattle.market_rules.specs.Forms.{blank, minus_sign, first_line}
use Rattle.market_rules.specs.Market.{size_index, size_place, file_rows, file_columns, entry_count, entry_lines, entry_place, file_entry, market_record}

-- "An integer is one or more decimal digits, leading zeros allowed."
pub record Says (digits : List ℕ) (value : ℕ) : Type 0 where
  pub one_or_more : 1 ≤ length digits
  pub decimal-digits : (i : ℕ) → i < length digits → (digit_byte 0 ≤ get_or digits i 0) × (get_or digits i 0 ≤ digit_byte 9)
  pub value_said : decimal_value digits ≡ value

-- "a line of m and n with one blank between"
pub record SizeLine (bytes : List ℕ) (m n : ℕ) : Type 0 where
  pub first : List ℕ
  pub second : List ℕ
  pub its_bytes : bytes ≡ first ++ (blank ∷ (second ++ (line_feed ∷ [])))
  pub its_rows : Says first m
  pub its_columns : Says second n

-- a line of an integer "with an optional minus"
pub record SignedLine (bytes : List ℕ) (z : ℤ) : Type 0 where
  pub digits : List ℕ
  pub value : ℕ
  pub its_value : Says digits value
  pub its_sign : ((bytes ≡ digits ++ (line_feed ∷ [])) × (z ≡ pos value)) ⊎ ((bytes ≡ minus_sign ∷ (digits ++ (line_feed ∷ []))) × (z ≡ neg_ℤ (pos value)))

-- "an integer from −32,768 to 32,767"
pub record EntryLine (bytes : List ℕ) (z : ℤ) : Type 0 where
  pub integer : SignedLine bytes z
  pub least : negsuc 32767 ≤ℤ z
  pub most : z ≤ℤ pos 32767

-- 19: one of the lines is not such an integer; a line that is missing is 18's
abbrev pub entry_tests : List ℕ → ℕ → List Test
entry_tests text k = tested 19 (entry_place text k) (k < length (entry_lines text) → EntryLine (get_or (entry_lines text) k []) (file_entry text k)) ∷ []

-- 17: the first line or the size line is missing or has another form; 4: m or n outside 1 to 8; 19 line by line; 18: the entries are too
-- few or too many; 6: the output buffer, of so many bytes, is shorter than the record
unfoldable pub market_tests : List ℕ → ℕ → List Test
market_tests text room =
    tested 17 0 (line text 0 ≡ first_line)
    ∷ tested 17 (size_place text) (SizeLine (line text (size_index text)) (file_rows text) (file_columns text))
    ∷ tested 4 (size_place text) (SizeLimits (file_rows text) (file_columns text))
    ∷ (first_tests (entry_tests text) (entry_count text)
    ++ (tested 18 (entry_place text (entry_count text)) (length (entry_lines text) ≡ entry_count text)
    ∷ tested 6 0 (length (market_record text) ≤ room)
    ∷ []))
