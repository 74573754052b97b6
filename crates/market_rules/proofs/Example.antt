-- Document 01, "Matrix Market files": the example's file and its record, by computation, and two of its changes.
-- Assumes nothing.
use Prim.Native.Nat.{ℕ}
use mathlib.Core.Path.{◌≡◌, refl}
use mathlib.Core.List.{List, [], ◌∷◌, ◌++◌, flat_map, flatten}
use Rattle.layout_rules.specs.Matrix.{longest_record}
use Rattle.layout_rules.specs.Places.{first_records}
use Rattle.text.specs.Decimal.{value_behind}
use Rattle.text.specs.Text.{ascii}
use Rattle.market_rules.specs.Lines.{lines, leading_count}
use Rattle.market_rules.specs.Forms.{same, first_line, leading_digits, is_size, is_entry, entry_value}
use Rattle.market_rules.specs.Market.{size_index, market_record, market_refused, market_accepted, entries_answer, market_answer}

abbrev file_with : List ℕ → List ℕ
file_with behind = first_line ++ (ascii "% row 3, -3\n" ++ behind)

abbrev file : List ℕ
file = file_with (ascii "1 2\n3\n-003\n")

example_answer : market_answer file longest_record ≡ market_accepted file
unfolding market_answer entries_answer size_index lines leading_count same leading_digits is_size is_entry value_behind first_records flat_map flatten market_record
example_answer = refl

example_record : market_record file ≡ 10 ∷ 0 ∷ 1 ∷ 0 ∷ 1 ∷ 2 ∷ 3 ∷ 0 ∷ 253 ∷ 255 ∷ []
unfolding size_index lines leading_count same leading_digits is_size is_entry entry_value value_behind first_records flat_map market_record
example_record = refl

-- a bad line among too few, and a size of many digits
bad_among-few : market_answer (file_with (ascii "2 2\n3\nx\n")) longest_record ≡ market_refused 19 62
unfolding market_answer entries_answer size_index lines leading_count same leading_digits is_size is_entry value_behind first_records flat_map flatten market_record
bad_among-few = refl

many_digits : market_answer (file_with (ascii "1 99999999999999999999\n3\n-003\n")) longest_record ≡ market_refused 4 56
unfolding market_answer size_index lines leading_count same leading_digits is_size value_behind flatten
many_digits = refl
