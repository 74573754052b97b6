-- Document 01, "Matrix Market files": the forms of a file's lines, and the numbers that they say.
-- Assumes nothing.
use Rattle.std.specs.Prelude.{ℕ, ◌+◌, ◌-◌, Bool, true, false, cond, ◌&&◌, List, [], ◌∷◌, ◌++◌, leb, ltb, eqb, ℤ, pos, neg_ℤ, length, get_or, drop}
use Rattle.text.specs.Decimal.{digit_byte, decimal_value}
use Rattle.text.specs.Text.{ascii}
use Rattle.market_rules.specs.Lines.{line_feed}

-- ---- bytes

abbrev pub blank : ℕ
blank = 32

abbrev pub percent : ℕ
percent = 37

abbrev pub minus_sign : ℕ
minus_sign = 45

-- the same bytes
unfoldable pub same : List ℕ → List ℕ → Bool
same [] [] = true
same [] (y ∷ ys) = false
same (x ∷ xs) [] = false
same (x ∷ xs) (y ∷ ys) = eqb x y && same xs ys

-- ---- the first line, and comments

-- "The first line is `%%MatrixMarket matrix array integer general`, byte for byte", with its line feed
abbrev pub first_line : List ℕ
first_line = ascii "%%MatrixMarket matrix array integer general\n"

-- "lines that start with %"; "A line without its line feed has another form, and is no comment."
abbrev pub is_comment : List ℕ → Bool
is_comment bytes = eqb (get_or bytes 0 0) percent && eqb (get_or bytes (length bytes - 1) 0) line_feed

-- ---- integers: "one or more decimal digits, leading zeros allowed"

abbrev pub is_digit : ℕ → Bool
is_digit b = leb (digit_byte 0) b && leb b (digit_byte 9)

-- the digits that bytes begin with
unfoldable pub leading_digits : List ℕ → List ℕ
leading_digits [] = []
leading_digits (b ∷ bytes) = elim (is_digit b) [ true ↦ b ∷ leading_digits bytes | false ↦ [] ]

abbrev pub nonempty : List ℕ → Bool
nonempty bytes = ltb 0 (length bytes)

-- ---- the size line: "a line of m and n with one blank between"

abbrev pub row_digits : List ℕ → List ℕ
row_digits bytes = leading_digits bytes

abbrev pub column_digits : List ℕ → List ℕ
column_digits bytes = leading_digits (drop (length (row_digits bytes) + 1) bytes)

unfoldable pub is_size : List ℕ → Bool
is_size bytes =
    nonempty (row_digits bytes) && (nonempty (column_digits bytes)
    && same bytes (row_digits bytes ++ (blank ∷ (column_digits bytes ++ (line_feed ∷ [])))))

-- m and n
abbrev pub size_rows : List ℕ → ℕ
size_rows bytes = decimal_value (row_digits bytes)

abbrev pub size_columns : List ℕ → ℕ
size_columns bytes = decimal_value (column_digits bytes)

-- ---- entries: "one entry a line, column by column, with an optional minus"

abbrev pub is_negative : List ℕ → Bool
is_negative bytes = eqb (get_or bytes 0 0) minus_sign

-- what follows the optional minus
abbrev pub unsigned : List ℕ → List ℕ
unsigned bytes = drop (cond (is_negative bytes) 1 0) bytes

abbrev pub entry_digits : List ℕ → List ℕ
entry_digits bytes = leading_digits (unsigned bytes)

-- "an integer from −32,768 to 32,767"
unfoldable pub is_entry : List ℕ → Bool
is_entry bytes =
    nonempty (entry_digits bytes) && (same (unsigned bytes) (entry_digits bytes ++ (line_feed ∷ []))
    && leb (decimal_value (entry_digits bytes)) (cond (is_negative bytes) 32768 32767))

unfoldable pub entry_value : List ℕ → ℤ
entry_value bytes = let value = pos (decimal_value (entry_digits bytes)) in cond (is_negative bytes) (neg_ℤ value) value
