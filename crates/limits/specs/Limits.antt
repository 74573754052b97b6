-- Document 01's limits under the names that contracts and definitions cite, each once. What is not stated by a number is worked out from
-- those that are; proofs/Numbers.antt says that these come to document 01's own.
-- Assumes nothing.
use Rattle.std.specs.Prelude.{ℕ, ◌+◌, ◌*◌, ◌-◌, ◌/◌}

-- ---- stated

-- "m (1 byte), n (1 byte), each 1 to 8"
abbrev pub max_rows : ℕ
max_rows = 8

abbrev pub max_columns : ℕ
max_columns = 8

-- "Positions run 0 to 15"
abbrev pub positions : ℕ
positions = 16

-- "a sample width from 8 to 24"
abbrev pub least_sample_width : ℕ
least_sample_width = 8

abbrev pub most_sample_width : ℕ
most_sample_width = 24

-- "a head of kind 2 states no width: its samples have 16 bits"
abbrev pub unstated_width : ℕ
unstated_width = 16

-- "operations (2 bytes, at most 504)"
abbrev pub max_operations : ℕ
max_operations = 504

-- "widths read are at most 44"
abbrev pub max_width : ℕ
max_width = 44

-- so many bits hold the number of a column
abbrev pub column_bits : ℕ
column_bits = 3

-- ---- worked out

-- "Shifts are 0 to 15", and so are exponents
abbrev pub max_shift : ℕ
max_shift = positions - 1

-- "at most 8 digits are nonzero": no two of them are neighbours
abbrev pub max_digits : ℕ
max_digits = (positions + 1) / 2

-- the most terms of a row
abbrev pub max_terms : ℕ
max_terms = max_columns * max_digits

-- the most pairs of terms in all rows
abbrev pub max_pairs : ℕ
max_pairs = max_rows * (max_terms * (max_terms - 1) / 2)

-- "Divisors number at most 252": each takes the place of at least two operations
abbrev pub max_divisors : ℕ
max_divisors = max_operations / 2

-- the symbols of terms in rows, inputs and divisors: "highest symbol 259"
abbrev pub term_symbols : ℕ
term_symbols = max_columns + max_divisors

-- the most symbols of a netlist: inputs and operations
abbrev pub max_symbols : ℕ
max_symbols = max_columns + max_operations

-- "compiled ones at most 19 more than the sample width"
abbrev pub max_compiled_width : ℕ → ℕ
max_compiled_width s = positions + s + column_bits
