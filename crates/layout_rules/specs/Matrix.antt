-- Document 01, "Matrix record" and "Why a record was declined": a matrix record's bytes, refusals 1 to 5, and the matrix of a record or of
-- no bytes.
-- Assumes nothing.
use Rattle.std.specs.Prelude.{ℕ, zero, suc, ◌+◌, ◌*◌, ◌≡◌, cond, not, ltb, eqb, ℤ, length, get_or}
use mathlib.Core.List.{List, [], ◌∷◌, flat_map}
use Rattle.limits.specs.Limits.{max_rows, max_columns}
use Rattle.limits.specs.Size.{SizeLimits, size_outside}
use Rattle.layout_rules.specs.Bytes.{little_endian, word, signed_of, record_bytes}

-- "Kind 1, matrix"
abbrev pub matrix_kind : ℕ
matrix_kind = 1

-- "m (1 byte), n (1 byte), each 1 to 8, then m times n coefficients row by row, 2 bytes each, little-endian two's complement": the
-- record of m, n and the numbers that the coefficients' bytes give
abbrev pub matrix_record : ℕ → ℕ → List ℕ → List ℕ
matrix_record m n words = record_bytes matrix_kind (m ∷ n ∷ flat_map little_endian words)

-- m and n, 1 byte each, after length and kind; of no bytes 0: "a bank of no rows and no inputs"
abbrev pub rows : List ℕ → ℕ
rows bytes = get_or bytes 4 0

abbrev pub columns : List ℕ → ℕ
columns bytes = get_or bytes 5 0

-- the coefficients stand behind n, 2 bytes each
abbrev pub coefficient_place : ℕ → ℕ
coefficient_place index = 6 + 2 * index

-- "Length 6 + 2 times m times n"
abbrev pub matrix_length : ℕ → ℕ → ℕ
matrix_length m n = coefficient_place (m * n)

-- "134 bytes always suffice."
abbrev pub longest_record : ℕ
longest_record = matrix_length max_rows max_columns

-- bytes that are a matrix record
pub record IsMatrixRecord (bytes : List ℕ) : Type 0 where
  -- "length (2 bytes, little-endian, counting the whole record), kind (2 bytes, little-endian)"; "Kind 1, matrix"
  pub counted : word bytes 0 ≡ length bytes
  pub kind : word bytes 2 ≡ matrix_kind
  -- "m (1 byte), n (1 byte), each 1 to 8"
  pub limits : SizeLimits (rows bytes) (columns bytes)
  -- "Length 6 + 2 times m times n. Every coefficient is allowed."
  pub size : length bytes ≡ matrix_length (rows bytes) (columns bytes)

-- the first of the refusals 1 to 5 that applies, 0 for none; no bytes are within the limits
unfoldable pub matrix_refusal : List ℕ → ℕ
matrix_refusal bytes =
    cond (eqb (length bytes) 0)
    0
    (cond (ltb (length bytes) 6)
    1
    (cond (not (eqb (word bytes 0) (length bytes)))
    2
    (cond (not (eqb (word bytes 2) matrix_kind))
    3
    (cond (size_outside (rows bytes) (columns bytes))
    4
    (cond (not (eqb (length bytes) (matrix_length (rows bytes) (columns bytes)))) 5 0)))))

-- two's complement of two bytes
unfoldable pub signed_word : ℕ → ℤ
signed_word x = signed_of 16 x

-- the coefficient of an index, in the record's order
unfoldable pub coefficient_at : List ℕ → ℕ → ℤ
coefficient_at bytes index = signed_word (word bytes (coefficient_place index))

-- so many coefficients from an index on
unfoldable pub coefficients_from : List ℕ → ℕ → ℕ → List ℤ
coefficients_from bytes index zero = []
coefficients_from bytes index (suc k) = coefficient_at bytes index ∷ coefficients_from bytes (index + 1) k

-- so many rows of n coefficients from an index on
unfoldable pub rows_from : List ℕ → ℕ → ℕ → ℕ → List (List ℤ)
rows_from bytes n index zero = []
rows_from bytes n index (suc k) = coefficients_from bytes index n ∷ rows_from bytes n (index + n) k

-- m times n coefficients, row by row
unfoldable pub matrix : List ℕ → List (List ℤ)
matrix bytes = rows_from bytes (columns bytes) 0 (rows bytes)
