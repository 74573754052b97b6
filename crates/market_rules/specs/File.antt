-- Document 01, "Matrix Market files", for a reader: which texts are a file of which matrix. It is said from the matrix's side, by the ways to
-- spell it, and needs none of the definitions by which read_matrix_market takes a text apart.
-- Assumes nothing.
use Rattle.std.specs.Prelude.{ℕ, ◌*◌, ◌/◌, ◌%◌, ◌<◌, ◌≡◌, ◌⊎◌, ℤ, pos, neg_ℤ, length, get_or, replicate}
use mathlib.Core.List.{List, [], ◌∷◌, ◌++◌, flatten}
use Rattle.layout_rules.specs.Matrix.{rows, columns, matrix, IsMatrixRecord}
use Rattle.text.specs.Decimal.{digit_byte, number}
use Rattle.market_rules.specs.Lines.{line_feed}
use Rattle.market_rules.specs.Forms.{blank, percent, minus_sign, first_line}

-- any number of zeros, then the number
pub record Spells (bytes : List ℕ) (value : ℕ) : Type 0 where
  pub zeros : ℕ
  pub its_bytes : bytes ≡ replicate zeros (digit_byte 0) ++ number value

-- an integer: without a sign one that is not negative, with a minus one that is not positive, so 0 also as -0
pub record SpellsSigned (bytes : List ℕ) (z : ℤ) : Type 0 where
  pub digits : List ℕ
  pub value : ℕ
  pub its_value : Spells digits value
  pub its_sign : ((bytes ≡ digits) × (z ≡ pos value)) ⊎ ((bytes ≡ minus_sign ∷ digits) × (z ≡ neg_ℤ (pos value)))

-- a comment: %, bytes without a line feed, a line feed
pub record Comment (bytes : List ℕ) : Type 0 where
  pub rest : List ℕ
  pub its_bytes : bytes ≡ percent ∷ (rest ++ (line_feed ∷ []))
  pub one_line : (i : ℕ) → i < length rest → get_or rest i 0 ≡ line_feed → ⊥

-- "a line of m and n with one blank between"
pub record SizeSpelled (bytes : List ℕ) (m n : ℕ) : Type 0 where
  pub first : List ℕ
  pub second : List ℕ
  pub its_rows : Spells first m
  pub its_columns : Spells second n
  pub its_bytes : bytes ≡ first ++ (blank ∷ (second ++ (line_feed ∷ [])))

-- "one entry a line"
pub record EntrySpelled (bytes : List ℕ) (z : ℤ) : Type 0 where
  pub spelled : List ℕ
  pub its_integer : SpellsSigned spelled z
  pub its_bytes : bytes ≡ spelled ++ (line_feed ∷ [])

-- a text is a file of the matrix of a matrix record
pub record FileOf (text bytes : List ℕ) : Type 0 where
  pub are-bytes : (i : ℕ) → get_or bytes i 0 < 256
  pub its_record : IsMatrixRecord bytes
  pub comments : List (List ℕ)
  pub size : List ℕ
  pub entries : List (List ℕ)
  pub its_text : text ≡ first_line ++ (flatten comments ++ (size ++ flatten entries))
  pub each_comment : (k : ℕ) → k < length comments → Comment (get_or comments k [])
  pub its_size : SizeSpelled size (rows bytes) (columns bytes)
  pub all-entries : length entries ≡ rows bytes * columns bytes
  -- "column by column": entry k is row k mod m of column k div m
  pub each_entry : (k : ℕ) → k < rows bytes * columns bytes
      → EntrySpelled (get_or entries k []) (get_or (get_or (matrix bytes) (k % rows bytes) []) (k / rows bytes) (pos 0))
