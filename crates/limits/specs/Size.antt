-- Document 01, "Matrix record": "m (1 byte), n (1 byte), each 1 to 8", as a statement and as the test of refusals 4 and 9; the m and n
-- of any bank within the limits, the one without rows included; and the sample widths, likewise for refusals 9 and 20.
-- Assumes nothing.
use Rattle.std.specs.Prelude.{ℕ, ◌≤◌, ◌≡◌, Bool, ◌||◌, ◌↔◌, ltb}
use Rattle.limits.specs.Limits.{max_rows, max_columns, least_sample_width, most_sample_width}

-- of a matrix record
pub record SizeLimits (m n : ℕ) : Type 0 where
  pub rows-least : 1 ≤ m
  pub rows-most : m ≤ max_rows
  pub columns-least : 1 ≤ n
  pub columns-most : n ≤ max_columns

-- of a bank: as in a matrix record, or "m and n of 0 only together"
pub record BankSize (m n : ℕ) : Type 0 where
  pub rows-most : m ≤ max_rows
  pub columns-most : n ≤ max_columns
  pub together : (m ≡ 0) ↔ (n ≡ 0)

-- outside 1 to most
abbrev pub outside : ℕ → ℕ → Bool
outside most x = ltb x 1 || ltb most x

-- "m or n outside 1 to 8"
abbrev pub size_outside : ℕ → ℕ → Bool
size_outside m n = outside max_rows m || outside max_columns n

-- "a sample width from 8 to 24"
pub record SampleWidth (s : ℕ) : Type 0 where
  pub least : least_sample_width ≤ s
  pub most : s ≤ most_sample_width

-- "not 8 to 24"
abbrev pub sample_width_outside : ℕ → Bool
sample_width_outside s = ltb s least_sample_width || ltb most_sample_width s
