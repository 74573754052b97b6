-- Document 01, "Matrix record": a matrix within the limits, over any number of bits of a coefficient (16 in document 01).
-- Assumes nothing.
use Rattle.std.specs.Prelude.{ℕ, ◌≡◌, List, [], ◌∷◌, ℤ, length}
use Rattle.limits.specs.Size.{BankSize}
use Rattle.board_rules.specs.Width.{Within}

-- coefficients of so many bits: with 16, from −32,768 to 32,767
abbrev pub CoefficientsWithin : ℕ → List ℤ → Type 0
CoefficientsWithin bits [] = Unit {0}
CoefficientsWithin bits (z ∷ zs) = Within bits z × CoefficientsWithin bits zs

-- rows of n coefficients
abbrev pub RowsWithin : ℕ → ℕ → List (List ℤ) → Type 0
RowsWithin bits n [] = Unit {0}
RowsWithin bits n (row ∷ rows) = ((length row ≡ n) × CoefficientsWithin bits row) × RowsWithin bits n rows

-- m and n are within the limits, and there are m rows of n coefficients
pub record WithinLimits (bits m n : ℕ) (matrix : List (List ℤ)) : Type 0 where
  pub limits : BankSize m n
  pub one_per_row : length matrix ≡ m
  pub coefficients : RowsWithin bits n matrix
