-- Document 01, "Matrix record": what stands before the coefficients, which are written after it.
-- Assumes nothing.
use Rattle.std.specs.Prelude.{ℕ, List, [], ◌∷◌, ◌++◌}
use Rattle.layout_rules.specs.Bytes.{little_endian}
use Rattle.layout_rules.specs.Matrix.{matrix_kind, matrix_length}

-- length, kind, m, n
abbrev pub matrix_head : ℕ → ℕ → List ℕ
matrix_head m n = little_endian (matrix_length m n) ++ (little_endian matrix_kind ++ (m ∷ n ∷ []))
