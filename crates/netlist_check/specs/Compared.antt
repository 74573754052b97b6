-- Checking a netlist: what is asked where a row of the matrix is compared with an output, and what comparing all of them answers.
-- Assumes nothing.
use Rattle.std.specs.Prelude.{ℕ, ◌+◌, ◌<◌, List, ℤ, length}
use Rattle.layout_rules.specs.declared.Output.{Output}
use Rattle.layout_rules.specs.Matrix.{coefficient_place, matrix}
use Rattle.layout_rules.specs.Places.{head_at, operations_in, outputs_in}
use Rattle.board_rules.specs.Table.{Small, table_coefficient}
use Rattle.netlist_rules.specs.declared.CheckAnswer.{CheckAnswer}
use Rattle.netlist_rules.specs.Check.{rows_answer}

-- the coefficients of a matrix's row that begins at an index are there, and those of an output's entry are so small that none wraps
pub record RowReady (matrix_bytes : List ℕ) (index n : ℕ) (forms : List ℤ) (o : Output) : Type 0 where
  pub there : (j : ℕ) → j < n → coefficient_place (index + j) + 1 < length matrix_bytes
  pub small : (j : ℕ) → j < n → Small (table_coefficient forms o.symbol j) o.shift

-- 14: the matrix's rows against the outputs of the netlist in the bytes
abbrev pub rows_matched : List ℕ → List ℕ → CheckAnswer
rows_matched matrix_bytes bytes = rows_answer (head_at bytes).n (operations_in bytes) 0 (outputs_in bytes) (matrix matrix_bytes)
