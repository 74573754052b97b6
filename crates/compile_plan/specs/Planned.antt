-- What is worked out of a matrix before anything is written: elimination's end, and the operations, outputs and counts of compile.
-- Assumes nothing.
use Rattle.std.specs.Prelude.{ℕ, ◌≡◌, List, map, length}
use Rattle.limits.specs.Limits.{positions}
use Rattle.elimination_rules.specs.Rows.{matrix_rows, plain_count}
use Rattle.elimination_rules.specs.Elimination as rules
use Rattle.elimination_rows.specs.State.{rows_terms}
use Rattle.layout_rules.specs.Matrix.{matrix, columns}
use Rattle.compile_plan.specs.declared.eliminated.Eliminated.{Eliminated}
use Rattle.compile_plan.specs.declared.Planned.{Planned}
use Rattle.compile_lists.specs.Lists.{operations_list, outputs_list}
use Rattle.board_rules.specs.Table.{HoldsDepths}
use Rattle.sum_rules.specs.Joins.{divisor_operation}
use Rattle.compile_rules.specs.Compile.{operations_of, outputs_of, elimination_of}

-- elimination's end by value: one operation per divisor, the depths of n inputs and these, the pairs replaced, the remaining rows
pub record EliminatedOf (n : ℕ) (e : rules.Eliminated) (r : Eliminated) : Type 0 where
  pub operations : operations_list r.operations ≡ map divisor_operation e.divisors
  pub depths : HoldsDepths n (operations_list r.operations) r.depths
  pub replacements : r.replacements ≡ e.replacements
  pub rows : rows_terms r.rows ≡ e.remaining_rows

-- what compile writes and counts, widths aside
pub record PlannedOf (bytes : List ℕ) (p : Planned) : Type 0 where
  pub operations : operations_list p.operations ≡ operations_of (columns bytes) (elimination_of bytes)
  pub outputs : outputs_list p.outputs ≡ outputs_of (columns bytes) (elimination_of bytes)
  pub plain : p.plain ≡ plain_count (matrix_rows positions (matrix bytes))
  pub divisors : p.divisors ≡ length (elimination_of bytes).divisors
  pub replacements : p.replacements ≡ (elimination_of bytes).replacements
