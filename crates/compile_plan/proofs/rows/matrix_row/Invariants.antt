-- `compile_plan::rows::matrix_row` meets its contract. Assumes nothing.
use Prim.Native.Nat.{◌+◌, ◌*◌, ◌-◌, ◌≤◌}
use mathlib.Core.Path.{◌≡◌}
use mathlib.Core.List.{◌++◌}
use lib.ListN.{length}
use Rattle.limits.specs.Limits.{positions, max_digits}
use Rattle.layout_rules.specs.Matrix.{coefficients_from}
use Rattle.elimination_rules.specs.Rows.{row_from}
use Rattle.elimination_rows.specs.State.{row_terms}
use Rattle.compile_plan.proofs.rows.matrix_row.Given as goal

abbrev pub invariant-loop-j : goal.invariant-loop-j
invariant-loop-j l =
    (l.j ≤ l.n) × (length (row_terms l.row) ≤ max_digits * l.j)
    × (row_terms l.row ++ row_from positions l.j (coefficients_from l.bytes (l.index + l.j) (l.n - l.j)) ≡ row_from positions 0 (coefficients_from l.bytes l.index l.n))
