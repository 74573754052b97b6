-- `compile_plan::rows::rows_of_size` meets its contract. Assumes nothing.
use Prim.Native.Nat.{◌*◌, ◌-◌, ◌≤◌}
use mathlib.Core.Path.{◌≡◌}
use mathlib.Core.List.{◌++◌}
use lib.ListN.{length}
use Rattle.limits.specs.Limits.{positions}
use Rattle.layout_rules.specs.Matrix.{rows_from}
use Rattle.elimination_rules.specs.Rows.{matrix_rows}
use Rattle.elimination_rows.specs.State.{rows_terms}
use Rattle.compile_plan.proofs.rows.rows_of_size.Given as goal

abbrev pub invariant-loop-i : goal.invariant-loop-i
invariant-loop-i l =
    (l.i ≤ l.m) × (length (rows_terms l.rows) ≡ l.i) × (rows_terms l.rows ++ matrix_rows positions (rows_from l.bytes l.n (l.i * l.n) (l.m - l.i)) ≡ matrix_rows positions (rows_from l.bytes l.n 0 l.m))
