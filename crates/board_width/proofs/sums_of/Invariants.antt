-- `board_width::sums_of` meets its contract. What is left to sum is the columns from j on. Assumes nothing.
use mathlib.Core.Path.{◌≡◌}
use Prim.Native.Nat.{◌+◌, ◌-◌, ◌≤◌}
use Rattle.board_rules.specs.Width.{positives, negatives}
use Rattle.board_rules.specs.Table.{table_coefficient, each_column_from, each_column}
use Rattle.board_width.proofs.sums_of.Given as goal

abbrev pub invariant-loop-j : goal.invariant-loop-j
invariant-loop-j l =
    (l.j ≤ l.n)
    × ((l.positives + positives (each_column_from l.j (l.n - l.j) (table_coefficient l.table l.symbol)) ≡ positives (each_column l.n (table_coefficient l.table l.symbol)))
    × (l.negatives + negatives (each_column_from l.j (l.n - l.j) (table_coefficient l.table l.symbol)) ≡ negatives (each_column l.n (table_coefficient l.table l.symbol))))

abbrev pub decreases-loop-j : goal.decreases-loop-j
decreases-loop-j l = l.n - l.j
