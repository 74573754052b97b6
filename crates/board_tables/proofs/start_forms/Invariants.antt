-- `board_tables::start_forms` meets its contract. What is left to write is the rows from i on. Assumes nothing.
use mathlib.Core.Path.{◌≡◌}
use Prim.Native.Nat.{◌-◌, ◌≤◌}
use Rattle.board_rules.specs.Table.{unit_rows_from}
use Rattle.board_tables.proofs.start_forms.Given as goal

abbrev pub invariant-loop-i : goal.invariant-loop-i
invariant-loop-i l = (l.i ≤ l.n) × (unit_rows_from l.n l.i (l.n - l.i) l.table ≡ unit_rows_from l.n 0 l.n l.initial.table)

abbrev pub decreases-loop-i : goal.decreases-loop-i
decreases-loop-i l = l.n - l.i
