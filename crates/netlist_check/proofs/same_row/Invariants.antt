-- `netlist_check::same_row` meets its contract. What is left to compare is the columns from j on. Assumes nothing.
use mathlib.Core.Path.{◌≡◌}
use Prim.Native.Nat.{ℕ, ◌+◌, ◌-◌, ◌≤◌}
use mathlib.Core.List.{List}
use lib.IntN.{ℤ}
use Rattle.layout_rules.specs.declared.Output.{Output}
use Rattle.layout_rules.specs.Matrix.{coefficients_from}
use Rattle.board_rules.specs.Machine.{shifted, with_sign}
use Rattle.board_rules.specs.Table.{table_coefficient, each_column_from}
use Rattle.netlist_rules.specs.Check.{same_row}
use Rattle.netlist_check.proofs.same_row.Given as goal

-- an output's coefficient of column j
abbrev pub f : List ℤ → Output → ℕ → ℤ
f forms o j = with_sign o.sign (shifted (table_coefficient forms o.symbol j) o.shift)

abbrev pub invariant-loop-j : goal.invariant-loop-j
invariant-loop-j l =
    (l.j ≤ l.n)
    × (same_row (each_column_from l.j (l.n - l.j) (f l.forms l.o)) (coefficients_from l.matrix (l.index + l.j) (l.n - l.j))
    ≡ same_row (each_column_from 0 l.n (f l.forms l.o)) (coefficients_from l.matrix l.index l.n))

abbrev pub decreases-loop-j : goal.decreases-loop-j
decreases-loop-j l = l.n - l.j
