-- `board_tables::start_form` meets its contract. What is left to write is the unit vector from column j on. Assumes nothing.
use mathlib.Core.Path.{◌≡◌}
use Prim.Native.Nat.{◌+◌, ◌*◌, ◌-◌, ◌≤◌}
use lib.ListN.{drop}
use lib.Seq.{sets}
use Rattle.limits.specs.Limits.{max_columns}
use Rattle.board_rules.specs.Machine.{unit}
use Rattle.board_tables.proofs.start_form.Given as goal

abbrev pub invariant-loop-j : goal.invariant-loop-j
invariant-loop-j l = (l.j ≤ l.n) × (sets l.table (l.symbol * max_columns + l.j) (drop l.j (unit l.n l.symbol)) ≡ sets l.initial.table (l.symbol * max_columns) (unit l.n l.symbol))

abbrev pub decreases-loop-j : goal.decreases-loop-j
decreases-loop-j l = l.n - l.j
