-- `board_tables::append_form` meets its contract. What is left to write is the operation's row from column j on, and the rows below keep what
-- they held. Assumes nothing.
use mathlib.Core.Path.{◌≡◌}
use Prim.Native.Nat.{ℕ, ◌+◌, ◌*◌, ◌-◌, ◌≤◌, ◌<◌}
use mathlib.Core.List.{List}
use lib.IntN.{ℤ, pos}
use lib.ListN.{get_or, drop}
use lib.Seq.{sets}
use Rattle.limits.specs.Limits.{max_columns}
use Rattle.board_rules.specs.Table.{operation_row}
use Rattle.board_tables.proofs.append_form.Given as goal

-- the rows below the symbol's are as they were
abbrev pub Kept : ℕ → List ℤ → List ℤ → Type 0
Kept symbol table₀ table = (i : ℕ) → i < symbol * max_columns → get_or table i (pos 0) ≡ get_or table₀ i (pos 0)

abbrev pub invariant-loop-j : goal.invariant-loop-j
invariant-loop-j l =
    (l.j ≤ l.n) × ((sets l.table (l.symbol * max_columns + l.j) (drop l.j (operation_row l.initial.table l.n l.o)) ≡ sets l.initial.table (l.symbol * max_columns) (operation_row l.initial.table l.n l.o)) × Kept l.symbol l.initial.table l.table)

abbrev pub decreases-loop-j : goal.decreases-loop-j
decreases-loop-j l = l.n - l.j
