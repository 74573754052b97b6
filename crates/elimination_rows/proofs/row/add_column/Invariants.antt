-- The terms of the digits from the position on are left to add.
use mathlib.Core.Path.{◌≡◌}
use mathlib.Core.List.{◌++◌}
use lib.ListN.{drop}
use Rattle.elimination_rules.specs.Rows.{column_terms}
use Rattle.elimination_rows.specs.State.{row_terms}
use Rattle.elimination_rows.proofs.row.add_column.Given as goal

abbrev pub invariant-loop-position : goal.invariant-loop-position
invariant-loop-position l =
    row_terms l.row ++ column_terms l.column l.position (drop l.position l.digit-items) ≡ row_terms l.initial.row ++ column_terms l.column 0 l.digit-items
