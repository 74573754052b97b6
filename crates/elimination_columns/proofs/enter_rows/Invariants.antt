-- The columns are those of the rows so far.
use lib.ListN.{take}
use Rattle.elimination_masks.specs.Columns.{ColumnsOf}
use Rattle.elimination_rows.specs.State.{rows_terms}
use Rattle.elimination_columns.proofs.Entering.{Shaped}
use Rattle.elimination_columns.proofs.enter_rows.Given as goal

abbrev pub invariant-loop-i : goal.invariant-loop-i
invariant-loop-i l = Shaped l.columns × ColumnsOf (take l.i (rows_terms l.fn.rows)) l.columns
