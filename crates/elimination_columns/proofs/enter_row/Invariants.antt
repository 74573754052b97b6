-- The terms behind those that are left are entered.
use Rattle.std.proofs.Common.{◌≡◌, ◌++◌, length}
use lib.ListN.{drop}
use Rattle.elimination_columns.specs.Entered.{entered_terms}
use Rattle.elimination_columns.proofs.enter_row.Given as goal

abbrev pub invariant-loop-t : goal.invariant-loop-t
invariant-loop-t l =
    let left = l.t-iterator.iter.rest.now in
    (left ++ drop (length left) l.row ≡ l.row) × (l.columns ≡ entered_terms l.i l.initial.columns (drop (length left) l.row))
