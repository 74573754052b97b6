-- `compile_sums::plain_count` meets its contract. Assumes nothing.
use Rattle.std.proofs.Common.{◌≡◌, ◌+◌, drop}
use Rattle.elimination_rules.specs.Rows.{plain_count}
use Rattle.elimination_rows.specs.State.{rows_terms}
use Rattle.compile_sums.proofs.plain_count.Given as goal

abbrev pub invariant-loop-row : goal.invariant-loop-row
invariant-loop-row l = l.plain + plain_count (drop l.row-index (rows_terms l.fn.rows)) ≡ plain_count (rows_terms l.fn.rows)
