-- `compile_sums::sum_rows` meets its contract. Assumes nothing.
use Rattle.elimination_rows.specs.State.{rows_terms}
use Rattle.compile_lists.specs.Lists.{operations_list, outputs_list}
use Rattle.compile_sums.proofs.SumLaws.{BeforeRow}
use Rattle.compile_sums.proofs.sum_rows.Given as goal

abbrev pub invariant-loop-row : goal.invariant-loop-row
invariant-loop-row l = BeforeRow l.n (operations_list l.initial.operations) (rows_terms l.fn.rows) l.row-index (operations_list l.operations) (outputs_list l.outputs) l.depths
