-- `compile_sums::sum_row` meets its contract. Assumes nothing.
use Rattle.std.proofs.Common.{◌≡◌, length, drop}
use Rattle.limits.specs.Limits.{max_terms}
use Rattle.elimination_rows.specs.State.{row_terms}
use Rattle.compile_lists.specs.Lists.{operations_list}
use Rattle.compile_sums.proofs.JoinLaws.{BeforeJoin}
use Rattle.compile_sums.proofs.sum_row.Given as goal

abbrev pub invariant-loop-at : goal.invariant-loop-at
invariant-loop-at l =
    (length l.terms ≡ max_terms)
    × BeforeJoin l.n (operations_list l.initial.operations) (row_terms l.fn.row) (operations_list l.operations) l.depths (drop l.at l.terms)
