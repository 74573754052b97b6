-- Document 01, "Row sums", again, in the form that code takes: the terms that a join leaves are in order already, and only its result is
-- put into its place.
-- Assumes nothing.
use Rattle.std.specs.Prelude.{ℕ, zero, suc, List, [], ◌∷◌, length}
use Rattle.elimination_rules.specs.Rows.{Row}
use Rattle.sum_rules.specs.Joins.{joined_term, term_output, zero_output}
use Rattle.sum_rules.specs.Shallowest.{OperandOrder, first_operand, join_of, RowSum, depths_with, placed}

unfoldable pub placing_joins_of : OperandOrder → ℕ → List ℕ → Row → RowSum
unfolding placed
placing_joins_of order zero ds r = record { operations = []; output = zero_output }
placing_joins_of order (suc most) ds [] = record { operations = []; output = zero_output }
placing_joins_of order (suc most) ds (t ∷ []) = record { operations = []; output = term_output t }
placing_joins_of order (suc most) ds (t ∷ u ∷ r) =
    let o = join_of order t u in
    let after = depths_with ds o in
    let others = placing_joins_of order most after (placed after (joined_term (length ds) (first_operand order t u)) r) in
    record { operations = o ∷ others.operations; output = others.output }
