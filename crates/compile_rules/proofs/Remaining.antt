-- Document 01, "Operations and outputs of a matrix": the remaining rows are summed two terms at a time, behind the divisors' operations.
-- Assumes nothing.
use Prim.Native.Nat.{ℕ, ◌+◌}
use mathlib.Core.Path.{◌≡◌, subst}
use mathlib.Core.List.{map}
use native.Mathlib.Omega.{arith}
use lib.ListN.{length, length-map}
use Rattle.elimination_rules.specs.Elimination.{Eliminated}
use Rattle.sum_rules.specs.Joins.{divisor_operation}
use Rattle.sum_rules.specs.Sums.{SummedRows}
use Rattle.sum_rules.specs.Shallowest.{order_of_operands}
use Rattle.sum_rules.proofs.RowSums.{length-depths-of, sums_summed}
use Rattle.compile_rules.specs.Compile.{divisor_depths, row_operations, outputs_of}

-- inputs and divisors each have a depth
pub length-divisor-depths : (n : ℕ) (e : Eliminated) → length (divisor_depths n e) ≡ n + length e.divisors
length-divisor-depths n e =
    omega (arith, length-depths-of n (map divisor_operation e.divisors), length-map e.divisors divisor_operation)

pub remaining_summed : (n : ℕ) (e : Eliminated) → SummedRows (n + length e.divisors) e.remaining_rows (row_operations n e) (outputs_of n e)
unfolding outputs_of
remaining_summed n e =
    subst (λ (k : ℕ). SummedRows k e.remaining_rows (row_operations n e) (outputs_of n e)) (length-divisor-depths n e)
    (sums_summed order_of_operands (divisor_depths n e) e.remaining_rows)
