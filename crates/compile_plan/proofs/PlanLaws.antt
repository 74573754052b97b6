-- Document 01, "Netlist and board machine": what a matrix record that is not declined gives each part of compile, and compile's answer.
-- Assumes nothing.
use Prim.Native.Nat.{ℕ, ◌+◌, ◌≤◌, ◌<◌}
use mathlib.Core.Path.{◌≡◌, refl, ap, ap₂, subst, ◌∙◌}
use mathlib.Core.List.{List, [], ◌++◌, map}
use native.Mathlib.Omega.{arith}
use lib.ListN.{length, length-map}
use Rattle.limits.specs.Limits.{max_rows, positions, max_operations}
use Rattle.layout_rules.specs.declared.Operation.{Operation}
use Rattle.layout_rules.specs.declared.Output.{Output}
use Rattle.layout_rules.specs.Matrix.{matrix_refusal, matrix, rows, columns}
use Rattle.layout_rules.proofs.LittleEndian.{AreBytes}
use Rattle.elimination_rules.specs.Rows.{Row, EachRow, matrix_rows, plain_count}
use Rattle.elimination_rules.specs.Elimination.{Eliminated, shallowest_first, eliminate, elimination, matrix_elimination}
use Rattle.elimination_rules.proofs.Order.{Columns, steps_well_formed}
use Rattle.elimination_rules.proofs.Counts.{steps_plain}
use Rattle.elimination_rows.specs.State.{Ready}
use Rattle.elimination_rows.proofs.Ready.{ready_matrix}
use Rattle.compile_lists.specs.Lists.{operations_list}
use Rattle.compile_plan.specs.declared.eliminated.Eliminated.{Eliminated as Ended}
use Rattle.compile_plan.specs.Planned.{EliminatedOf}
use Rattle.sum_rules.specs.Joins.{divisor_operation}
use Rattle.sum_rules.specs.Shallowest.{order_of_operands, depths_of, sum_operations, sum_outputs}
use Rattle.sum_rules.specs.SumDepth.{EachTerm}
use Rattle.sum_rules.proofs.Sums.{symbols-below, summed_rows-outputs}
use Rattle.compile_rules.specs.Compile.{operations_of, outputs_of, elimination_of}
use Rattle.compile_rules.specs.Limits.{WithinLimits}
use Rattle.compile_rules.proofs.Limits.{rows-columns}
use Rattle.compile_rules.proofs.Counts.{Stepped, length-operations, length-outputs, operations-fewer}
use Rattle.compile_rules.proofs.Compiled.{length-matrix-rows, limits, steps, plain-most}
use Rattle.compile_rules.proofs.Remaining.{remaining_summed}

module _ (bytes : List ℕ) (all : AreBytes bytes) (accepted : matrix_refusal bytes ≡ 0) where
  abbrev n : ℕ
  n = columns bytes

  abbrev first : List Row
  first = matrix_rows positions (matrix bytes)

  abbrev e : Eliminated
  e = elimination_of bytes

  abbrev pub within : WithinLimits positions (rows bytes) (columns bytes) (matrix bytes)
  within = limits bytes all accepted

  pub limited : Columns n (matrix bytes)
  limited = rows-columns positions n (matrix bytes) within.coefficients

  abbrev pub stepped : Stepped n first e
  stepped = steps bytes all accepted

  pub ready : Ready (columns bytes) (matrix_rows positions (matrix bytes))
  ready = ready_matrix n (matrix bytes) limited within.limits.columns-most (omega (arith, within.one_per_row, within.limits.rows-most))

  pub operations-most : length (operations_of (columns bytes) (elimination_of bytes)) ≤ max_operations
  operations-most = omega (arith, operations-fewer n first e stepped, plain-most bytes all accepted)

  pub operations-sum : length (elimination_of bytes).divisors + plain_count (elimination_of bytes).remaining_rows ≤ max_operations
  operations-sum = omega (arith, length-operations n e, operations-most)

  pub replacements-most : (elimination_of bytes).replacements ≤ max_operations
  replacements-most = omega (arith, steps_plain stepped, plain-most bytes all accepted)

  outputs-are : length (outputs_of (columns bytes) (elimination_of bytes)) ≡ rows bytes
  outputs-are = length-outputs n first e stepped ∙ length-matrix-rows positions (matrix bytes) ∙ within.one_per_row

  pub remaining-few : length (elimination_of bytes).remaining_rows ≤ max_rows
  remaining-few = omega (arith, summed_rows-outputs (remaining_summed n e), outputs-are, within.limits.rows-most)

  -- inputs and divisors are all the symbols of the remaining rows
  pub remaining_known : EachRow (EachTerm (λ t. t.symbol < columns bytes + length (elimination_of bytes).divisors)) (elimination_of bytes).remaining_rows
  remaining_known = symbols-below positions (n + length e.divisors) e.remaining_rows (steps_well_formed positions stepped ready.well_formed)

-- the operations of divisors and remaining rows, and the outputs
pub operations-of : (k : ℕ) (end : Eliminated) (made all : List Operation) (remaining : List Row)
    → made ≡ map divisor_operation end.divisors → all ≡ made ++ sum_operations order_of_operands (depths_of k made) remaining → remaining ≡ end.remaining_rows → all ≡ operations_of k end
unfolding operations_of
operations-of k end made all remaining m a r = a ∙ rw (m, r)

pub outputs-of : (k : ℕ) (end : Eliminated) (made : List Operation) (all : List Output) (remaining : List Row)
    → made ≡ map divisor_operation end.divisors → all ≡ sum_outputs order_of_operands (depths_of k made) remaining → remaining ≡ end.remaining_rows → all ≡ outputs_of k end
unfolding outputs_of
outputs-of k end made all remaining m a r = a ∙ rw (m, r)

-- elimination makes at most as many steps as the plain count
enough_steps_lem : (n : ℕ) (first : List Row) (most : ℕ) → most ≡ plain_count first → eliminate (shallowest_first n) most n [] first ≡ elimination (shallowest_first n) n first
unfolding elimination
enough_steps_lem n first most e = ap (λ (k : ℕ). eliminate (shallowest_first n) k n [] first) e

elimination-is : (bytes : List ℕ) → elimination (shallowest_first (columns bytes)) (columns bytes) (matrix_rows positions (matrix bytes)) ≡ elimination_of bytes
unfolding matrix_elimination
elimination-is bytes = refl

-- of the matrix's rows, with as many steps as their plain count, that is the matrix's elimination
pub planned_end : (bytes : List ℕ) (n : ℕ) → n ≡ columns bytes → (first : List Row) → first ≡ matrix_rows positions (matrix bytes) → (most : ℕ) → most ≡ plain_count first
    → (end : Ended) → EliminatedOf n (eliminate (shallowest_first n) most n [] first) end → EliminatedOf n (elimination_of bytes) end
planned_end bytes n is first rows most all end of =
    subst (λ (e : Eliminated). EliminatedOf n e end)
    (enough_steps_lem n first most all ∙ ap₂ (λ (k : ℕ) (rs : List Row). elimination (shallowest_first k) k rs) is rows ∙ elimination-is bytes) of

pub end-made : (bytes : List ℕ) (n : ℕ) (end : Ended) → EliminatedOf n (elimination_of bytes) end → length (operations_list end.operations) ≡ length (elimination_of bytes).divisors
end-made bytes n end of = ap length of.operations ∙ length-map (elimination_of bytes).divisors divisor_operation
