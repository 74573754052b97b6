-- A negated matrix has a netlist with as many operations and the same depth.
-- Assumes nothing.
use Prim.Native.Nat.{ℕ, ◌+◌, ◌<◌}
use mathlib.Core.Path.{◌≡◌, sym, ap, ap₂, ◌∙◌, subst}
use mathlib.Core.List.{List, map}
use native.Mathlib.Omega.{arith}
use lib.IntN.{ℤ}
use lib.ListN.{length, replicate}
use Rattle.board_rules.specs.Machine.{depths, largest, depth}
use Rattle.board_rules.proofs.DepthLaws.{depths-append}
use Rattle.limits.specs.Limits.{positions}
use Rattle.layout_rules.specs.Matrix.{matrix_refusal, matrix, columns}
use Rattle.layout_rules.proofs.LittleEndian.{AreBytes}
use Rattle.elimination_rules.specs.Rows.{EachRow, matrix_rows, plain_count}
use Rattle.elimination_rules.specs.Elimination.{Eliminated, shallowest_first, matrix_elimination}
use Rattle.elimination_rules.specs.Negated.{negated_matrix, negated_elimination}
use Rattle.elimination_rules.proofs.Order.{Columns}
use Rattle.elimination_rules.proofs.Elimination.{remaining_well_formed}
use Rattle.elimination_rules.proofs.Negated.{rows-negated, plain-negated, matrix-elimination-negated}
use Rattle.sum_rules.specs.Joins.{divisor_operation}
use Rattle.sum_rules.specs.Shallowest.{order_of_operands}
use Rattle.sum_rules.specs.SumDepth.{HasDepth, EachTerm}
use Rattle.sum_rules.proofs.Sums.{symbols-below}
use Rattle.sum_rules.proofs.Negated.{largest-negated}
use Rattle.compile_rules.specs.Compile.{divisor_depths, row_operations, operations_of, netlist_of, elimination_of, compile_accepted}
use Rattle.compile_rules.specs.Compiled.{SameCost}
use Rattle.compile_rules.proofs.Remaining.{length-divisor-depths}
use Rattle.compile_rules.proofs.Limits.{rows-columns}
use Rattle.compile_rules.proofs.Counts.{length-operations}
use Rattle.compile_rules.proofs.Compiled.{limits}

-- ---- operations

eliminated_operations : (n : ℕ) (e : Eliminated) → length (operations_of n (negated_elimination e)) ≡ length (operations_of n e)
eliminated_operations n e = omega (arith, length-operations n (negated_elimination e), length-operations n e, plain-negated e.remaining_rows)

-- ---- depth

-- that of the operations of the rows, behind the divisors'
depth-of-rows : (n : ℕ) (e : Eliminated) → depth n (operations_of n e) ≡ largest (depths (divisor_depths n e) (row_operations n e))
unfolding depth operations_of
depth-of-rows n e = ap largest (depths-append (replicate n 0) (map divisor_operation e.divisors) (row_operations n e))

eliminated_depth : (n : ℕ) (e : Eliminated) → EachRow (EachTerm (HasDepth (divisor_depths n e))) e.remaining_rows
    → depth n (operations_of n (negated_elimination e)) ≡ depth n (operations_of n e)
eliminated_depth n e known =
    depth-of-rows n (negated_elimination e)
    ∙ largest-negated order_of_operands order_of_operands (divisor_depths n e) e.remaining_rows known
    ∙ sym (depth-of-rows n e)

-- ---- of a matrix

module _ (p n : ℕ) (m : List (List ℤ)) where
  -- inputs and divisors have a depth, and no other symbols remain
  remaining_known : Columns n m → EachRow (EachTerm (HasDepth (divisor_depths n (matrix_elimination p n m)))) (matrix_elimination p n m).remaining_rows
  unfolding matrix_elimination
  remaining_known c =
      let e : Eliminated = matrix_elimination p n m in
      subst (λ (k : ℕ). EachRow (EachTerm (λ t. t.symbol < k)) e.remaining_rows) (sym (length-divisor-depths n e))
      (symbols-below p (n + length e.divisors) e.remaining_rows (remaining_well_formed (shallowest_first n) p n m c))

  pub negated-operations : length (operations_of n (matrix_elimination p n (negated_matrix m))) ≡ length (operations_of n (matrix_elimination p n m))
  negated-operations =
      ap (λ (e : Eliminated). length (operations_of n e)) (matrix-elimination-negated p n m)
      ∙ eliminated_operations n (matrix_elimination p n m)

  pub negated-depth : Columns n m → depth n (operations_of n (matrix_elimination p n (negated_matrix m))) ≡ depth n (operations_of n (matrix_elimination p n m))
  negated-depth c =
      ap (λ (e : Eliminated). depth n (operations_of n e)) (matrix-elimination-negated p n m)
      ∙ eliminated_depth n (matrix_elimination p n m) (remaining_known c)

-- ---- of compile's answers to two records

module _ (bytes others : List ℕ) (all : AreBytes bytes) (accepted : matrix_refusal bytes ≡ 0) (same-columns : columns others ≡ columns bytes)
    (of-negated : matrix others ≡ negated_matrix (matrix bytes)) where
  abbrev n : ℕ
  n = columns bytes

  abbrev e : Eliminated
  e = elimination_of bytes

  other_elimination : elimination_of others ≡ negated_elimination e
  other_elimination = ap₂ (matrix_elimination positions) same-columns of-negated ∙ matrix-elimination-negated positions n (matrix bytes)

  pub answer-negated : (s : ℕ) → SameCost (compile_accepted s others) (compile_accepted s bytes)
  unfolding netlist_of
  answer-negated s =
      let in_columns : Columns n (matrix bytes) = rows-columns positions n (matrix bytes) (limits bytes all accepted).coefficients in
      record {
        plain = ap (λ (m : List (List ℤ)). plain_count (matrix_rows positions m)) of-negated
            ∙ ap plain_count (rows-negated positions (matrix bytes)) ∙ plain-negated (matrix_rows positions (matrix bytes));
        divisors = ap (λ (x : Eliminated). length x.divisors) other_elimination;
        replacements = ap (λ (x : Eliminated). x.replacements) other_elimination;
        operations = ap₂ (λ (k : ℕ) (x : Eliminated). length (operations_of k x)) same-columns other_elimination ∙ eliminated_operations n e;
        depth = ap₂ (λ (k : ℕ) (x : Eliminated). depth k (operations_of k x)) same-columns other_elimination
            ∙ eliminated_depth n e (remaining_known positions n (matrix bytes) in_columns);
      }
