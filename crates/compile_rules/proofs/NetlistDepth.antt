-- Document 01, "Row sums": after any sequence of steps, no way of joining the remaining rows' terms gives a row's output, or the netlist,
-- a smaller depth than the netlist of the matrix has.
-- Assumes nothing.
use Prim.Native.Nat.{ℕ, ◌+◌, ◌≤◌, ◌<◌}
use mathlib.Core.Path.{◌≡◌, refl, sym, subst}
use mathlib.Core.List.{List, ◌++◌, map}
use native.Mathlib.Omega.{arith}
use lib.ListN.{length, get_or, replicate}
use Rattle.layout_rules.specs.declared.Operation.{Operation}
use Rattle.layout_rules.specs.declared.Output.{Output}
use Rattle.layout_rules.specs.Matrix.{matrix_refusal, matrix, rows, columns}
use Rattle.layout_rules.proofs.LittleEndian.{AreBytes}
use Rattle.limits.specs.Limits.{positions}
use Rattle.board_rules.specs.Machine.{depth}
use Rattle.board_rules.proofs.DepthLaws.{depths-append}
use Rattle.elimination_rules.specs.Rows.{Row, WellFormed, EachRow, matrix_rows}
use Rattle.elimination_rules.specs.Elimination.{Eliminated}
use Rattle.elimination_rules.proofs.Order.{matrix_well_formed, steps_well_formed}
use Rattle.sum_rules.specs.Joins.{divisor_operation, zero_output}
use Rattle.sum_rules.specs.Sums.{SummedRows}
use Rattle.sum_rules.specs.Shallowest.{order_of_operands}
use Rattle.sum_rules.specs.SumDepth.{output_depth, EachTerm}
use Rattle.sum_rules.proofs.Sums.{symbols-below}
use Rattle.sum_rules.proofs.RowsDepth.{each-row_shallowest, rows-largest}
use Rattle.compile_rules.specs.Compile.{divisor_depths, row_operations, operations_of, outputs_of, netlist_of, elimination_of, compiled_netlist}
use Rattle.compile_rules.specs.Compiled.{NoneShallower}
use Rattle.compile_rules.proofs.Remaining.{length-divisor-depths}
use Rattle.compile_rules.proofs.Limits.{rows-columns}
use Rattle.compile_rules.proofs.Counts.{Stepped, steps_rows}
use Rattle.compile_rules.proofs.Widths.{depths_with_widths, output_keeps}
use Rattle.compile_rules.proofs.Compiled.{limits, steps, compiled-inputs}

module _ (p n : ℕ) (rows : List Row) (e : Eliminated) (inputs : 1 ≤ length rows → 1 ≤ n) (w : EachRow (WellFormed p n) rows) (stepped : Stepped n rows e) where
  abbrev made : List Operation
  made = map divisor_operation e.divisors

  abbrev ds : List ℕ
  ds = divisor_depths n e

  known : EachRow (EachTerm (λ t. t.symbol < length ds)) e.remaining_rows
  known = subst (λ (k : ℕ). EachRow (EachTerm (λ t. t.symbol < k)) e.remaining_rows) (sym (length-divisor-depths n e))
      (symbols-below p (n + length e.divisors) e.remaining_rows (steps_well_formed p stepped w))

  some : 1 ≤ length e.remaining_rows → 1 ≤ length ds
  some h = omega (arith, length-divisor-depths n e, inputs (omega (arith, steps_rows stepped)))

  module _ {os : List Operation} {outputs : List Output} (s : SummedRows (n + length e.divisors) e.remaining_rows os outputs) where
    summed : SummedRows (length ds) e.remaining_rows os outputs
    summed = subst (λ (k : ℕ). SummedRows k e.remaining_rows os outputs) (sym (length-divisor-depths n e)) s

    row-depth : (i : ℕ) → output_depth (replicate n 0) (operations_of n e) (get_or (outputs_of n e) i zero_output) ≤ output_depth (replicate n 0) (made ++ os) (get_or outputs i zero_output)
    unfolding operations_of outputs_of
    row-depth i = rw (depths-append (replicate n 0) made (row_operations n e), depths-append (replicate n 0) made os)
        (each-row_shallowest order_of_operands ds e.remaining_rows some known summed i)

    whole-depth : depth n (operations_of n e) ≤ depth n (made ++ os)
    unfolding depth operations_of
    whole-depth = rw (depths-append (replicate n 0) made (row_operations n e), depths-append (replicate n 0) made os)
        (rows-largest order_of_operands ds e.remaining_rows known summed)

-- ---- as recorded, with widths

pub none-shallower : (p s m n : ℕ) (rows : List Row) (e : Eliminated) → (1 ≤ length rows → 1 ≤ n) → EachRow (WellFormed p n) rows → Stepped n rows e → NoneShallower n e (netlist_of s m n e)
unfolding netlist_of
none-shallower p s m n rows e inputs w stepped =
    let all : List Operation = operations_of n e in
    record {
      each_row = λ k i. rw (depths_with_widths s n all n all (replicate n 0), output_keeps (λ o. o.symbol) s n all (λ o. refl) (outputs_of n e) i) (row-depth p n rows e inputs w stepped k i);
      netlist = λ k. whole-depth p n rows e inputs w stepped k;
    }

-- of the netlist that compile writes
pub compiled-none-shallower : (s : ℕ) (bytes : List ℕ) → AreBytes bytes → matrix_refusal bytes ≡ 0
    → NoneShallower (columns bytes) (elimination_of bytes) (compiled_netlist s bytes)
compiled-none-shallower s bytes all accepted =
    let within = limits bytes all accepted in
    none-shallower positions s (rows bytes) (columns bytes) (matrix_rows positions (matrix bytes)) (elimination_of bytes)
    (compiled-inputs bytes all accepted)
    (matrix_well_formed positions (columns bytes) (matrix bytes) (rows-columns positions (columns bytes) (matrix bytes) within.coefficients))
    (steps bytes all accepted)
