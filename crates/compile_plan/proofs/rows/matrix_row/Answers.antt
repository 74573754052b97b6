-- `compile_plan::rows::matrix_row` meets its contract. Assumes nothing.
use native.Mathlib.Omega.{arith}
use Prim.Native.Nat.{ℕ, ◌+◌, ◌-◌, ◌<◌}
use mathlib.Core.Path.{◌≡◌, ap, ap₂, ◌∙◌}
use mathlib.Core.List.{◌++◌}
use native.Mathlib.Numerals.{add-one}
use lib.IntN.{ℤ}
use lib.ListN.{length, length-append}
use mir.Syntax.{w16}
use mir.Val.{to_z, of_z}
use Rattle.limits.specs.Limits.{positions, max_digits}
use Rattle.integers.proofs.Held.{call_result}
use Rattle.digits.specs.Digits.{digits}
use Rattle.layout_rules.specs.Matrix.{coefficient_at, coefficients_from}
use Rattle.elimination_rules.specs.Rows.{column_terms, row_from}
use Rattle.elimination_rows.specs.State.{row_terms}
use Rattle.elimination_rules.proofs.Counts.{column-few}
use Rattle.compile_plan.proofs.RowLaws.{columns_next, columns-end}
use Rattle.compile_plan.proofs.rows.matrix_row.Goals as goal

pub loop-j-init : goal.loop-j-init
loop-j-init c =
    rw c.empty_row-row.ensures (omega arith, omega arith, ap₂ (λ (x k : ℕ). row_from positions 0 (coefficients_from c.args.bytes.now x k)) (omega arith) (omega arith))

pub overflow_add-index : goal.overflow_add-index
overflow_add-index c = omega (arith, c.requires.1 c.loop-j.j c.loop-j-test.true)

pub coefficient-z-requires : goal.coefficient-z-requires
coefficient-z-requires c = c.requires.1 c.loop-j.j c.loop-j-test.true

pub loop-j-preserved : goal.loop-j-preserved
loop-j-preserved c =
    let j = c.loop-j.j in
    let row = row_terms c.loop-j.row in
    let after = row_terms c.add_column.new.row in
    let z : ℤ = to_z w16 (of_z w16 c.coefficient-z.result) in
    let h : j < c.args.n = omega arith in
    let e : after ≡ row ++ column_terms j 0 (digits positions z) = c.add_column.ensures in
    let f : z ≡ coefficient_at c.args.bytes.now (c.args.index + j) = call_result w16 c.coefficient-z.type_inv c.coefficient-z.ensures in
    rw (add-one j) (
      omega arith,
      omega (arith, ap length e, length-append row (column_terms j 0 (digits positions z)), column-few max_digits j z, c.loop-j.invariant.1),
      columns_next positions c.args.bytes.now c.args.index j c.args.n z row after h f e ∙ c.loop-j.invariant.2,
    )

pub returns : goal.returns
returns c =
    columns-end positions c.args.bytes.now c.loop-j.j (c.args.index + c.loop-j.j) (c.args.n - c.loop-j.j) (row_terms c.loop-j.row) (omega arith) ∙ c.loop-j.invariant.2
