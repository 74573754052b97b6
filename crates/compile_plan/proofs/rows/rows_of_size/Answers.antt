-- `compile_plan::rows::rows_of_size` meets its contract. Assumes nothing.
use native.Mathlib.Omega.{arith}
use Prim.Native.Nat.{ℕ, suc, ◌+◌, ◌*◌, ◌-◌, ◌≤◌, ◌<◌}
use mathlib.Core.Path.{ap, ap₂, ◌∙◌}
use mathlib.Core.Path.{◌≡◌}
use mathlib.Core.List.{[], ◌∷◌, ◌++◌, map}
use native.Mathlib.Numerals.{add-one}
use native.Mathlib.Nat.{mul-le-mul, mul-le-mul_right}
use lib.ListN.{length, length-append, length-map}
use mathlib.Core.List.{map-append}
use Rattle.lists.specs.Items.{items_of}
use Rattle.limits.specs.Limits.{positions}
use Rattle.layout_rules.specs.Matrix.{rows_from}
use Rattle.elimination_rules.specs.Rows.{Row, matrix_rows}
use Rattle.elimination_rows.specs.State.{row_terms, rows_terms}
use Rattle.compile_plan.proofs.RowLaws.{rows_next_lem, rows_end}
use Rattle.compile_plan.proofs.rows.rows_of_size.Goals as goal

pub loop-i-init : goal.loop-i-init
loop-i-init c =
    rw c.empty_rows-rows.ensures (omega arith, omega arith, ap₂ (λ (x k : ℕ). matrix_rows positions (rows_from c.args.bytes.now c.args.n x k)) (omega arith) (omega arith))

-- the row is one of m, and these are few
pub overflow_mul-i : goal.overflow_mul-i
overflow_mul-i c = omega (arith, mul-le-mul_right c.args.n c.loop-i-test.true, mul-le-mul c.requires.0 c.requires.1)

pub matrix_row-requires : goal.matrix_row-requires
matrix_row-requires c =
    let within : suc c.loop-i.i * c.args.n ≤ c.args.m * c.args.n = mul-le-mul_right c.args.n c.loop-i-test.true in
    (c.requires.1, λ j h. c.requires.2 (c.loop-i.i * c.args.n + j) (omega (arith, within)))

pub push-requires : goal.push-requires
push-requires c = (omega arith, omega (arith, length-map (items_of c.loop-i.rows) row_terms, c.loop-i.invariant.1, c.requires.0))

pub loop-i-preserved : goal.loop-i-preserved
loop-i-preserved c =
    let i = c.loop-i.i in
    let out = rows_terms c.loop-i.rows in
    let after = rows_terms c.push.new.self in
    let h : i < c.args.m = omega arith in
    let grown : after ≡ out ++ (row_terms c.matrix_row.result ∷ []) = ap (map row_terms) c.push.ensures ∙ map-append row_terms (items_of c.loop-i.rows) (c.matrix_row.result ∷ []) in
    rw (add-one i) (
      omega arith,
      omega (arith, ap (length {A = Row}) grown, length-append out (row_terms c.matrix_row.result ∷ []), c.loop-i.invariant.1),
      rows_next_lem positions c.args.bytes.now c.args.n i c.args.m (row_terms c.matrix_row.result) out after h c.matrix_row.ensures grown ∙ c.loop-i.invariant.2,
    )

pub returns : goal.returns
returns c =
    rows_end positions c.args.bytes.now c.args.n (c.loop-i.i * c.args.n) (c.args.m - c.loop-i.i) (rows_terms c.loop-i.rows) (omega arith) ∙ c.loop-i.invariant.2
