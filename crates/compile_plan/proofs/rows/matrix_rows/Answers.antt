-- `compile_plan::rows::matrix_rows` meets its contract. Assumes nothing.
use native.Mathlib.Omega.{arith}
use Prim.Native.Nat.{ℕ, ◌*◌}
use mathlib.Core.Path.{ap₂, ◌∙◌}
use Rattle.limits.specs.Limits.{positions}
use Rattle.layout_rules.specs.Matrix.{rows_from, matrix}
use Rattle.layout_rules.proofs.MatrixRefusal.{accepted-matrix}
use Rattle.elimination_rules.specs.Rows.{matrix_rows}
use Rattle.compile_plan.proofs.rows.matrix_rows.Goals as goal

pub rows_of_size-requires : goal.rows_of_size-requires
rows_of_size-requires c =
    let accepted = accepted-matrix c.args.bytes.now c.requires in (
      omega (arith, c.row_count-m.ensures, accepted.limits.rows-most),
      omega (arith, c.column_count-n.ensures, accepted.limits.columns-most),
      λ index h. accepted.there index (omega (arith, ap₂ ◌*◌ c.row_count-m.ensures c.column_count-n.ensures)),
    )

pub returns : goal.returns
unfolding matrix
returns c =
    c.rows_of_size.ensures ∙ ap₂ (λ (m n : ℕ). matrix_rows positions (rows_from c.args.bytes.now n 0 m)) c.row_count-m.ensures c.column_count-n.ensures
