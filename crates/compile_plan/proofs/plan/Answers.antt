-- `compile_plan::plan` meets its contract. Assumes nothing.
use native.Mathlib.Omega.{arith}
use Prim.Native.Nat.{ℕ, ◌≤◌}
use mathlib.Core.Path.{◌≡◌, ap, ◌∙◌}
use mathlib.Core.List.{List}
use lib.ListN.{length}
use Rattle.limits.specs.Limits.{max_columns}
use Rattle.layout_rules.specs.Matrix.{matrix_refusal, columns}
use Rattle.layout_rules.proofs.LittleEndian.{AreBytes}
use Rattle.layout_rules.proofs.MatrixRefusal.{accepted-matrix}
use Rattle.elimination_rules.specs.Rows.{Row, plain_count}
use Rattle.elimination_rows.specs.State.{rows_terms}
use Rattle.compile_lists.specs.Lists.{operations_list}
use Rattle.compile_rules.specs.Compile.{operations_of, outputs_of, elimination_of}
use Rattle.compile_rules.proofs.Compiled.{plain-most}
use Rattle.compile_plan.proofs.PlanLaws.{ready, operations-sum, remaining-few, remaining_known, operations-of, outputs-of, planned_end, end-made}
use Rattle.std.proofs.Common.{rules}
use Rattle.compile_plan.proofs.plan.Goals as goal

columns-few : (bytes : List ℕ) → matrix_refusal bytes ≡ 0 → (n : ℕ) → n ≡ columns bytes → n ≤ max_columns
columns-few bytes due n is = omega (arith, is, (accepted-matrix bytes due).limits.columns-most)

pub plain_count-plain-requires : goal.plain_count-plain-requires
plain_count-plain-requires c =
    let all : AreBytes c.args.matrix.now = search rules in
    omega (arith, ap plain_count c.matrix_rows-first.ensures, plain-most c.args.matrix.now all c.requires)

pub eliminate_rows-end-requires : goal.eliminate_rows-end-requires
eliminate_rows-end-requires c =
    let bytes = c.args.matrix.now in
    let all : AreBytes bytes = search rules in (
      rw (c.column_count-n.ensures, c.matrix_rows-first.ensures) (ready bytes all c.requires),
      columns-few bytes c.requires c.column_count-n.result c.column_count-n.ensures,
      omega (arith, ap plain_count c.matrix_rows-first.ensures, plain-most bytes all c.requires),
    )

pub sum_rows-outputs-requires : goal.sum_rows-outputs-requires
sum_rows-outputs-requires c =
    let bytes = c.args.matrix.now in
    let all : AreBytes bytes = search rules in
    let n = c.column_count-n.ensures in
    let end = c.eliminate_rows-end in
    let e = planned_end bytes c.column_count-n.result n _ c.matrix_rows-first.ensures _ c.plain_count-plain.ensures end.result end.ensures.eliminated_of in
    let made = end-made bytes c.column_count-n.result end.result e in
    record {
      n_le_max_columns = (
        columns-few bytes c.requires c.column_count-n.result n,
        omega (arith, ap (length {A = Row}) e.rows, remaining-few bytes all c.requires),
        omega (arith, made, ap plain_count e.rows, operations-sum bytes all c.requires),
      );
      each_row = rw (n, e.rows, made) (remaining_known bytes all c.requires);
      holds_depths = e.depths;
    }

pub returns : goal.returns
returns c =
    let bytes = c.args.matrix.now in
    let k = c.column_count-n.result in
    let n = c.column_count-n.ensures in
    let end = c.eliminate_rows-end in
    let e = planned_end bytes k n _ c.matrix_rows-first.ensures _ c.plain_count-plain.ensures end.result end.ensures.eliminated_of in
    let os = operations_list end.result.operations in
    let remaining = rows_terms end.result.rows in
    record {
      operations = operations-of k (elimination_of bytes) os _ remaining e.operations c.sum_rows-outputs.ensures.operations_value e.rows ∙ ap (λ (x : ℕ). operations_of x (elimination_of bytes)) n;
      outputs = outputs-of k (elimination_of bytes) os _ remaining e.operations c.sum_rows-outputs.ensures.outputs_value e.rows ∙ ap (λ (x : ℕ). outputs_of x (elimination_of bytes)) n;
      plain = c.plain_count-plain.ensures ∙ ap plain_count c.matrix_rows-first.ensures;
      divisors = c.count-divisors.ensures.number ∙ end-made bytes k end.result e;
      replacements = e.replacements;
    }
