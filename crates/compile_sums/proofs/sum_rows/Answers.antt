-- `compile_sums::sum_rows` meets its contract. Assumes nothing.
use Rattle.std.proofs.Common.{ap, ◌∙◌, [], ◌∷◌, ◌++◌, arith}
use native.Mathlib.Numerals.{add-one}
use Rattle.layout_rules.specs.declared.Output.{Output}
use Rattle.elimination_rules.specs.Rows.{Row}
use Rattle.elimination_rows.specs.State.{rows_terms}
use Rattle.elimination_rows.proofs.InSlice.{slice-rows, row_in_slice}
use Rattle.compile_lists.specs.Lists.{operations_list, outputs_list}
use Rattle.sum_rules.specs.Shallowest.{order_of_operands, depths_of, sum_of}
use Rattle.compile_sums.proofs.SumLaws.{before-rows, rows-ended, row_room, row_below, before_next_row}
use Rattle.compile_sums.proofs.sum_rows.Goals as goal

pub loop-row-init : goal.loop-row-init
loop-row-init c =
    rw c.no_outputs-outputs.ensures (before-rows c.args.n (operations_list c.args.operations.now) (rows_terms c.args.rows) c.args.depths.now c.requires.holds_depths c.requires.n_le_max_columns.2)

pub sum_row-requires-clause-n_le_max_columns : goal.sum_row-requires-clause-n_le_max_columns
sum_row-requires-clause-n_le_max_columns c =
    let count = slice-rows c.args.rows c.as_slice-row-items.result.now c.as_slice-row-items.ensures in
    rw (row_in_slice c.args.rows c.as_slice-row-items.result.now c.as_slice-row-items.ensures c.loop-row.row-index c.row-item.result c.row-item.is c.loop-row-test.true)
    (c.requires.n_le_max_columns.0, row_room c.loop-row.invariant (omega arith))

pub sum_row-requires-clause-each_term : goal.sum_row-requires-clause-each_term
sum_row-requires-clause-each_term c =
    let count = slice-rows c.args.rows c.as_slice-row-items.result.now c.as_slice-row-items.ensures in
    rw (row_in_slice c.args.rows c.as_slice-row-items.result.now c.as_slice-row-items.ensures c.loop-row.row-index c.row-item.result c.row-item.is c.loop-row-test.true)
    (row_below c.loop-row.invariant (omega arith) c.requires.each_row)

pub push-requires : goal.push-requires
push-requires c =
    let count = slice-rows c.args.rows c.as_slice-row-items.result.now c.as_slice-row-items.ensures in
    (omega arith, omega (arith, c.loop-row.invariant.counted, c.requires.n_le_max_columns.2))

pub loop-row-preserved : goal.loop-row-preserved
loop-row-preserved c =
    let count = slice-rows c.args.rows c.as_slice-row-items.result.now c.as_slice-row-items.ensures in
    let row = row_in_slice c.args.rows c.as_slice-row-items.result.now c.as_slice-row-items.ensures c.loop-row.row-index c.row-item.result c.row-item.is c.loop-row-test.true in
    let ds = depths_of c.args.n (operations_list c.loop-row.operations) in
    let e = c.sum_row.ensures in
    let operations = e.operations_value ∙ ap (λ (r : Row). operations_list c.loop-row.operations ++ (sum_of order_of_operands ds r).operations) row in
    let output = e.output_value ∙ ap (λ (r : Row). (sum_of order_of_operands ds r).output) row in
    let outputs = c.push.ensures ∙ ap (λ (o : Output). outputs_list c.loop-row.outputs ++ (o ∷ [])) output in
    rw (add-one c.loop-row.row-index) (before_next_row c.loop-row.invariant (omega arith) _ _ _ operations outputs e.holds_depths_2)

pub returns-clause-operations_value : goal.returns-clause-operations_value
returns-clause-operations_value c =
    let count = slice-rows c.args.rows c.as_slice-row-items.result.now c.as_slice-row-items.ensures in
    (rows-ended c.loop-row.invariant (omega arith)).0

pub returns-clause-outputs_value : goal.returns-clause-outputs_value
returns-clause-outputs_value c =
    let count = slice-rows c.args.rows c.as_slice-row-items.result.now c.as_slice-row-items.ensures in
    (rows-ended c.loop-row.invariant (omega arith)).1
