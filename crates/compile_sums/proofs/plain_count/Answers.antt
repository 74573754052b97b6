-- `compile_sums::plain_count` meets its contract. Assumes nothing.
use Rattle.std.proofs.Common.{◌≡◌, ap, suc, ◌+◌, length, drop, arith}
use native.Mathlib.Numerals.{add-one}
use Rattle.elimination_rules.specs.Rows.{plain_count}
use Rattle.elimination_rows.specs.State.{rows_terms}
use Rattle.elimination_rows.proofs.InSlice.{slice-rows, row_in_slice}
use Rattle.compile_sums.proofs.SumLaws.{plain_next, plain_end}
use Rattle.compile_sums.proofs.plain_count.Goals as goal

-- one row of those that are left
turn : (c : goal.After-saturating_sub-plain) → (let rows = rows_terms c.args.rows in
    (c.loop-row.plain + c.saturating_sub-plain.result) + plain_count (drop (suc c.loop-row.row-index) rows) ≡ plain_count rows)
turn c =
    let rows = rows_terms c.args.rows in
    let i = c.loop-row.row-index in
    let count = slice-rows c.args.rows c.as_slice-row-items.result.now c.as_slice-row-items.ensures in
    let row = ap (length {A = _}) (row_in_slice c.args.rows c.as_slice-row-items.result.now c.as_slice-row-items.ensures i c.row-item.result c.row-item.is c.loop-row-test.true) in
    omega (arith, c.saturating_sub-plain.ensures, c.count.ensures.number, row, plain_next rows i (omega arith), c.loop-row.invariant)

pub overflow_add-plain : goal.overflow_add-plain
overflow_add-plain c = omega (arith, turn c)

pub loop-row-preserved : goal.loop-row-preserved
loop-row-preserved c = rw (add-one c.loop-row.row-index) (turn c)

pub returns : goal.returns
returns c =
    let count = slice-rows c.args.rows c.as_slice-row-items.result.now c.as_slice-row-items.ensures in
    omega (arith, plain_end (rows_terms c.args.rows) c.loop-row.row-index (omega arith), c.loop-row.invariant)
