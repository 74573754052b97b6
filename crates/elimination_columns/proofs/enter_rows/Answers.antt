-- `elimination_columns::enter_rows` meets its contract. Assumes nothing.
use mathlib.Core.List.{[]}
use native.Mathlib.Omega.{arith}
use lib.ListN.{get_or}
use Rattle.limits.specs.Limits.{term_symbols}
use Rattle.elimination_rows.specs.State.{rows_terms}
use Rattle.elimination_rows.proofs.InSlice.{slice-rows, row_in_slice}
use Rattle.elimination_rows.proofs.Ready.{row_well_formed}
use Rattle.elimination_columns.proofs.Entering.{shaped_start, columns-start, columns_next, columns-end, shaped_terms, terms_within}
use Rattle.elimination_columns.proofs.enter_rows.Goals as goal

pub loop-i-init : goal.loop-i-init
loop-i-init c = rw c.requires.1 (shaped_start, columns-start (rows_terms c.args.rows))

pub enter_row-requires : goal.enter_row-requires
enter_row-requires c =
    let rows = rows_terms c.args.rows in
    let i = c.loop-i.i in
    let few = c.requires.0.few in
    let count = slice-rows c.args.rows c.as_slice-row-items.result.now c.as_slice-row-items.ensures in
    let row = row_in_slice c.args.rows c.as_slice-row-items.result.now c.as_slice-row-items.ensures i c.row-item.result c.row-item.is c.loop-i-test.true in
    (omega arith, rw (c.as_slice.ensures, row) (terms_within (get_or rows i []) (row_well_formed term_symbols rows c.requires.0 i (omega arith))))

pub loop-i-preserved : goal.loop-i-preserved
loop-i-preserved c =
    let rows = rows_terms c.args.rows in
    let l = c.loop-i in
    let few = c.requires.0.few in
    let count = slice-rows c.args.rows c.as_slice-row-items.result.now c.as_slice-row-items.ensures in
    let row = row_in_slice c.args.rows c.as_slice-row-items.result.now c.as_slice-row-items.ensures l.i c.row-item.result c.row-item.is c.loop-i-test.true in
    let formed = row_well_formed term_symbols rows c.requires.0 l.i (omega arith) in
    let within = terms_within (get_or rows l.i []) formed in
    rw (c.enter_row.ensures, c.as_slice.ensures, row) (
      shaped_terms l.i (omega arith) l.columns l.invariant.0 (get_or rows l.i []) within,
      columns_next rows l.i (omega arith) (omega arith) l.columns l.invariant.0 formed.none_twice within l.invariant.1,
    )

pub returns : goal.returns
returns c =
    let l = c.loop-i in
    let count = slice-rows c.args.rows c.as_slice-row-items.result.now c.as_slice-row-items.ensures in
    (columns-end (rows_terms c.args.rows) l.i (omega arith) l.columns l.invariant.1, l.invariant.0.0)
