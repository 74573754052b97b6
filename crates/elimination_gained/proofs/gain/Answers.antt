-- `elimination_gained::gain` meets its contract. Assumes nothing.
use mathlib.Core.Path.{ap, ◌∙◌}
use mathlib.Core.List.{List, [], ◌++◌}
use native.Mathlib.Omega.{arith}
use lib.ListN.{get_or}
use Rattle.elimination_rules.specs.Rows.{Row}
use Rattle.elimination_rules.proofs.Order.{each_row}
use Rattle.elimination_rows.specs.State.{rows_terms}
use Rattle.elimination_rows.proofs.InSlice.{slice-rows, row_in_slice}
use Rattle.elimination_rows.proofs.Members.{member_at}
use Rattle.elimination_gained.specs.Gained.{columns_gained}
use Rattle.elimination_gained.proofs.Adding.{adding_room, adding_next, adding_end}
use Rattle.elimination_gained.proofs.Pairs.{earlier_next, new_left, rows_left, rows_next_lem, rows_end}
use Rattle.elimination_gained.proofs.gain.Goals as goal

pub invariant_of-before-clause-inside : goal.invariant_of-before-clause-inside
invariant_of-before-clause-inside c =
    let few = c.requires.0.few in
    let count = slice-rows c.args.rows c.as_slice-row-items.result.now c.as_slice-row-items.ensures in
    omega arith

pub gain_row-requires : goal.gain_row-requires
gain_row-requires c =
    let a = c.args in
    let l = c.loop-i in
    let rows : List Row = rows_terms a.rows in
    let count = slice-rows a.rows c.as_slice-row-items.result.now c.as_slice-row-items.ensures in
    let row = row_in_slice a.rows c.as_slice-row-items.result.now c.as_slice-row-items.ensures l.i c.row-item.result c.row-item.is c.loop-i-test.true in
    let next = rows_next_lem a.symbol rows l.i (omega arith) in
    let there = member_at rows l.i [] (omega arith) in
    rw (c.as_slice.ensures, row) (
      each_row _ rows c.requires.0.well_formed (get_or rows l.i []) there,
      adding_room a.columns.now a.kept.now (rows_left a.symbol rows 0) l.kept _ l.invariant.1 _ _ next c.requires.1,
    )

pub loop-i-preserved : goal.loop-i-preserved
loop-i-preserved c =
    let a = c.args in
    let l = c.loop-i in
    let rows : List Row = rows_terms a.rows in
    let count = slice-rows a.rows c.as_slice-row-items.result.now c.as_slice-row-items.ensures in
    let row = row_in_slice a.rows c.as_slice-row-items.result.now c.as_slice-row-items.ensures l.i c.row-item.result c.row-item.is c.loop-i-test.true in
    let few = c.requires.0.few in
    let next = rows_next_lem a.symbol rows l.i (omega arith) in (
      earlier_next l.i l.masks l.invariant.0 (omega (arith, few)),
      adding_next a.columns.now a.kept.now (rows_left a.symbol rows 0) l.kept _ l.invariant.1 (new_left a.symbol l.i (get_or rows l.i []) 0) _ next c.gain_row.new.kept
          (c.gain_row.ensures ∙ ap (λ (r : Row). l.kept ++ columns_gained a.columns.now (new_left a.symbol l.i r 0)) (c.as_slice.ensures ∙ row)),
    )

pub returns : goal.returns
returns c =
    let a = c.args in
    let l = c.loop-i in
    let rows : List Row = rows_terms a.rows in
    let count = slice-rows a.rows c.as_slice-row-items.result.now c.as_slice-row-items.ensures in
    adding_end a.columns.now a.kept.now (rows_left a.symbol rows 0) l.kept _ l.invariant.1 (rows_end a.symbol rows l.i (omega arith))
