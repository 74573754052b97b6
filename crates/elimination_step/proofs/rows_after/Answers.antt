-- `elimination_step::rows_after` meets its contract. Assumes nothing.
use mathlib.Core.Path.{ap, ap₂, ◌∙◌}
use mathlib.Core.List.{List, []}
use native.Mathlib.Omega.{arith}
use lib.ListN.{length, get_or, set, length-map}
use Rattle.std.proofs.lemmas.List.{map-set}
use Rattle.lists.specs.Items.{items_of}
use Rattle.term.specs.declared.Term.{Term}
use Rattle.elimination_rules.specs.Elimination.{row_after}
use Rattle.elimination_rows.specs.State.{row_terms, rows_terms}
use Rattle.elimination_rows.proofs.InSlice.{slice-rows, row_in_slice}
use Rattle.elimination_rows.proofs.Ready.{row_well_formed, row-short}
use Rattle.elimination_step.proofs.Stepping.{partly_start, partly_put, partly_same, partly_end, partly-length, row-after-none}
use Rattle.elimination_step.proofs.rows_after.Goals as goal
use Rattle.elimination_step.proofs.rows_after.Goals.{else-in_row-ne0, then-in_row-ne0}

pub loop-i-init : goal.loop-i-init
loop-i-init c =
    let a = c.args in
    partly_start a.symbol a.d (rows_terms a.rows)

pub row_after-requires : goal.row_after-requires
row_after-requires c =
    let a = c.args in
    let i = c.loop-i.i in
    let terms = rows_terms a.rows in
    let few = c.requires.0.few in
    let count = slice-rows a.rows c.as_slice-row-items.result.now c.as_slice-row-items.ensures in
    let row = row_in_slice a.rows c.as_slice-row-items.result.now c.as_slice-row-items.ensures i c.row-item.result c.row-item.is c.loop-i-test.true in
    rw (c.as_slice.ensures, row) (c.requires.1, c.requires.2, row_well_formed a.symbol terms c.requires.0 i (omega arith), row-short a.symbol terms c.requires.0 i (omega arith), c.requires.3 i (omega arith))

pub put-requires : goal.put-requires
put-requires c =
    let a = c.args in
    let l = c.loop-i in
    let count = slice-rows a.rows c.as_slice-row-items.result.now c.as_slice-row-items.ensures in
    (omega arith, omega (arith, length-map (items_of l.out) row_terms, ap (length {A = List Term}) l.invariant, partly-length a.symbol a.d (rows_terms a.rows) l.i (omega arith)))

pub loop-i-preserved : goal.loop-i-preserved
loop-i-preserved c =
    let a = c.args in
    let l = c.loop-i in
    let terms = rows_terms a.rows in
    let few = c.requires.0.few in
    let count = slice-rows a.rows c.as_slice-row-items.result.now c.as_slice-row-items.ensures in
    let row = row_in_slice a.rows c.as_slice-row-items.result.now c.as_slice-row-items.ensures l.i c.row-item.result c.row-item.is c.loop-i-test.true in
    elim c.if-in_row-ne0.branch [
      | then-in_row-ne0 w ↦ let after = w.row_after.ensures ∙ ap (row_after a.symbol a.d) (w.as_slice.ensures ∙ row) in
          rw (w.out-is, w.put.ensures) (map-set row_terms (items_of l.out) l.i w.row_after.result
          ∙ ap₂ (λ (rows : List (List Term)) (r : List Term). set rows l.i r) l.invariant after ∙ partly_put a.symbol a.d terms l.i (omega arith))
      | else-in_row-ne0 w ↦ let formed = row_well_formed a.symbol terms c.requires.0 l.i (omega arith) in
          let none = row-after-none a.symbol a.d c.requires.2 (get_or terms l.i []) formed (get_or a.taken l.i 0) (c.requires.3 l.i (omega arith)) (omega (arith, w.if-in_row-ne0.false)) in
          rw w.out-is (l.invariant ∙ partly_same a.symbol a.d terms l.i (omega arith) none)
    ]

pub returns : goal.returns
returns c =
    let a = c.args in
    let l = c.loop-i in
    let count = slice-rows a.rows c.as_slice-row-items.result.now c.as_slice-row-items.ensures in
    l.invariant ∙ partly_end a.symbol a.d (rows_terms a.rows) l.i (omega arith)
