-- `elimination_masks::columns::differ` meets its contract. Assumes nothing.
use mathlib.Core.Path.{◌∙◌}
use native.Mathlib.Omega.{arith}
use Rattle.elimination_masks.proofs.Turns.{differ_next, differ-end}
use Rattle.elimination_masks.proofs.columns.differ.Goals as goal

pub loop-i-preserved : goal.loop-i-preserved
loop-i-preserved c =
    let h = c in
    let a = h.args in
    differ_next a.d a.x a.y a.x_after a.y_after h.loop-i.i h.loop-i.changed c.occurrences_in-before.result c.occurrences_in-after.result (omega arith)
    c.occurrences_in-before.ensures c.occurrences_in-after.ensures
    ∙ h.loop-i.invariant

pub returns : goal.returns
returns c =
    let h = c in
    let a = h.args in
    differ-end a.d a.x a.y a.x_after a.y_after h.loop-i.i h.loop-i.changed (omega arith) ∙ h.loop-i.invariant
