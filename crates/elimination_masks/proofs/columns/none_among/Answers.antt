-- `elimination_masks::columns::none_among` meets its contract. Assumes nothing.
use mathlib.Core.Path.{◌∙◌}
use native.Mathlib.Omega.{arith}
use lib.ListN.{get_or}
use Rattle.elimination_masks.proofs.Turns.{none_next, none_end}
use Rattle.elimination_masks.proofs.columns.none_among.Goals as goal

pub loop-i-preserved : goal.loop-i-preserved
loop-i-preserved c =
    let h = c in
    let a = h.args in
    none_next a.d a.x a.y h.loop-i.i (λ i. get_or a.asked i 0) h.loop-i.met c.occurrences_in-occurring.result (omega arith) c.occurrences_in-occurring.ensures ∙ h.loop-i.invariant

pub returns : goal.returns
returns c =
    let h = c in
    let a = h.args in
    none_end a.d a.x a.y h.loop-i.i (λ i. get_or a.asked i 0) h.loop-i.met (omega arith) ∙ h.loop-i.invariant
