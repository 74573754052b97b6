-- `elimination_masks::masks::apart` meets its contract. Assumes nothing.
use mathlib.Core.Path.{sym, ◌∙◌}
use native.Mathlib.Omega.{arith}
use Rattle.elimination_masks.proofs.Turns.{apart-start, bit_fits, apart-taken, apart_left}
use Rattle.elimination_masks.proofs.masks.apart.Goals as goal
use Rattle.elimination_masks.proofs.masks.apart.Goals.{else-takes, then-takes}

pub loop-c-init : goal.loop-c-init
loop-c-init c = sym (apart-start c.args.occurrences c.args.distance)

pub overflow_add-taken : goal.overflow_add-taken
overflow_add-taken c =
    let h = c in
    let a = h.args in
    omega (arith, bit_fits a.occurrences a.distance h.loop-c.c h.loop-c.taken h.loop-c.invariant (omega arith))

pub loop-c-preserved : goal.loop-c-preserved
loop-c-preserved c =
    let h = c in
    let a = h.args in
    let found = c.takes.ensures in
    (elim c.if-takes.branch [ then-takes w ↦ w.taken-is ∙ apart-taken a.occurrences a.distance h.loop-c.c h.loop-c.taken h.loop-c.invariant (omega arith) (sym found ∙ w.if-takes.true) | else-takes w ↦ w.taken-is ∙ apart_left a.occurrences a.distance h.loop-c.c h.loop-c.taken h.loop-c.invariant (sym found ∙ w.if-takes.false) ])
