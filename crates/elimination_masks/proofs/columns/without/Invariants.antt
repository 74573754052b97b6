-- `elimination_masks::columns::without` meets its contract. Assumes nothing.
use Rattle.elimination_masks.specs.Masks.{without_mask}
use Rattle.elimination_masks.proofs.Turns.{EachBefore}
use Rattle.elimination_masks.proofs.columns.without.Given as goal

abbrev pub invariant-loop-i : goal.invariant-loop-i
invariant-loop-i l = EachBefore (λ mask gone. without_mask mask gone l.e-2) l.i l.x l.taken l.out
