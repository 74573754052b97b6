-- `elimination_masks::columns::made` meets its contract. Assumes nothing.
use Rattle.elimination_masks.specs.Masks.{made_mask}
use Rattle.elimination_masks.proofs.Turns.{EachBefore}
use Rattle.elimination_masks.proofs.columns.made.Given as goal

abbrev pub invariant-loop-i : goal.invariant-loop-i
invariant-loop-i l = EachBefore (λ mask gone. made_mask mask gone l.e-2) l.i l.x l.taken l.out
