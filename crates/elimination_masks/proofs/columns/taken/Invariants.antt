-- `elimination_masks::columns::taken` meets its contract. Assumes nothing.
use Rattle.elimination_masks.proofs.Turns.{TakenBefore}
use Rattle.elimination_masks.proofs.columns.taken.Given as goal

abbrev pub invariant-loop-i : goal.invariant-loop-i
invariant-loop-i l = TakenBefore l.d l.x l.y l.i l.out
