-- `elimination_gained::gain_row` meets its contract. Assumes nothing.
use Rattle.elimination_gained.proofs.Adding.{Adding}
use Rattle.elimination_gained.proofs.Pairs.{new_left}
use Rattle.elimination_gained.proofs.gain_row.Given as goal

abbrev pub invariant-loop-j : goal.invariant-loop-j
invariant-loop-j l = Adding l.columns l.initial.kept (new_left l.symbol l.before.row l.row 0) l.kept (new_left l.symbol l.before.row l.row l.j)
