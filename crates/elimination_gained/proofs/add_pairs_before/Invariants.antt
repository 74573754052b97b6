-- `elimination_gained::add_pairs_before` meets its contract. Assumes nothing.
use Rattle.elimination_gained.proofs.Adding.{Adding}
use Rattle.elimination_gained.proofs.Pairs.{pairs_left}
use Rattle.elimination_gained.proofs.add_pairs_before.Given as goal

abbrev pub invariant-loop-h : goal.invariant-loop-h
invariant-loop-h l = Adding l.columns l.initial.kept (pairs_left l.before.row l.j l.terms l.u 0) l.kept (pairs_left l.before.row l.j l.terms l.u l.h)
