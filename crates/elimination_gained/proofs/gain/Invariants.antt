-- `elimination_gained::gain` meets its contract. Assumes nothing.
use Rattle.elimination_rows.specs.State.{rows_terms}
use Rattle.elimination_gained.specs.Gained.{Earlier}
use Rattle.elimination_gained.proofs.Adding.{Adding}
use Rattle.elimination_gained.proofs.Pairs.{rows_left}
use Rattle.elimination_gained.proofs.gain.Given as goal

abbrev pub invariant-loop-i : goal.invariant-loop-i
invariant-loop-i l =
    Earlier l.i 0 l.masks
    × Adding l.columns l.initial.kept (rows_left l.symbol (rows_terms l.fn.rows) 0) l.kept (rows_left l.symbol (rows_terms l.fn.rows) l.i)
