-- The rows before the index are those after the step, the others as they were.
use mathlib.Core.Path.{◌≡◌}
use Rattle.elimination_rows.specs.State.{rows_terms}
use Rattle.elimination_step.proofs.Stepping.{partly_after}
use Rattle.elimination_step.proofs.rows_after.Given as goal

abbrev pub invariant-loop-i : goal.invariant-loop-i
invariant-loop-i l = rows_terms l.out ≡ partly_after l.symbol l.d (rows_terms l.fn.rows) l.i
