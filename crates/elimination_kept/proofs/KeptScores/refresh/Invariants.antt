-- `elimination_kept::KeptScores::refresh` meets its contract. Assumes nothing.
use Rattle.elimination_kept.proofs.Refreshing.{Refreshing}
use Rattle.elimination_masks.specs.Columns.{columns_score, columns_differ}
use Rattle.elimination_kept.proofs.KeptScores.refresh.Given as goal

abbrev pub invariant-loop-i : goal.invariant-loop-i
invariant-loop-i l =
    Refreshing (columns_differ l.columns l.after) (columns_score l.after) l.initial.self-inside.keys l.initial.self-inside.scores l.kept l.self-inside.keys l.self-inside.scores l.left l.i
