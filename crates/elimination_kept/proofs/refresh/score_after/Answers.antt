-- `elimination_kept::refresh::score_after` meets its contract. Assumes nothing.
use Rattle.elimination_kept.proofs.Refreshing.{score-anew, score-same}
use Rattle.elimination_masks.specs.Columns.{columns_score, columns_differ}
use mathlib.Core.Path.{sym, ◌∙◌}
use Rattle.elimination_kept.proofs.refresh.score_after.Goals as goal

pub returns-then-differ : goal.returns-then-differ
unfolding columns_differ columns_score
returns-then-differ c =
    let s = c.args in
    c.score.ensures ∙ score-anew (columns_differ s.columns.now s.after.now) (columns_score s.after.now) (record { divisor = s.d; score = s.before }) (sym c.differ.ensures ∙ c.if-differ.true)

pub returns : goal.returns
unfolding columns_differ
returns c =
    let s = c.args in
    score-same (columns_differ s.columns.now s.after.now) (columns_score s.after.now) (record { divisor = s.d; score = s.before }) (sym c.differ.ensures ∙ c.if-differ.false)
