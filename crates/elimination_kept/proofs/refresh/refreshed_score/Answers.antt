-- `elimination_kept::refresh::refreshed_score` meets its contract. Assumes nothing.
use Rattle.elimination_kept.proofs.Refreshing.{shares_none, score-same}
use Rattle.elimination_kept.specs.Table.{entry_of, shares_symbol}
use Rattle.elimination_masks.specs.Columns.{columns_score, columns_differ}
use mathlib.Core.Path.{sym, ap, ◌∙◌}
use Rattle.elimination_kept.proofs.refresh.refreshed_score.Goals as goal

pub returns : goal.returns
returns c =
    let s = c in
    score-same (columns_differ s.args.columns.now s.args.after.now) (columns_score s.args.after.now) (entry_of s.args.key s.args.before)
    (shares_none s.args.a s.args.b s.args.columns.now s.args.after.now s.requires.1 (entry_of s.args.key s.args.before).divisor
    (sym (ap (shares_symbol s.args.a s.args.b) c.divisor_of_key-d.ensures) ∙ sym c.shares.ensures ∙ c.if-shares.false))
