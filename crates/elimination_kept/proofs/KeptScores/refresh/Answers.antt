-- `elimination_kept::KeptScores::refresh` meets its contract. Assumes nothing.
use Rattle.elimination_kept.proofs.Refreshing.{refreshing_first, next_fits, refreshing_end, refreshing_gone, refreshing_stays}
use Rattle.elimination_kept.specs.Table.{table_of, AllFit}
use Rattle.elimination_masks.specs.Columns.{columns_score, columns_differ}
use Rattle.kept_rules.specs.Kept.{refreshed}
use native.Mathlib.Omega.{arith}
use mathlib.Core.Path.{◌≡◌, sym, ap, ◌∙◌, subst}
use Rattle.elimination_kept.proofs.KeptScores.refresh.Goals as goal
use Rattle.elimination_kept.proofs.KeptScores.refresh.Goals.{else-score-ne0, then-score-ne0}

pub loop-i-init : goal.loop-i-init
loop-i-init c =
    let s = c.self.inside in
    refreshing_first (columns_differ c.args.columns.now c.args.after.now) (columns_score c.args.after.now) s.keys s.scores s.count c.self.invariant

pub refreshed_score-score-requires : goal.refreshed_score-score-requires
refreshed_score-score-requires c =
    let s = c.self.inside in
    let l = c.loop-i in
    let is : table_of s.keys s.scores s.count ≡ c.args.self.now = c.self.view_is in
    let all : AllFit (table_of s.keys s.scores s.count) = subst AllFit (sym is) c.requires.0 in
    (next_fits (columns_differ c.args.columns.now c.args.after.now) (columns_score c.args.after.now) s.keys s.scores s.count c.self.invariant l.self-inside.keys l.self-inside.scores l.left l.i l.invariant (omega arith) all, c.requires.1)

pub loop-i-preserved : goal.loop-i-preserved
loop-i-preserved c =
    let s = c.self.inside in
    let l = c.loop-i in
    let changed = columns_differ c.args.columns.now c.args.after.now in
    let counts = columns_score c.args.after.now in
    let score = c.refreshed_score-score in
    elim c.if-score-ne0.branch [
      | then-score-ne0 w ↦ rw w.left-is (refreshing_stays changed counts s.keys s.scores s.count c.self.invariant l.self-inside.keys l.self-inside.scores l.left l.i l.invariant (omega arith) score.result score.ensures (omega arith))
      | else-score-ne0 w ↦ rw w.left-is (refreshing_gone changed counts s.keys s.scores s.count c.self.invariant l.self-inside.keys l.self-inside.scores l.left l.i l.invariant (omega arith) score.result score.ensures (omega arith))
    ]

pub returns : goal.returns
returns c =
    let s = c.self.inside in
    let l = c.loop-i in
    let changed = columns_differ c.args.columns.now c.args.after.now in
    let counts = columns_score c.args.after.now in
    let is : table_of s.keys s.scores s.count ≡ c.args.self.now = c.self.view_is in
    refreshing_end changed counts s.keys s.scores s.count c.self.invariant l.self-inside.keys l.self-inside.scores l.left l.i l.invariant (omega arith)
    ∙ ap (refreshed changed counts) is
