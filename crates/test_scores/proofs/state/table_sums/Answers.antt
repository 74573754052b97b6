use Rattle.std.proofs.Common.{arith, sym, ap, ◌≡◌, ◌∙◌, length}
use mathlib.Core.List.{List}
use lib.ListN.{take}
use lib.Seq.{get_or-take}
use Rattle.elimination_rules.specs.Elimination.{Scored}
use Rattle.elimination_kept.specs.Table.{table_of}
use Rattle.test_scores.specs.Sums.{keys_in, scores_in, score_sum, digest}
use Rattle.test_scores.proofs.SumLaws.{score-sum-none, score-sum_next, digest-none, digest_next, table-scores, table-digest}
use Rattle.test_scores.proofs.state.table_sums.Goals as goal

pub loop-i-init : goal.loop-i-init
loop-i-init c = (sym (score-sum-none _), sym (digest-none _ _), omega arith, omega arith)

pub loop-i-preserved : goal.loop-i-preserved
loop-i-preserved c =
    let s = c.kept.inside in
    let i = c.loop-i.i in
    let before = c.loop-i.invariant in
    let entry = c.entry_sums-entry.ensures in
    let score = score-sum_next (take s.count s.scores) i in
    let product = digest_next (take s.count s.keys) (take s.count s.scores) i in (
      omega (arith, before.0, entry.scores_value.0, rw (get_or-take s.count s.scores i 0 (omega arith)) at score),
      omega (arith, before.1, entry.scores_value.1, rw (get_or-take s.count s.keys i 0 (omega arith), get_or-take s.count s.scores i 0 (omega arith)) at product),
      omega (arith, before.2, entry.scores_le_largest_score.0),
      omega (arith, before.3, entry.scores_le_largest_score.1),
    )

pub returns : goal.returns
returns c =
    let s = c.kept.inside in
    let l = c.loop-i in
    let is : table_of s.keys s.scores s.count ≡ c.args.kept.now = c.kept.view_is in
    let all : l.i ≡ s.count = omega arith in
    record {
      scores_value = l.invariant.0 ∙ ap (score_sum (take s.count s.scores)) all ∙ table-scores s.keys s.scores s.count c.kept.invariant
          ∙ ap (λ (t : List Scored). score_sum (scores_in t) (length t)) is;
      digest_value = l.invariant.1 ∙ ap (digest (take s.count s.keys) (take s.count s.scores)) all ∙ table-digest s.keys s.scores s.count c.kept.invariant
          ∙ ap (λ (t : List Scored). digest (keys_in t) (scores_in t) (length t)) is;
    }
