-- `elimination_kept::KeptScores::pick` meets its contract. Assumes nothing.
use Rattle.elimination_kept.proofs.Picking.{best_next}
use Rattle.elimination_kept.proofs.TableLaws.{table_from, table_next, table-end, table_member}
use Rattle.elimination_kept.specs.Table.{entry_of, table_of, AllFit, scored_of}
use Rattle.elimination_rules.specs.Elimination.{no_pairs}
use Rattle.elimination_rules.specs.Rank.{lower_rank}
use Rattle.kept_rules.specs.Kept.{best_entry}
use Rattle.kept_rules.proofs.TablePick.{best_none}
use native.Mathlib.Omega.{arith}
use mathlib.Core.Path.{◌≡◌, sym, ap, ◌∙◌, subst}
use Prim.Native.Nat.{◌+◌}
use lib.ListN.{get_or}
use Rattle.elimination_kept.proofs.KeptScores.pick.Goals as goal

pub better_of-best-requires : goal.better_of-best-requires
better_of-best-requires c =
    let s = c.self.inside in
    let is : table_of s.keys s.scores s.count ≡ c.args.self.now = c.self.view_is in
    (subst AllFit (sym is) c.requires _ (table_member s.keys s.scores s.count c.self.invariant c.loop-i.i (omega arith)), c.loop-i.invariant.0)

pub loop-i-preserved : goal.loop-i-preserved
loop-i-preserved c =
    let s = c.self.inside in
    let i = c.loop-i.i in
    let first = lower_rank c.args.depths.now in
    let best = scored_of c.loop-i.best in (
      c.better_of-best.ensures.ranked,
      rw c.better_of-best.ensures.result_value (sym (best_next first best (entry_of (get_or s.keys i 0) (get_or s.scores i 0)) (table_from s.keys s.scores (i + 1) s.count))
          ∙ sym (ap (best_entry first best) (table_next s.keys s.scores s.count c.self.invariant i (omega arith)))
          ∙ c.loop-i.invariant.1),
    )

pub returns : goal.returns
returns c =
    let s = c.self.inside in
    let is : table_of s.keys s.scores s.count ≡ c.args.self.now = c.self.view_is in
    let first = lower_rank c.args.depths.now in
    let best = scored_of c.loop-i.best in
    sym (ap (best_entry first best) (table-end s.keys s.scores s.count c.self.invariant c.loop-i.i (omega arith)) ∙ best_none first best)
    ∙ c.loop-i.invariant.1
    ∙ ap (best_entry first no_pairs) is
