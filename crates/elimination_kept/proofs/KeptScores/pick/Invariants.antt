-- `elimination_kept::KeptScores::pick` meets its contract. Assumes nothing.
use Rattle.elimination_kept.proofs.TableLaws.{table_from}
use Rattle.elimination_kept.specs.Table.{table_of, scored_of, Ranked}
use Rattle.kept_rules.specs.Kept.{best_entry}
use Rattle.elimination_rules.specs.Rank.{lower_rank}
use Rattle.elimination_rules.specs.Elimination.{no_pairs}
use mathlib.Core.Path.{◌≡◌}
use Rattle.elimination_kept.proofs.KeptScores.pick.Given as goal

abbrev pub invariant-loop-i : goal.invariant-loop-i
invariant-loop-i l =
    Ranked l.depths l.best
    × (best_entry (lower_rank l.depths) (scored_of l.best) (table_from l.self-inside.keys l.self-inside.scores l.i l.self-inside.count)
    ≡ best_entry (lower_rank l.depths) no_pairs (table_of l.self-inside.keys l.self-inside.scores l.self-inside.count))
