-- The sums are those of the entries before i, each at most the largest.
use Rattle.std.proofs.Common.{◌≡◌, ◌*◌, ◌≤◌}
use lib.ListN.{take}
use Rattle.test_scores.specs.Sums.{score_sum, digest, largest_score, largest_product}
use Rattle.test_scores.proofs.state.table_sums.Given as goal

abbrev pub invariant-loop-i : goal.invariant-loop-i
invariant-loop-i l =
    (l.sum ≡ score_sum (take l.kept-inside.count l.kept-inside.scores) l.i)
    × (l.digest ≡ digest (take l.kept-inside.count l.kept-inside.keys) (take l.kept-inside.count l.kept-inside.scores) l.i)
    × (l.sum ≤ largest_score * l.i)
    × (l.digest ≤ largest_product * l.i)
