-- Document 01's marked banks, as far as they speak of elimination, by computation.
-- Assumes nothing.
use mathlib.Core.Path.{refl}
use Rattle.elimination_rules.specs.Rows.{row_from, matrix_rows, plain_count}
use Rattle.elimination_rules.specs.Divisors.{taken}
use Rattle.elimination_rules.specs.Elimination.{shallowest_first, pick, matrix_elimination}
use Rattle.elimination_rules.specs.Marked.{MarkedElimination}

pub marked_elimination : MarkedElimination
unfolding row_from matrix_rows plain_count taken shallowest_first pick matrix_elimination
marked_elimination = record {
  score_21 = refl;
  divisors_21 = refl;
  divisors_85 = refl;
  taken_85 = refl;
  divisors_1365 = refl;
  taken_1365 = refl;
  plain-four = refl;
  divisors-four = refl;
  replacements-four = refl;
  plain_three = refl;
  divisors_three = refl;
  replacements_three = refl;
  ties_four = refl;
  replacements_sums = refl;
  depth_decides = refl;
}
