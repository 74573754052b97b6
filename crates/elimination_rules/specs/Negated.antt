-- Negation: of the terms of rows, and of the coefficients of a matrix.
-- Assumes nothing.
use Rattle.std.specs.Prelude.{List, map, ℤ, neg_ℤ}
use Rattle.elimination_rules.specs.Rows.{Row}
use Rattle.elimination_rules.specs.Divisors.{negated}
use Rattle.elimination_rules.specs.Elimination.{Eliminated}

abbrev pub negated_row : Row → Row
negated_row r = map negated r

abbrev pub negated_rows : List Row → List Row
negated_rows rows = map negated_row rows

abbrev pub negated_matrix : List (List ℤ) → List (List ℤ)
negated_matrix m = map (map neg_ℤ) m

-- the same divisors and replacements, the remaining rows negated
abbrev pub negated_elimination : Eliminated → Eliminated
negated_elimination e = record { divisors = e.divisors; replacements = e.replacements; remaining_rows = negated_rows e.remaining_rows }
