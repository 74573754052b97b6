-- Document 01, "Elimination": any sequence of steps, each of which takes some divisor of score at least 2 and replaces its taken
-- occurrences. Elimination is the sequence whose divisors are picked.
-- Assumes nothing.
use Rattle.std.specs.Prelude.{ℕ, suc, ◌+◌, ◌≤◌, List, [], ◌∷◌}
use Rattle.elimination_rules.specs.declared.Divisor.{Divisor}
use Rattle.elimination_rules.specs.Rows.{Row}
use Rattle.elimination_rules.specs.Divisors.{score}
use Rattle.elimination_rules.specs.Elimination.{rows_after}

-- from the next symbol and the rows: the divisors, oldest first, the number of pairs replaced, the rows afterwards
pub data Steps : ℕ → List Row → List Divisor → ℕ → List Row → Type 0 where
  end : {symbol : ℕ} {rows : List Row} → Steps symbol rows [] 0 rows
  step : {symbol : ℕ} {rows : List Row} {ds : List Divisor} {replacements : ℕ} {after : List Row}
      (d : Divisor) → 2 ≤ score d rows → Steps (suc symbol) (rows_after symbol d rows) ds replacements after
      → Steps symbol rows (d ∷ ds) (score d rows + replacements) after
