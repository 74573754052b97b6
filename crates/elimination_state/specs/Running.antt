-- Request A3: what is kept from step to step, besides the rows: their columns, twice, and the table of their divisors' scores.
-- Assumes nothing.
use Rattle.std.specs.Prelude.{ℕ, ◌<◌, ◌≡◌, List, length}
use Rattle.limits.specs.Limits.{positions, term_symbols}
use Rattle.elimination_rules.specs.declared.Divisor.{Divisor}
use Rattle.elimination_rules.specs.Rows.{Row}
use Rattle.elimination_rules.specs.Elimination.{Scored}
use Rattle.elimination_rules.specs.Lookup.{Proper}
use Rattle.kept_rules.specs.Kept.{Kept}
use Rattle.elimination_masks.specs.Columns.{ColumnsOf}

-- of the rows of a state: the table is theirs, and so are the columns; both tables of columns are the same between two steps
pub record Running (rows : List Row) (table : List Scored) (columns after : List (List ℕ)) : Type 0 where
  pub kept : Kept rows table
  pub columns_of : ColumnsOf rows columns
  pub columns-count : length columns ≡ term_symbols
  pub same-columns : after ≡ columns

-- what the divisor of a step is: its terms in order, its symbols below the next one, its exponents positions
pub record StepOf (symbol : ℕ) (d : Divisor) : Type 0 where
  pub proper : Proper d
  pub a : d.a < symbol
  pub b : d.b < symbol
  pub ea : d.ea < positions
  pub eb : d.eb < positions
