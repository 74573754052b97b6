-- The rows by value as document 01's rows: the terms of a row, and the terms of all rows.
-- Assumes nothing.
use Rattle.std.specs.Prelude.{ℕ, ◌≤◌, false, List, map, length}
use Rattle.limits.specs.Limits.{max_rows, positions, max_terms}
use Rattle.lists.specs.declared.List.{List as ListOf}
use Rattle.lists.specs.Items.{items_of}
use Rattle.term.specs.declared.Term.{Term}
use Rattle.elimination_rules.specs.Rows.{WellFormed, EachRow}

-- what stands past a row's end
abbrev pub no_term : Term
no_term = record { symbol = 0; exponent = 0; negative = false }

abbrev pub row_terms : ListOf Term max_terms → List Term
row_terms row = items_of row

abbrev pub rows_terms : ListOf (ListOf Term max_terms) max_rows → List (List Term)
rows_terms rows = map row_terms (items_of rows)

-- what the pick and a step need of rows: their number and the terms of each are within the limits, and each is in order, with exponents
-- below the positions and symbols below the next one
pub record Ready (symbol : ℕ) (rows : List (List Term)) : Type 0 where
  pub few : length rows ≤ max_rows
  pub short : EachRow (λ r. length r ≤ max_terms) rows
  pub well_formed : EachRow (WellFormed positions symbol) rows
