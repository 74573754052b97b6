-- Request A3: what comes before an occurrence, as masks; which terms have columns; the entries that visited pairs give, and their room.
-- Assumes nothing.
use Rattle.std.specs.Prelude.{ℕ, ◌≤◌, ◌<◌, ◌≡◌, List, ◌++◌, length, get_or}
use Rattle.limits.specs.Limits.{max_rows, positions, max_pairs, term_symbols}
use Rattle.term.specs.declared.Term.{Term}
use Rattle.elimination_rules.specs.Rows.{Precedes}
use Rattle.elimination_rules.specs.Visit.{InRow}
use Rattle.elimination_rules.specs.Elimination.{Scored}
use Rattle.kept_rules.specs.Kept.{gained}
use Rattle.elimination_rows.specs.State.{no_term}
use Rattle.elimination_masks.specs.Masks.{earlier_mask}
use Rattle.elimination_masks.specs.Columns.{columns_score, columns_first}

-- masks, one for each row, of what comes before a co-divisor of a row
pub record Earlier (row c : ℕ) (masks : List ℕ) : Type 0 where
  pub count : length masks ≡ max_rows
  pub each : (i : ℕ) → i < max_rows → get_or masks i 0 ≡ earlier_mask row c i

-- its symbol has a column, and its exponent is a position
abbrev pub TermFits : Term → Type 0
TermFits t = (t.symbol < term_symbols) × (t.exponent < positions)

-- each of the terms up to the one at j fits, and those before that one precede it
pub record OrderedTo (j : ℕ) (terms : List Term) : Type 0 where
  pub inside : j < length terms
  pub precede : (h : ℕ) → h < j → Precedes (get_or terms h no_term) (get_or terms j no_term)
  pub fit : (h : ℕ) → h ≤ j → TermFits (get_or terms h no_term)

-- the entries of visited pairs, by the columns
abbrev pub columns_gained : List (List ℕ) → List InRow → List Scored
columns_gained columns xs = gained (columns_first columns) (columns_score columns) xs

-- a table has room for them
abbrev pub RoomFor : List Scored → List Scored → Type 0
RoomFor table more = length (table ++ more) ≤ max_pairs
