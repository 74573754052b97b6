-- The columns of rows, as code works them out: term by term, from columns without terms.
-- Assumes nothing.
use Rattle.std.specs.Prelude.{ℕ, ◌+◌, ◌*◌, ◌^◌, ◌<◌, Bool, true, false, get_or, set, replicate}
use mathlib.Core.List.{List, [], ◌∷◌, Memᴰ}
use Rattle.std.specs.Int.Bits.{bit_or}
use Rattle.limits.specs.Limits.{max_rows, positions, term_symbols}
use Rattle.term.specs.declared.Term.{Term}
use Rattle.elimination_rules.specs.Rows.{Row}

-- no terms
abbrev pub blank_column : List ℕ
blank_column = replicate (2 * max_rows) 0

unfoldable pub blank_columns : List (List ℕ)
blank_columns = replicate term_symbols blank_column

-- every term of a row has a column, and a bit in its masks
abbrev pub TermsWithin : Row → Type 0
TermsWithin r = (t : Term) → Memᴰ t r → (t.symbol < term_symbols) × (t.exponent < positions)

-- where the mask of the plus terms, or of the minus terms, of row i stands in a column
abbrev pub mask_place : Bool → ℕ → ℕ
mask_place false i = i
mask_place true i = max_rows + i

-- the column of a term's symbol after the term was entered in row i
unfoldable pub entered_column : ℕ → List ℕ → Term → List ℕ
entered_column i column t = let at : ℕ = mask_place t.negative i in set column at (bit_or (get_or column at 0) (2 ^ t.exponent))

unfoldable pub entered_term : ℕ → List (List ℕ) → Term → List (List ℕ)
unfolding entered_column
entered_term i columns t = set columns t.symbol (entered_column i (get_or columns t.symbol []) t)

-- the columns after the terms of a row were entered, from the last on
unfoldable pub entered_terms : ℕ → List (List ℕ) → Row → List (List ℕ)
unfolding entered_term
entered_terms i columns [] = columns
entered_terms i columns (t ∷ r) = entered_term i (entered_terms i columns r) t
