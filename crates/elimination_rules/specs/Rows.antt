-- Document 01, "Digits and terms": rows, their order, the matrix's rows, the plain count, and what a row stands for.
-- Assumes nothing.
use Rattle.std.specs.Prelude.{ℕ, zero, suc, ◌+◌, ◌^◌, ◌<◌, pred, ◌≡◌, ◌⊎◌, Bool, true, false, ℤ, pos, negsuc, neg_ℤ, ◌+ℤ◌, ◌*ℤ◌, length}
use mathlib.Core.List.{List, [], ◌∷◌, ◌++◌, Memᴰ}
use Rattle.term.specs.declared.Term.{Term}
use Rattle.digits.specs.Digits.{digits, digit, rest}

abbrev pub Row : Type 0
Row = List Term

-- ---- the order of a row: ascending order of symbol, then exponent; no two terms with the same symbol and exponent

abbrev pub Precedes : Term → Term → Type 0
Precedes t u = (t.symbol < u.symbol) ⊎ ((t.symbol ≡ u.symbol) × (t.exponent < u.exponent))

abbrev pub Ascending : Row → Type 0
Ascending [] = Unit {0}
Ascending (t ∷ r) = ((u : Term) → Memᴰ u r → Precedes t u) × Ascending r

abbrev pub NoneTwice : Row → Type 0
NoneTwice [] = Unit {0}
NoneTwice (t ∷ r) = ((u : Term) → Memᴰ u r → (t.symbol ≡ u.symbol) × (t.exponent ≡ u.exponent) → ⊥) × NoneTwice r

-- what every row keeps: its order, no two terms of one symbol and exponent, exponents below the number of positions, and symbols
-- below the next one
pub record WellFormed (positions symbol : ℕ) (r : Row) : Type 0 where
  pub ascending : Ascending r
  pub none_twice : NoneTwice r
  pub exponents : (t : Term) → Memᴰ t r → t.exponent < positions
  pub symbols : (t : Term) → Memᴰ t r → t.symbol < symbol

abbrev pub EachRow : (Row → Type 0) → List Row → Type 0
EachRow P [] = Unit {0}
EachRow P (r ∷ rs) = P r × EachRow P rs

-- ---- the matrix's rows

-- one term for each nonzero digit: its column's symbol, its position, its sign
unfoldable pub column_terms : ℕ → ℕ → List ℤ → Row
column_terms column position [] = []
column_terms column position (pos zero ∷ ds) = column_terms column (suc position) ds
column_terms column position (pos (suc _) ∷ ds) = record { symbol = column; exponent = position; negative = false } ∷ column_terms column (suc position) ds
column_terms column position (negsuc _ ∷ ds) = record { symbol = column; exponent = position; negative = true } ∷ column_terms column (suc position) ds

-- the row of coefficients that begin at a column, over a number of digit positions
unfoldable pub row_from : ℕ → ℕ → List ℤ → Row
unfolding column_terms digits digit rest
row_from positions column [] = []
row_from positions column (z ∷ zs) = column_terms column 0 (digits positions z) ++ row_from positions (suc column) zs

unfoldable pub matrix_rows : ℕ → List (List ℤ) → List Row
unfolding row_from
matrix_rows positions [] = []
matrix_rows positions (zs ∷ m) = row_from positions 0 zs ∷ matrix_rows positions m

-- the plain count: the sum over the rows of (terms − 1), a row without terms giving 0
unfoldable pub plain_count : List Row → ℕ
plain_count [] = 0
plain_count (r ∷ rs) = pred (length r) + plain_count rs

-- ---- what a row stands for, for values v of the symbols: the sum over its terms of ± 2^exponent · v symbol

abbrev pub signed : Bool → ℤ → ℤ
signed false z = z
signed true z = neg_ℤ z

unfoldable pub term_value : (ℕ → ℤ) → Term → ℤ
term_value v t = signed t.negative (pos (2 ^ t.exponent) *ℤ v t.symbol)

-- the sum over a row of what f gives each term
unfoldable pub row_sum : (Term → ℤ) → Row → ℤ
row_sum f [] = pos 0
row_sum f (t ∷ r) = f t +ℤ row_sum f r

unfoldable pub row_value : (ℕ → ℤ) → Row → ℤ
unfolding row_sum
row_value v r = row_sum (term_value v) r
