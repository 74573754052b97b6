-- What the pick and a step need of rows: each row has its part, a higher next symbol keeps it, the rows of a matrix have it, and the rows
-- after a step have it again.
-- Assumes nothing.
use Prim.Native.Nat.{ℕ, suc, ◌≤◌, ◌<◌}
use mathlib.Core.Path.{◌≡◌, refl, ap}
use mathlib.Core.List.{List, [], ◌∷◌}
use native.Mathlib.Omega.{arith}
use lib.IntN.{ℤ}
use lib.ListN.{length, get_or}
use Rattle.limits.specs.Limits.{max_rows, max_columns, positions, max_digits, max_terms}
use Rattle.elimination_rules.specs.declared.Divisor.{Divisor}
use Rattle.elimination_rules.specs.Rows.{Row, WellFormed, EachRow, row_from, matrix_rows, plain_count}
use Rattle.elimination_rules.specs.Elimination.{rows_after}
use Rattle.elimination_rules.proofs.Order.{each_row, rows_well_formed_after, length-rows-after, Columns, matrix_well_formed}
use Rattle.elimination_rules.proofs.Counts.{matrix-plain}
use Rattle.elimination_rules.proofs.Replaced.{length-after}
use Rattle.elimination_rows.specs.State.{Ready}
use Rattle.elimination_rows.proofs.Members.{member_at}

-- ---- a row of them

module _ (symbol : ℕ) (rows : List Row) (ready : Ready symbol rows) (i : ℕ) (h : i < length rows) where
  pub row_well_formed : WellFormed positions symbol (get_or rows i [])
  row_well_formed = each_row (WellFormed positions symbol) rows ready.well_formed (get_or rows i []) (member_at rows i [] h)

  pub row-short : length (get_or rows i []) ≤ max_terms
  row-short = each_row (λ r. length r ≤ max_terms) rows ready.short (get_or rows i []) (member_at rows i [] h)

-- ---- a higher next symbol

well_formed_below : (symbol higher : ℕ) → symbol ≤ higher → (rows : List Row) → EachRow (WellFormed positions symbol) rows → EachRow (WellFormed positions higher) rows
well_formed_below symbol higher h [] w = tt
well_formed_below symbol higher h (r ∷ rows) w = (
  record {
    ascending = w.0.ascending;
    none_twice = w.0.none_twice;
    exponents = w.0.exponents;
    symbols = λ t m. omega (arith, w.0.symbols t m);
  },
  well_formed_below symbol higher h rows w.1,
)

pub ready_below : (symbol higher : ℕ) → symbol ≤ higher → (rows : List Row) → Ready symbol rows → Ready higher rows
ready_below symbol higher h rows ready = record { few = ready.few; short = ready.short; well_formed = well_formed_below symbol higher h rows ready.well_formed }

-- ---- the rows after a step

short-after : (symbol most : ℕ) (d : Divisor) (rows : List Row) → EachRow (λ r. length r ≤ most) rows → EachRow (λ r. length r ≤ most) (rows_after symbol d rows)
unfolding rows_after
short-after symbol most d [] s = tt
short-after symbol most d (r ∷ rs) s = (omega (arith, (length-after symbol d r).0, s.0), short-after symbol most d rs s.1)

pub ready_after : (symbol : ℕ) (d : Divisor) (rows : List Row) → Ready symbol rows → Ready (suc symbol) (rows_after symbol d rows)
ready_after symbol d rows ready = record {
  few = omega (arith, length-rows-after symbol d rows, ready.few);
  short = short-after symbol max_terms d rows ready.short;
  well_formed = rows_well_formed_after positions symbol d rows ready.well_formed;
}

-- ---- the matrix's rows

matrix-short : (n : ℕ) (m : List (List ℤ)) → Columns n m → n ≤ max_columns → EachRow (λ r. length r ≤ max_terms) (matrix_rows positions m)
unfolding matrix_rows
matrix-short n [] c h = tt
matrix-short n (zs ∷ m) c h = (row-most, matrix-short n m c.1 h)
  where
    row-most : length (row_from positions 0 zs) ≤ max_terms
    row-most = unfold matrix_rows plain_count in omega (arith, matrix-plain max_digits n (zs ∷ []) (c.0, tt))

length-matrix : (m : List (List ℤ)) → length (matrix_rows positions m) ≡ length m
unfolding matrix_rows
length-matrix [] = refl
length-matrix (zs ∷ m) = ap suc (length-matrix m)

pub ready_matrix : (n : ℕ) (m : List (List ℤ)) → Columns n m → n ≤ max_columns → length m ≤ max_rows → Ready n (matrix_rows positions m)
ready_matrix n m c hn hm = record {
  few = omega (arith, length-matrix m);
  short = matrix-short n m c hn;
  well_formed = matrix_well_formed positions n m c;
}
