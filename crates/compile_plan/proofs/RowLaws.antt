-- Document 01, "Digits and terms": the rows of a matrix record, one column and one row more at a time.
-- Assumes nothing.
use Prim.Native.Nat.{ℕ, suc, ◌+◌, ◌*◌, ◌-◌, ◌<◌}
use mathlib.Core.Path.{◌≡◌, refl, sym, ap, ◌∙◌}
use mathlib.Core.List.{List, [], ◌∷◌, ◌++◌, append_assoc, append-nil}
use native.Mathlib.Omega.{arith}
use lib.IntN.{ℤ}
use Rattle.digits.specs.Digits.{digits}
use Rattle.layout_rules.specs.Matrix.{coefficient_at, coefficients_from, rows_from}
use Rattle.elimination_rules.specs.Rows.{Row, column_terms, row_from, matrix_rows}

-- ---- columns

module _ (positions : ℕ) (b : List ℕ) where
  columns-cons : (column index k : ℕ)
      → row_from positions column (coefficients_from b index (suc k))
      ≡ column_terms column 0 (digits positions (coefficient_at b index)) ++ row_from positions (suc column) (coefficients_from b (index + 1) k)
  unfolding row_from coefficients_from
  columns-cons column index k = refl

  -- column j of n, whose coefficient is z
  pub columns_next : (index j n : ℕ) (z : ℤ) (out after : Row) → j < n → z ≡ coefficient_at b (index + j) → after ≡ out ++ column_terms j 0 (digits positions z)
      → after ++ row_from positions (suc j) (coefficients_from b (index + suc j) (n - suc j)) ≡ out ++ row_from positions j (coefficients_from b (index + j) (n - j))
  columns_next index j n z out after h e f =
      let left : suc (n - suc j) ≡ n - j = omega arith in
      let next : index + suc j ≡ (index + j) + 1 = omega arith in
      let rest : Row = row_from positions (suc j) (coefficients_from b ((index + j) + 1) (n - suc j)) in
      ap (λ (k : ℕ). after ++ row_from positions (suc j) (coefficients_from b k (n - suc j))) next
      ∙ ap (λ (l : Row). l ++ rest) f
      ∙ append_assoc out (column_terms j 0 (digits positions z)) rest
      ∙ ap (λ (x : ℤ). out ++ (column_terms j 0 (digits positions x) ++ rest)) e
      ∙ ap (λ (l : Row). out ++ l) (sym (columns-cons j (index + j) (n - suc j)))
      ∙ ap (λ (k : ℕ). out ++ row_from positions j (coefficients_from b (index + j) k)) left

  columns-none : (column index k : ℕ) → k ≡ 0 → row_from positions column (coefficients_from b index k) ≡ []
  unfolding row_from coefficients_from
  columns-none column index k e = ap (λ (k : ℕ). row_from positions column (coefficients_from b index k)) e

  pub columns-end : (column index k : ℕ) (out : Row) → k ≡ 0 → out ≡ out ++ row_from positions column (coefficients_from b index k)
  columns-end column index k out e = sym (ap (λ (l : Row). out ++ l) (columns-none column index k e) ∙ append-nil out)

  -- ---- rows

  rows-cons : (n index k : ℕ) → matrix_rows positions (rows_from b n index (suc k)) ≡ row_from positions 0 (coefficients_from b index n) ∷ matrix_rows positions (rows_from b n (index + n) k)
  unfolding matrix_rows rows_from
  rows-cons n index k = refl

  pub rows_next_lem : (n i m : ℕ) (r : Row) (out after : List Row) → i < m → r ≡ row_from positions 0 (coefficients_from b (i * n) n) → after ≡ out ++ (r ∷ [])
      → after ++ matrix_rows positions (rows_from b n (suc i * n) (m - suc i)) ≡ out ++ matrix_rows positions (rows_from b n (i * n) (m - i))
  rows_next_lem n i m r out after h e f =
      let left : suc (m - suc i) ≡ m - i = omega arith in
      let next : suc i * n ≡ i * n + n = omega arith in
      let rest : List Row = matrix_rows positions (rows_from b n (i * n + n) (m - suc i)) in
      ap (λ (k : ℕ). after ++ matrix_rows positions (rows_from b n k (m - suc i))) next
      ∙ ap (λ (l : List Row). l ++ rest) f
      ∙ append_assoc out (r ∷ []) rest
      ∙ ap (λ (x : Row). out ++ (x ∷ rest)) e
      ∙ ap (λ (l : List Row). out ++ l) (sym (rows-cons n (i * n) (m - suc i)))
      ∙ ap (λ (k : ℕ). out ++ matrix_rows positions (rows_from b n (i * n) k)) left

  rows_none : (n index k : ℕ) → k ≡ 0 → matrix_rows positions (rows_from b n index k) ≡ []
  unfolding matrix_rows rows_from
  rows_none n index k e = ap (λ (k : ℕ). matrix_rows positions (rows_from b n index k)) e

  pub rows_end : (n index k : ℕ) (out : List Row) → k ≡ 0 → out ≡ out ++ matrix_rows positions (rows_from b n index k)
  rows_end n index k out e = sym (ap (λ (l : List Row). out ++ l) (rows_none n index k e) ∙ append-nil out)
