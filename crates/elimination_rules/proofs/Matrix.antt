-- What the matrix's rows stand for: each has the value of its coefficients times the symbols' values, and for each column a weight
-- of at most a third of 2^(positions + 1). So no divisor has a larger coefficient.
-- Assumes nothing.
use Prim.Native.Nat.{ℕ, zero, suc, ◌+◌, ◌*◌, ◌^◌, ◌≤◌, ◌<◌}
use mathlib.Core.Path.{◌≡◌, refl, sym, ◌∙◌, ap, ap₂}
use mathlib.Core.Bool.{Bool, true, false}
use mathlib.Core.List.{List, [], ◌∷◌, ◌++◌, Memᴰ}
use native.Mathlib.Omega.{arith}
use native.Mathlib.Nat.{add-mul, mul-le-mul}
use lib.Dec.{eqb, ltb}
use lib.IntN.{ℤ, pos, negsuc, neg_ℤ, nat_abs, ◌+ℤ◌, ◌*ℤ◌}
use lib.ListN.{length}
use borrow.Author.Tests.{eqb-true, eqb-false, ltb-true, ltb-false}
use Rattle.integers.proofs.Expression.{at, nat, minus, ◌⊕◌, ◌⊗◌, equal}
use Rattle.integers.proofs.Size.{abs-+, abs_neg, abs-*}
use Rattle.term.specs.declared.Term.{Term}
use Rattle.digits.specs.Digits.{IsDigit, digit_at, digits, sum_from, powers_from}
use Rattle.digits.proofs.Lowest.{digit-size}
use Rattle.digits.proofs.Canonic.{digits_are, digits_sum}
use Rattle.digits.proofs.Powers.{digits_powers}
use Rattle.elimination_rules.specs.declared.Divisor.{Divisor}
use Rattle.elimination_rules.specs.Rows.{Row, signed, term_value, row_sum, row_value, column_terms, row_from, matrix_rows, EachRow}
use Rattle.elimination_rules.specs.Divisors.{divisor_value}
use Rattle.elimination_rules.specs.Weights.{term_weight, row_weight, divisor_weight, Weights, ColumnWeight}
use Rattle.elimination_rules.proofs.Tests.{by_bool}
use Rattle.elimination_rules.proofs.Replaced.{sum-append}
use Rattle.elimination_rules.proofs.Order.{Columns, DivisorsWithin}
use Rattle.elimination_rules.proofs.Value.{Values}

-- ---- the value of a matrix's row

one-digit : (d : ℕ) → nat_abs (pos (suc d)) ≤ 1 → (x s y : ℤ) → x *ℤ y +ℤ s *ℤ y ≡ (pos (suc d) *ℤ x +ℤ s) *ℤ y
one-digit zero h x s y = equal (at x ⊗ at y ⊕ at s ⊗ at y) ((nat 1 ⊗ at x ⊕ at s) ⊗ at y) (omega arith)
one-digit (suc d) h x s y = absurd (omega arith)

minus-digit : (d : ℕ) → nat_abs (negsuc d) ≤ 1 → (x s y : ℤ) → neg_ℤ (x *ℤ y) +ℤ s *ℤ y ≡ (negsuc d *ℤ x +ℤ s) *ℤ y
minus-digit zero h x s y = equal (minus (at x ⊗ at y) ⊕ at s ⊗ at y) ((minus (nat 1) ⊗ at x ⊕ at s) ⊗ at y) (omega arith)
minus-digit (suc d) h x s y = absurd (omega arith)

no_digit : (x s y : ℤ) → s *ℤ y ≡ (pos 0 *ℤ x +ℤ s) *ℤ y
no_digit x s y = equal (at s ⊗ at y) ((nat 0 ⊗ at x ⊕ at s) ⊗ at y) (omega arith)

-- coefficients that the positions are enough for: with P of them, all from −2^(P − 1) to 2^(P − 1)
abbrev pub Enough : ℕ → List ℤ → Type 0
Enough positions [] = Unit {0}
Enough positions (z ∷ zs) = (3 * nat_abs z ≤ 2 ^ suc positions) × Enough positions zs

module _ (v : ℕ → ℤ) where
  column-value : (column position : ℕ) (ds : List ℤ) → ((i : ℕ) → IsDigit (digit_at ds i)) → row_value v (column_terms column position ds) ≡ sum_from position ds *ℤ v column
  unfolding row_value term_value column_terms sum_from
  column-value column position [] h = equal (nat 0) (nat 0 ⊗ at (v column)) (omega arith)
  column-value column position (pos zero ∷ ds) h =
      column-value column (suc position) ds (λ i. h (suc i)) ∙ no_digit (pos (2 ^ position)) (sum_from (suc position) ds) (v column)
  column-value column position (pos (suc d) ∷ ds) h =
      ap (λ x. pos (2 ^ position) *ℤ v column +ℤ x) (column-value column (suc position) ds (λ i. h (suc i)))
      ∙ one-digit d (digit-size (h 0)) (pos (2 ^ position)) (sum_from (suc position) ds) (v column)
  column-value column position (negsuc d ∷ ds) h =
      ap (λ x. neg_ℤ (pos (2 ^ position) *ℤ v column) +ℤ x) (column-value column (suc position) ds (λ i. h (suc i)))
      ∙ minus-digit d (digit-size (h 0)) (pos (2 ^ position)) (sum_from (suc position) ds) (v column)

  -- the sum over the columns, from one on, of coefficient times the symbol's value
  unfoldable pub coefficients_times : ℕ → List ℤ → ℤ
  coefficients_times column [] = pos 0
  coefficients_times column (z ∷ zs) = z *ℤ v column +ℤ coefficients_times (suc column) zs

  pub row-value : (positions column : ℕ) (zs : List ℤ) → Enough positions zs → row_value v (row_from positions column zs) ≡ coefficients_times column zs
  unfolding row_value row_from coefficients_times
  row-value positions column [] h = unfold row_sum in refl
  row-value positions column (z ∷ zs) h =
      sum-append (term_value v) (column_terms column 0 (digits positions z)) (row_from positions (suc column) zs)
      ∙ ap₂ ◌+ℤ◌
      (column-value column 0 (digits positions z) (digits_are positions z) ∙ ap (λ x. x *ℤ v column) (digits_sum positions z h.0))
      (row-value positions (suc column) zs h.1)

-- ---- the weight of a matrix's row

module _ (w : ℕ → ℕ) where
  weight_append : (r s : Row) → row_weight w (r ++ s) ≡ row_weight w r + row_weight w s
  unfolding row_weight
  weight_append [] s = omega arith
  weight_append (t ∷ r) s = omega (arith, weight_append r s)

  column_weight : (column position : ℕ) (ds : List ℤ) → row_weight w (column_terms column position ds) ≡ powers_from position ds * w column
  unfolding row_weight term_weight column_terms powers_from
  column_weight column position [] = omega arith
  column_weight column position (pos zero ∷ ds) = column_weight column (suc position) ds
  column_weight column position (pos (suc d) ∷ ds) =
      ap (λ (x : ℕ). 2 ^ position * w column + x) (column_weight column (suc position) ds) ∙ sym (add-mul (2 ^ position) (powers_from (suc position) ds) (w column))
  column_weight column position (negsuc d ∷ ds) =
      ap (λ (x : ℕ). 2 ^ position * w column + x) (column_weight column (suc position) ds) ∙ sym (add-mul (2 ^ position) (powers_from (suc position) ds) (w column))

  other_columns : (positions column : ℕ) (zs : List ℤ) → ((j : ℕ) → column ≤ j → j < column + length zs → w j ≡ 0) → row_weight w (row_from positions column zs) ≡ 0
  unfolding row_from
  other_columns positions column [] h = unfold row_weight in refl
  other_columns positions column (z ∷ zs) h = omega (
    arith,
    weight_append (column_terms column 0 (digits positions z)) (row_from positions (suc column) zs),
    column_weight column 0 (digits positions z),
    ap (λ (x : ℕ). powers_from 0 (digits positions z) * x) (h column (omega arith) (omega arith)),
    other_columns positions (suc column) zs (λ j l m. h j (omega arith) (omega arith)),
  )

  -- the weight of one column
  column-within : (positions n own column : ℕ) (zs : List ℤ) → ColumnWeight n own w → column + length zs ≤ n → 3 * row_weight w (row_from positions column zs) + 1 ≤ 2 ^ suc positions
  unfolding row_from
  column-within positions n own column [] c l = unfold row_weight in omega (arith, digits_powers positions (pos 0))
  column-within positions n own column (z ∷ zs) c l = by_bool (eqb column own)
      (λ e.
      let same : column ≡ own = eqb-true column own e in
      omega (
        arith,
        weight_append (column_terms column 0 (digits positions z)) (row_from positions (suc column) zs),
        column_weight column 0 (digits positions z),
        ap (λ (x : ℕ). powers_from 0 (digits positions z) * x) (ap w same ∙ c.own),
        digits_powers positions z,
        other_columns positions (suc column) zs (λ j h k. c.others j (omega arith) (λ f. omega arith)),
      ))
      (λ e. omega (
        arith,
        weight_append (column_terms column 0 (digits positions z)) (row_from positions (suc column) zs),
        column_weight column 0 (digits positions z),
        ap (λ (x : ℕ). powers_from 0 (digits positions z) * x) (c.others column (omega arith) (eqb-false column own e)),
        column-within positions n own (suc column) zs c (omega arith),
      ))

  pub matrix_weights : (positions n own bound : ℕ) (m : List (List ℤ)) → Columns n m → ColumnWeight n own w → 2 ^ suc positions ≤ 3 * bound + 3
      → EachRow (λ r. row_weight w r ≤ bound) (matrix_rows positions m)
  unfolding matrix_rows
  matrix_weights positions n own bound [] c u h = tt
  matrix_weights positions n own bound (zs ∷ m) c u h = (
    omega (arith, column-within positions n own 0 zs u (omega (arith, c.0))),
    matrix_weights positions n own bound m c.1 u h,
  )

-- ---- values are at most as large as weights

abs_signed : (n : Bool) (z : ℤ) → nat_abs (signed n z) ≡ nat_abs z
abs_signed false z = refl
abs_signed true z = abs_neg z

module _ (v : ℕ → ℤ) (w : ℕ → ℕ) where
  shifted-within : (n : Bool) (e j : ℕ) → nat_abs (v j) ≤ w j → nat_abs (signed n (pos (2 ^ e) *ℤ v j)) ≤ 2 ^ e * w j
  shifted-within n e j h = rw (abs_signed n (pos (2 ^ e) *ℤ v j), abs-* (pos (2 ^ e)) (v j)) (mul-le-mul {n₁ = 2 ^ e} {n₂ = 2 ^ e} (omega arith) h)

  pub row_within : (r : Row) → ((t : Term) → Memᴰ t r → nat_abs (v t.symbol) ≤ w t.symbol) → nat_abs (row_value v r) ≤ row_weight w r
  unfolding row_value row_sum row_weight term_value term_weight
  row_within [] h = omega arith
  row_within (t ∷ r) h = omega (
    arith,
    abs-+ (term_value v t) (row_sum (term_value v) r),
    shifted-within t.negative t.exponent t.symbol (h t (Memᴰ.head refl)),
    row_within r (λ u m. h u (Memᴰ.tail m)),
  )

  divisor-value-within : (d : Divisor) → nat_abs (v d.a) ≤ w d.a → nat_abs (v d.b) ≤ w d.b → nat_abs (divisor_value v d) ≤ divisor_weight w d
  unfolding divisor_value divisor_weight
  divisor-value-within d h k = omega (
    arith,
    abs-+ (pos (2 ^ d.ea) *ℤ v d.a) (signed d.minus (pos (2 ^ d.eb) *ℤ v d.b)),
    shifted-within false d.ea d.a h,
    shifted-within d.minus d.eb d.b k,
  )

  -- if it is so of the inputs, it is so of every divisor's symbol
  pub values-within : (positions symbol : ℕ) (ds : List Divisor) → DivisorsWithin positions symbol ds → Values v symbol ds → Weights w symbol ds
      → ((j : ℕ) → j < symbol → nat_abs (v j) ≤ w j) → (j : ℕ) → j < symbol + length ds → nat_abs (v j) ≤ w j
  values-within positions symbol [] f a b h j l = h j (omega arith)
  values-within positions symbol (d ∷ ds) f a b h j l = values-within positions (suc symbol) ds f.1 a.1 b.1
      (λ i k. by_bool (ltb i symbol)
      (λ e. h i (ltb-true i symbol e))
      (λ e. let same : i ≡ symbol = omega (arith, ltb-false i symbol e) in
      rw same (rw (a.0, b.0) (divisor-value-within d (h d.a f.0.a) (h d.b f.0.b)))))
      j (omega arith)
