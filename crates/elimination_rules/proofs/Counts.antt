-- Replacements are at least twice the divisors; the plain count goes down by the replacements; and a matrix's plain count, and so
-- the number of divisors, is limited by its size.
-- Assumes nothing.
use Prim.Native.Nat.{ℕ, zero, suc, ◌+◌, ◌*◌, ◌-◌, ◌≤◌}
use mathlib.Core.Path.{◌≡◌, refl, ap}
use mathlib.Core.List.{List, [], ◌∷◌}
use native.Mathlib.Omega.{arith}
use native.Mathlib.Nat.{mul-le-mul}
use lib.IntN.{ℤ, pos, negsuc}
use lib.ListN.{length, length-append}
use Rattle.limits.specs.Limits.{max_rows, max_columns, positions, max_operations, max_digits, max_terms, max_divisors}
use Rattle.limits.proofs.Numbers.{rows-of_terms}
use Rattle.digits.specs.Digits.{digits, nonzero}
use Rattle.digits.proofs.Count.{digits-nonzero_half}
use Rattle.elimination_rules.specs.declared.Divisor.{Divisor}
use Rattle.elimination_rules.specs.Rows.{Row, column_terms, row_from, matrix_rows, plain_count}
use Rattle.elimination_rules.specs.Divisors.{score}
use Rattle.elimination_rules.specs.Elimination.{rows_after}
use Rattle.elimination_rules.specs.Steps.{Steps, end, step}
use Rattle.elimination_rules.proofs.Order.{Columns}
use Rattle.elimination_rules.proofs.Replaced.{length-after}

-- ---- of steps

pub plain-after : (symbol : ℕ) (d : Divisor) (rows : List Row) → plain_count (rows_after symbol d rows) + score d rows ≡ plain_count rows
unfolding plain_count rows_after score
plain-after symbol d [] = refl
plain-after symbol d (r ∷ rows) = omega (arith, (length-after symbol d r).1, plain-after symbol d rows)

pub steps_twice : {symbol : ℕ} {rows : List Row} {ds : List Divisor} {k : ℕ} {after : List Row} → Steps symbol rows ds k after → 2 * length ds ≤ k
steps_twice end = omega arith
steps_twice (step d h more) = omega (arith, steps_twice more)

pub steps_plain : {symbol : ℕ} {rows : List Row} {ds : List Divisor} {k : ℕ} {after : List Row} → Steps symbol rows ds k after → plain_count after + k ≡ plain_count rows
steps_plain end = omega arith
steps_plain {symbol} {rows} (step d h more) = omega (arith, steps_plain more, plain-after symbol d rows)

-- the operations, one for each divisor and (terms − 1) for each remaining row, are plain + divisors − replacements
pub steps_operations : {symbol : ℕ} {rows : List Row} {ds : List Divisor} {k : ℕ} {after : List Row}
    → Steps symbol rows ds k after → (plain_count after + length ds) + k ≡ plain_count rows + length ds
steps_operations s = omega (arith, steps_plain s)

pub steps_divisors : {symbol : ℕ} {rows : List Row} {ds : List Divisor} {k : ℕ} {after : List Row} → Steps symbol rows ds k after → 2 * length ds ≤ plain_count rows
steps_divisors s = omega (arith, steps_plain s, steps_twice s)

-- ---- of a matrix

pub column-count : (column position : ℕ) (ds : List ℤ) → length (column_terms column position ds) ≡ nonzero ds
unfolding column_terms nonzero
column-count column position [] = refl
column-count column position (pos zero ∷ ds) = column-count column (suc position) ds
column-count column position (pos (suc d) ∷ ds) = ap suc (column-count column (suc position) ds)
column-count column position (negsuc d ∷ ds) = ap suc (column-count column (suc position) ds)

-- at most every second digit has a term
pub column-few : (half column : ℕ) (z : ℤ) → length (column_terms column 0 (digits (2 * half) z)) ≤ half
column-few half column z = omega (arith, column-count column 0 (digits (2 * half) z), digits-nonzero_half half z)

row_count : (half column : ℕ) (zs : List ℤ) → length (row_from (2 * half) column zs) ≤ half * length zs
unfolding row_from
row_count half column [] = omega arith
row_count half column (z ∷ zs) = omega (
  arith,
  length-append (column_terms column 0 (digits (2 * half) z)) (row_from (2 * half) (suc column) zs),
  column-few half column z,
  row_count half (suc column) zs,
)

-- m rows of n columns and twice half positions
pub matrix-plain : (half n : ℕ) (m : List (List ℤ)) → Columns n m → plain_count (matrix_rows (2 * half) m) ≤ length m * (half * n - 1)
unfolding plain_count matrix_rows
matrix-plain half n [] c = omega arith
matrix-plain half n (zs ∷ m) c = omega (arith, row_count half 0 zs, ap (λ (k : ℕ). half * k) c.0, matrix-plain half n m c.1)

-- of a matrix within the limits, the plain count is at most the most operations, and so there are at most the most divisors
pub plain-within : (n : ℕ) (m : List (List ℤ)) → Columns n m → n ≤ max_columns → length m ≤ max_rows → plain_count (matrix_rows positions m) ≤ max_operations
plain-within n m c hn hm =
    let wide : max_digits * n - 1 ≤ max_terms - 1 = omega arith in
    omega (arith, matrix-plain max_digits n m c, mul-le-mul hm wide, rows-of_terms)

pub divisors-within : (n : ℕ) (m : List (List ℤ)) → Columns n m → n ≤ max_columns → length m ≤ max_rows → {symbol : ℕ} {ds : List Divisor} {k : ℕ} {after : List Row}
    → Steps symbol (matrix_rows positions m) ds k after → length ds ≤ max_divisors
divisors-within n m c hn hm s = omega (arith, steps_divisors s, plain-within n m c hn hm)
