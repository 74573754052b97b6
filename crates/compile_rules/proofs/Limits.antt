-- Document 01, "Matrix record": an accepted record's matrix is within the limits, and what elimination asks of a matrix follows.
-- Assumes nothing.
use Prim.Native.Nat.{ℕ, zero, suc, ◌+◌, ◌*◌, ◌-◌, ◌^◌, ◌≤◌}
use mathlib.Core.Path.{◌≡◌, refl, ap}
use mathlib.Core.List.{List, [], ◌∷◌}
use native.Mathlib.Omega.{arith}
use native.Mathlib.Nat.{pow-succ'}
use lib.IntN.{ℤ, nat_abs}
use lib.ListN.{length}
use Rattle.limits.specs.Limits.{positions}
use Rattle.layout_rules.specs.Matrix.{matrix_refusal, matrix, rows, columns, coefficient_at, coefficients_from, rows_from}
use Rattle.layout_rules.proofs.LittleEndian.{AreBytes}
use Rattle.layout_rules.proofs.MatrixRefusal.{AcceptedMatrix, accepted-matrix}
use Rattle.layout_rules.proofs.MatrixRows.{coefficient_range, matrix-length}
use Rattle.board_rules.specs.Width.{Within}
use Rattle.board_rules.proofs.WidthLaws.{within-size, within_wider}
use Rattle.elimination_rules.proofs.Order.{Columns}
use Rattle.elimination_rules.proofs.Matrix.{Enough}
use Rattle.compile_rules.specs.Limits.{CoefficientsWithin, RowsWithin, WithinLimits}

-- ---- what elimination asks: rows of n coefficients, for each of which the positions are enough

pub rows-columns : (bits n : ℕ) (m : List (List ℤ)) → RowsWithin bits n m → Columns n m
rows-columns bits n [] h = tt
rows-columns bits n (row ∷ m) h = (h.0.0, rows-columns bits n m h.1)

enough_positions : (positions : ℕ) (z : ℤ) → 1 ≤ positions → Within positions z → 3 * nat_abs z ≤ 2 ^ suc positions
enough_positions zero z some h = absurd (omega arith)
enough_positions (suc positions) z some h =
    let less : suc positions - 1 ≡ positions = omega arith in
    omega (arith, within-size h, ap (λ (k : ℕ). 2 ^ k) less, pow-succ' 2 (suc positions), pow-succ' 2 positions)

pub coefficients_enough : (positions : ℕ) (row : List ℤ) → 1 ≤ positions → CoefficientsWithin positions row → Enough positions row
coefficients_enough positions [] some h = tt
coefficients_enough positions (z ∷ row) some h = (enough_positions positions z some h.0, coefficients_enough positions row some h.1)

-- ---- an accepted record's matrix, whose coefficients of 2 bytes lie within the digit positions

module _ (b : List ℕ) (all : AreBytes b) where
  coefficients-within : (index k : ℕ) → (length (coefficients_from b index k) ≡ k) × CoefficientsWithin positions (coefficients_from b index k)
  unfolding coefficients_from
  coefficients-within index zero = (refl, tt)
  coefficients-within index (suc k) =
      let here = coefficient_range b all index in
      let two_bytes : Within 16 (coefficient_at b index) = record { low = here.0; high = here.1 } in
      let others = coefficients-within (index + 1) k in
      (ap suc others.0, (within_wider positions (omega arith) two_bytes, others.1))

  rows-within : (n index k : ℕ) → RowsWithin positions n (rows_from b n index k)
  unfolding rows_from
  rows-within n index zero = tt
  rows-within n index (suc k) = (coefficients-within index n, rows-within n (index + n) k)

  pub accepted-within : matrix_refusal b ≡ 0 → WithinLimits positions (rows b) (columns b) (matrix b)
  unfolding matrix
  accepted-within h =
      let a : AcceptedMatrix b = accepted-matrix b h in
      record {
        limits = a.limits;
        one_per_row = matrix-length b;
        coefficients = rows-within (columns b) 0 (rows b);
      }
