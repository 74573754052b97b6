-- The matrix of a record has m rows of n coefficients, each the record's, between −32,768 and 32,767.
-- Assumes nothing.
use Prim.Native.Nat.{ℕ, zero, suc, ◌+◌, ◌*◌, ◌≤◌, ◌<◌}
use mathlib.Core.Path.{◌≡◌, refl, ap, ◌∙◌}
use mathlib.Core.Bool.{Bool, true, false, cond}
use mathlib.Core.List.{List, []}
use native.Mathlib.Omega.{arith}
use native.Mathlib.Nat.{mul-le-mul, le_refl}
use lib.Dec.{ltb}
use lib.IntN.{ℤ, pos, negsuc, ◌-ℤ◌}
use lib.ListN.{length, get_or}
use lib.Signed.{◌≤ℤ◌}
use borrow.Author.Tests.{ltb-true, ltb-false}
use Rattle.integers.proofs.Expression.{nat, minus, ◌⊝◌, at_most}
use Rattle.layout_rules.proofs.LittleEndian.{AreBytes, word_below}
use Rattle.layout_rules.proofs.MatrixRefusal.{AcceptedMatrix}
use Rattle.layout_rules.specs.Bytes.{word}
use Rattle.layout_rules.specs.Matrix.{rows, columns, signed_word, coefficient_place, coefficient_at, coefficients_from, rows_from, matrix}

module _ (b : List ℕ) where
  length-coefficients : (index k : ℕ) → length (coefficients_from b index k) ≡ k
  unfolding coefficients_from
  length-coefficients index zero = refl
  length-coefficients index (suc k) = ap suc (length-coefficients (index + 1) k)

  coefficients_at : (index k j : ℕ) → j < k → get_or (coefficients_from b index k) j (pos 0) ≡ coefficient_at b (index + j)
  unfolding coefficients_from
  coefficients_at index zero j h = absurd (omega arith)
  coefficients_at index (suc k) zero h = ap (coefficient_at b) (omega arith)
  coefficients_at index (suc k) (suc j) h = coefficients_at (index + 1) k j (omega arith) ∙ ap (coefficient_at b) (omega arith)

  length-rows : (n index k : ℕ) → length (rows_from b n index k) ≡ k
  unfolding rows_from
  length-rows n index zero = refl
  length-rows n index (suc k) = ap suc (length-rows n (index + n) k)

  rows_at : (n index k i : ℕ) → i < k → get_or (rows_from b n index k) i [] ≡ coefficients_from b (index + i * n) n
  unfolding rows_from
  rows_at n index zero i h = absurd (omega arith)
  rows_at n index (suc k) zero h = ap (λ (x : ℕ). coefficients_from b x n) (omega arith)
  rows_at n index (suc k) (suc i) h = rows_at n (index + n) k i (omega arith) ∙ ap (λ (x : ℕ). coefficients_from b x n) (omega arith)

  pub matrix-length : length (matrix b) ≡ rows b
  unfolding matrix
  matrix-length = length-rows (columns b) 0 (rows b)

  pub matrix-row : (i : ℕ) → i < rows b → get_or (matrix b) i [] ≡ coefficients_from b (i * columns b) (columns b)
  unfolding matrix
  matrix-row i h = rows_at (columns b) 0 (rows b) i h ∙ ap (λ (x : ℕ). coefficients_from b x (columns b)) (omega arith)

  pub matrix-row-length : (i : ℕ) → i < rows b → length (get_or (matrix b) i []) ≡ columns b
  matrix-row-length i h = ap length (matrix-row i h) ∙ length-coefficients (i * columns b) (columns b)

  pub matrix_at : (i j : ℕ) → i < rows b → j < columns b → get_or (get_or (matrix b) i []) j (pos 0) ≡ coefficient_at b (i * columns b + j)
  matrix_at i j h k = ap (λ (row : List ℤ). get_or row j (pos 0)) (matrix-row i h) ∙ coefficients_at (i * columns b) (columns b) j k

  -- the bytes of each coefficient are there
  pub coefficient_there : AcceptedMatrix b → (i j : ℕ) → i < rows b → j < columns b → coefficient_place (i * columns b + j) + 1 < length b
  coefficient_there a i j h k =
      let up_to : suc i * columns b ≤ rows b * columns b = mul-le-mul h (le_refl (columns b)) in
      a.there (i * columns b + j) (omega arith)

-- ---- the range of a coefficient

signed-word-range : (x : ℕ) → x < 65536 → (negsuc 32767 ≤ℤ signed_word x) × (signed_word x ≤ℤ pos 32767)
unfolding signed_word
signed-word-range x h = go (ltb x 32768) refl
  where
    go : (t : Bool) → ltb x 32768 ≡ t → (negsuc 32767 ≤ℤ cond t (pos x) (pos x -ℤ pos 65536)) × (cond t (pos x) (pos x -ℤ pos 65536) ≤ℤ pos 32767)
    go true e =
        let l = ltb-true x 32768 e in
        (at_most (minus (nat 32768)) (nat x) (omega arith), at_most (nat x) (nat 32767) (omega arith))
    go false e =
        let l = ltb-false x 32768 e in
        (at_most (minus (nat 32768)) (nat x ⊝ nat 65536) (omega arith), at_most (nat x ⊝ nat 65536) (nat 32767) (omega arith))

pub coefficient_range : (b : List ℕ) → AreBytes b → (index : ℕ) → (negsuc 32767 ≤ℤ coefficient_at b index) × (coefficient_at b index ≤ℤ pos 32767)
unfolding coefficient_at
coefficient_range b all index = signed-word-range (word b (coefficient_place index)) (word_below b all (coefficient_place index))
