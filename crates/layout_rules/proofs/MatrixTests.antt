-- The refusals 1 to 5 of a matrix's bytes are those of the first of their tests that fails.
-- Assumes nothing.
use Prim.Native.Nat.{ℕ, ◌≤◌}
use mathlib.Core.Path.{◌≡◌}
use mathlib.Core.Bool.{false, not}
use mathlib.Core.Logic.{◌↔◌}
use mathlib.Core.List.{List, [], ◌∷◌}
use native.Mathlib.Omega.{arith}
use lib.Dec.{ltb, eqb}
use lib.ListN.{length}
use borrow.Author.Tests.{ltb-false, le-ltb, eqb-true, eq-eqb, not-false}
use Rattle.limits.specs.Size.{SizeLimits, size_outside}
use Rattle.limits.proofs.Size.{size-within, size-inside}
use Rattle.layout_rules.specs.Bytes.{word}
use Rattle.layout_rules.specs.Matrix.{rows, columns, matrix_length, matrix_refusal}
use Rattle.layout_rules.specs.Tests.{tested, matrix_record_tests, matrix_tests}
use Rattle.layout_rules.proofs.MatrixRefusal.{some_bytes}
use Rattle.layout_rules.proofs.TestLaws.{RefusedBy, NumbersBelow, one_fault, no_test}

other_says : (x y : ℕ) → (not (eqb x y) ≡ false) ↔ (x ≡ y)
other_says x y = (λ e. eqb-true x y (not-false _ e), λ e. rw (eq-eqb x y e))

module _ (b : List ℕ) where
  record-refused : eqb (length b) 0 ≡ false → RefusedBy (matrix_record_tests b) (matrix_refusal b) 0
  unfolding matrix_refusal
  record-refused some =
      let size = length b ≡ matrix_length (rows b) (columns b) in
      let from_five = tested 5 0 size ∷ [] in
      let from-four = tested 4 0 (SizeLimits (rows b) (columns b)) ∷ from_five in
      let from_three = tested 3 0 (word b 2 ≡ 1) ∷ from-four in
      let from_two = tested 2 0 (word b 0 ≡ length b) ∷ from_three in
      rw some (one_fault from_two (ltb (length b) 6) (6 ≤ length b) 1 0 _ (omega arith) (ltb-false (length b) 6, le-ltb (length b) 6)
      (one_fault from_three (not (eqb (word b 0) (length b))) (word b 0 ≡ length b) 2 0 _ (omega arith) (other_says (word b 0) (length b))
      (one_fault from-four (not (eqb (word b 2) 1)) (word b 2 ≡ 1) 3 0 _ (omega arith) (other_says (word b 2) 1)
      (one_fault from_five (size_outside (rows b) (columns b)) (SizeLimits (rows b) (columns b)) 4 0 _ (omega arith) (size-within (rows b) (columns b), size-inside (rows b) (columns b))
      (one_fault [] (not (eqb (length b) (matrix_length (rows b) (columns b)))) size 5 0 0 (omega arith)
      (other_says (length b) (matrix_length (rows b) (columns b))) (no_test 0))))))

pub matrix-refused : (b : List ℕ) → RefusedBy (matrix_tests b) (matrix_refusal b) 0
unfolding matrix_refusal
matrix-refused [] = no_test 0
matrix-refused (x ∷ xs) = record-refused (x ∷ xs) (some_bytes (x ∷ xs) (omega arith))

pub matrix_numbers : (b : List ℕ) → NumbersBelow 6 (matrix_tests b)
matrix_numbers [] = tt
matrix_numbers (x ∷ xs) = omega arith
