-- A matrix record is its head and its coefficients, also as they are written.
-- Assumes nothing.
use Prim.Native.Nat.{ℕ, ◌+◌, ◌*◌, ◌≤◌}
use mathlib.Core.Path.{◌≡◌, refl, sym, ap, ◌∙◌}
use mathlib.Core.List.{List, ◌∷◌, ◌++◌, flat_map}
use native.Mathlib.Nat.{zero-add}
use native.Mathlib.Omega.{arith}
use lib.ListN.{length, drop}
use Rattle.layout_rules.specs.Bytes.{little_endian}
use Rattle.layout_rules.specs.Matrix.{matrix_kind, matrix_record, matrix_length, coefficient_place}
use Rattle.layout_rules.specs.Written.{written}
use Rattle.layout_rules.proofs.Lengths.{length_records}
use Rattle.layout_rules.proofs.MatrixRecord.{matrix-record-length}
use Rattle.layout_rules.proofs.Written.{written_start, written_after}
use Rattle.layout_matrix.specs.Head.{matrix_head}

pub head_then_coefficients : (m n : ℕ) (words : List ℕ) → length words ≡ m * n → matrix_record m n words ≡ matrix_head m n ++ flat_map little_endian words
head_then_coefficients m n words whole =
    let size : 4 + length (m ∷ n ∷ flat_map little_endian words) ≡ matrix_length m n = omega (arith, matrix-record-length m n words whole) in
    ap (λ (x : ℕ). little_endian x ++ (little_endian matrix_kind ++ (m ∷ n ∷ flat_map little_endian words))) size

-- head and coefficients, written one behind the other, are the record
pub record-written : (m n : ℕ) (words buffer with_head : List ℕ) → length words ≡ m * n → matrix_length m n ≤ length buffer
    → with_head ≡ matrix_head m n ++ drop (coefficient_place 0) buffer
    → written with_head (coefficient_place 0) (flat_map little_endian words) ≡ matrix_record m n words ++ drop (length (matrix_record m n words)) buffer
record-written m n words buffer with_head whole room e =
    ap (λ (l : List ℕ). written l (coefficient_place 0) (flat_map little_endian words)) (e ∙ written_start buffer (matrix_head m n) (coefficient_place 0) refl)
    ∙ written_after buffer 0 (matrix_head m n) (flat_map little_endian words) (coefficient_place 0) refl (omega (arith, whole, length_records little_endian 2 (λ x. refl) words))
    ∙ ap (written buffer 0) (sym (head_then_coefficients m n words whole))
    ∙ rw zero-add
