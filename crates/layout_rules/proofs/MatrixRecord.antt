-- A matrix record laid out from m, n and the numbers of its coefficients: its length, that it is accepted, and its coefficients.
-- Assumes nothing.
use Prim.Native.Nat.{ℕ, zero, suc, ◌*◌, ◌<◌, ◌≤◌}
use mathlib.Core.Path.{◌≡◌, refl, sym, ap, ◌∙◌}
use mathlib.Core.List.{List, [], ◌∷◌, ◌++◌, flat_map, append-nil}
use native.Mathlib.Omega.{arith}
use native.Mathlib.Nat.{add-zero, mul-le-mul}
use lib.ListN.{length, get_or, drop}
use Rattle.limits.specs.Limits.{max_rows, max_columns}
use Rattle.limits.specs.Size.{SizeLimits}
use Rattle.limits.proofs.Size.{size-inside}
use Rattle.layout_rules.proofs.LittleEndian.{AreBytes, word_of, word-drop}
use Rattle.layout_rules.proofs.Lengths.{length_records, records_at}
use Rattle.layout_rules.proofs.MatrixRefusal.{none}
use Rattle.layout_rules.specs.Bytes.{little_endian, word}
use Rattle.layout_rules.specs.Matrix.{matrix_record, matrix_length, longest_record, matrix_refusal, coefficient_place, coefficient_at, signed_word}

-- the coefficients' bytes
length-words : (words : List ℕ) → length (flat_map little_endian words) ≡ 2 * length words
length-words = length_records little_endian 2 (λ x. refl)

words-bytes : (words : List ℕ) → ((k : ℕ) → get_or words k 0 < 65536) → AreBytes (flat_map little_endian words)
unfolding flat_map
words-bytes [] below i = omega arith
words-bytes (x ∷ words) below zero = omega arith
words-bytes (x ∷ words) below (suc zero) = omega (arith, below 0)
words-bytes (x ∷ words) below (suc (suc i)) = words-bytes words (λ k. below (suc k)) i

-- "134 bytes always suffice."
pub longest-record : longest_record ≡ 134
longest-record = refl

pub record-fits : (m n : ℕ) → SizeLimits m n → matrix_length m n ≤ longest_record
record-fits m n l = let few : m * n ≤ max_rows * max_columns = mul-le-mul l.rows-most l.columns-most in omega arith

module _ (m n : ℕ) (words : List ℕ) where
  abbrev bytes : List ℕ
  bytes = matrix_record m n words

  matrix-word : (k : ℕ) → k < length words → word bytes (coefficient_place k) ≡ get_or words k 0
  matrix-word k h =
      sym (word-drop bytes 6 (2 * k)) ∙ ap (word (flat_map little_endian words)) (sym (add-zero (2 * k)))
      ∙ sym (word-drop (flat_map little_endian words) (2 * k) 0)
      ∙ ap (λ (l : List ℕ). word (drop (2 * k) l) 0) (sym (append-nil (flat_map little_endian words)))
      ∙ ap (λ (l : List ℕ). word l 0) (records_at little_endian 2 (λ x. refl) words [] k 0 h)
      ∙ word_of (get_or words k 0) (flat_map little_endian (drop (suc k) words) ++ [])

  module _ (whole : length words ≡ m * n) where
    pub matrix-record-length : length bytes ≡ matrix_length m n
    matrix-record-length = omega (arith, length-words words, whole)

    pub matrix_coefficient : (k : ℕ) → k < m * n → coefficient_at bytes k ≡ signed_word (get_or words k 0)
    unfolding coefficient_at
    matrix_coefficient k h = ap signed_word (matrix-word k (omega (arith, whole)))

    module _ (limits : SizeLimits m n) where
      pub matrix-record-bytes : ((k : ℕ) → get_or words k 0 < 65536) → AreBytes bytes
      matrix-record-bytes below zero = omega arith
      matrix-record-bytes below (suc zero) = omega (arith, matrix-record-length, record-fits m n limits)
      matrix-record-bytes below (suc (suc zero)) = omega arith
      matrix-record-bytes below (suc (suc (suc zero))) = omega arith
      matrix-record-bytes below (suc (suc (suc (suc zero)))) = omega (arith, limits.rows-most)
      matrix-record-bytes below (suc (suc (suc (suc (suc zero))))) = omega (arith, limits.columns-most)
      matrix-record-bytes below (suc (suc (suc (suc (suc (suc i)))))) = words-bytes words below i

      pub matrix-record-accepted : matrix_refusal bytes ≡ 0
      matrix-record-accepted = sym (none bytes (omega arith) (omega arith) refl (size-inside m n limits) matrix-record-length)
