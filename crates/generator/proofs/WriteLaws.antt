-- The coefficients of a generated record, written one after another behind its head.
-- Assumes nothing.
use Rattle.std.proofs.Common.{◌≡◌, ℕ, suc, ◌+◌, ◌-◌, ◌<◌, ◌≤◌, List, length, sym, refl, ap, ◌∙◌, arith}
use mathlib.Core.List.{flat_map}
use Rattle.layout_rules.specs.Bytes.{little_endian}
use Rattle.layout_rules.specs.Matrix.{coefficient_place}
use Rattle.layout_rules.specs.Written.{written}
use Rattle.layout_rules.proofs.Written.{record_next, records_none}
use Rattle.generator.specs.Generator.{grown, upper_half, generated_words}
use Rattle.generator.proofs.States.{length_generated}

-- the coefficients from an index on, at their place
abbrev pub with_coefficients : List ℕ → ℕ → ℕ → ℕ → List ℕ
with_coefficients buffer state count index = written buffer (coefficient_place index) (flat_map little_endian (generated_words state (count - index)))

-- one coefficient
module _ (buffer after : List ℕ) (state count index : ℕ) (more : index < count) (room : coefficient_place count ≤ length buffer)
    (IsWritten-one : after ≡ written buffer (coefficient_place index) (little_endian (upper_half (grown state)))) where
  pub coefficient_next : with_coefficients after (grown state) count (index + 1) ≡ with_coefficients buffer state count index
  unfolding generated_words
  coefficient_next =
      let left : count - index ≡ suc (count - (index + 1)) = omega arith in
      record_next little_endian 2 (λ x. refl) buffer after (coefficient_place index) (coefficient_place (index + 1)) (upper_half (grown state))
      (generated_words (grown state) (count - (index + 1))) (omega arith) (omega (arith, length_generated (grown state) (count - (index + 1)))) IsWritten-one
      ∙ ap (λ (k : ℕ). written buffer (coefficient_place index) (flat_map little_endian (generated_words state k))) (sym left)

-- at the end none is left
pub coefficients-end : (buffer : List ℕ) (state count index : ℕ) → count ≤ index → buffer ≡ with_coefficients buffer state count index
unfolding generated_words
coefficients-end buffer state count index h =
    let none : count - index ≡ 0 = omega arith in
    records_none little_endian 2 (λ x. refl) buffer (coefficient_place index) (generated_words state (count - index)) (ap (generated_words state) none)
