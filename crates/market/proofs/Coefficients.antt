-- The coefficients, written one after another behind the head of a matrix record.
-- Assumes nothing.
use Prim.Native.Nat.{ℕ, suc, ◌+◌, ◌*◌, ◌≤◌, ◌<◌}
use mathlib.Core.Path.{◌≡◌, refl, sym, ap, ◌∙◌}
use mathlib.Core.List.{List, [], ◌∷◌, ◌++◌, flat_map}
use native.Mathlib.Omega.{arith}
use lib.ListN.{length}
use Rattle.layout_rules.specs.Bytes.{little_endian}
use Rattle.layout_rules.specs.Matrix.{coefficient_place}
use Rattle.layout_rules.specs.Places.{first_records}
use Rattle.layout_rules.specs.Written.{written}
use Rattle.layout_rules.proofs.FirstRecords.{length-first}
use Rattle.layout_rules.proofs.Lengths.{length_records}
use Rattle.layout_rules.proofs.Written.{written-nothing, written_after, length-written}

flat_last : (xs : List ℕ) (x : ℕ) → flat_map little_endian (xs ++ (x ∷ [])) ≡ flat_map little_endian xs ++ little_endian x
unfolding flat_map
flat_last [] x = refl
flat_last (y ∷ xs) x = ap (λ (l : List ℕ). little_endian y ++ l) (flat_last xs x)

-- none yet
pub coefficients-none : (f : ℕ → ℕ) (buffer : List ℕ) → buffer ≡ written buffer (coefficient_place 0) (flat_map little_endian (first_records f 0))
unfolding first_records flat_map
coefficients-none f buffer = sym (written-nothing buffer (coefficient_place 0))

-- one coefficient more
module _ (f : ℕ → ℕ) (count k : ℕ) (old buffer after : List ℕ) (more : k < count) (room : coefficient_place count ≤ length old)
    (before : buffer ≡ written old (coefficient_place 0) (flat_map little_endian (first_records f k)))
    (one : after ≡ written buffer (coefficient_place k) (little_endian (f k))) where
  words-length : length (flat_map little_endian (first_records f k)) ≡ 2 * k
  words-length = length_records little_endian 2 (λ x. refl) (first_records f k) ∙ ap (λ (j : ℕ). 2 * j) (length-first f k)

  buffer-length : length buffer ≡ length old
  buffer-length = ap length before ∙ length-written old (coefficient_place 0) (flat_map little_endian (first_records f k)) (omega (arith, words-length))

  pub coefficient_next : after ≡ written old (coefficient_place 0) (flat_map little_endian (first_records f (k + 1)))
  unfolding first_records
  coefficient_next =
      let next : k + 1 ≡ suc k = omega arith in
      one ∙ ap (λ (l : List ℕ). written l (coefficient_place k) (little_endian (f k))) before
      ∙ written_after old (coefficient_place 0) (flat_map little_endian (first_records f k)) (little_endian (f k)) (coefficient_place k) (omega (arith, words-length)) (omega arith)
      ∙ ap (written old (coefficient_place 0)) (sym (flat_last (first_records f k) (f k)))
      ∙ ap (λ (j : ℕ). written old (coefficient_place 0) (flat_map little_endian (first_records f j))) (sym next)
