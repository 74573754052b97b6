-- The first coefficients of two seeds, and the 8 by 8 banks of the seeds 0 to 999: there are two.
-- Assumes nothing.
use Rattle.std.proofs.Common.{◌≡◌, ℕ, zero, suc, ◌+◌, ◌-◌, ◌/◌, ◌%◌, ◌^◌, ◌≤◌, Bool, true, ◌&&◌, leb, List, [], ◌∷◌, get_or, pos, negsuc, sym, refl, ap, ◌∙◌, ap₂, zero-add, arith}
use mathlib.Core.List.{flat_map}
use lib.Bits.{bit_xor}
use Rattle.layout_rules.specs.Matrix.{matrix, rows_from, coefficients_from, coefficient_at, signed_word, matrix_record}
use Rattle.netlist_rules.proofs.Conditions.{and_says, at_most_says}
use Rattle.generator.specs.Generator.{grown, upper_half, generated_words, generated_record}
use Rattle.generator.proofs.States.{upper_half_is}

-- ---- by computation

pub first-of-zero : matrix (generated_record 1 3 0) ≡ (negsuc 25033 ∷ pos 15470 ∷ negsuc 9560 ∷ []) ∷ []
unfolding matrix rows_from coefficients_from coefficient_at signed_word generated_record generated_words grown upper_half flat_map
first-of-zero = refl

-- hexadecimal 01234567, by which spread seeds go up
pub first-of-spread : matrix (generated_record 1 3 19088743) ≡ (negsuc 24740 ∷ pos 15762 ∷ negsuc 9271 ∷ []) ∷ []
unfolding matrix rows_from coefficients_from coefficient_at signed_word generated_record generated_words grown upper_half flat_map
first-of-spread = refl

pub zero-and-one : generated_record 8 8 0 ≡ generated_record 8 8 1
unfolding generated_record generated_words grown upper_half flat_map
zero-and-one = refl

-- ---- seeds that give one bank

-- what a state gives depends on its upper half alone
upper_half_same : (x y : ℕ) → x / 2 ^ 16 ≡ y / 2 ^ 16 → upper_half x ≡ upper_half y
upper_half_same x y e =
    let highest : x / 2 ^ 31 ≡ y / 2 ^ 31 = omega arith in
    upper_half_is x ∙ ap₂ bit_xor e highest ∙ sym (upper_half_is y)

-- so much added to a state carries into the upper half in none of the next k states
unfoldable no_carry : ℕ → ℕ → ℕ → Bool
no_carry more state zero = true
no_carry more state (suc k) = leb (grown state % 2 ^ 16 + more) 65535 && no_carry more (grown state) k

same-words : (more d state k : ℕ) → d ≤ more → no_carry more state k ≡ true → generated_words (state + d) k ≡ generated_words state k
unfolding generated_words grown no_carry
same-words more d state zero h e = refl
same-words more d state (suc k) h e =
    let low = grown state % 2 ^ 16 + more in
    let both = (and_says (leb low 65535) (no_carry more (grown state) k) (at_most_says low 65535) (λ t. t, λ t. t)).0 e in
    let room : low ≤ 65535 = both.0 in
    let next : grown (state + d) ≡ grown state + d = omega (arith, room) in
    let upper : grown (state + d) / 2 ^ 16 ≡ grown state / 2 ^ 16 = omega (arith, room, next) in
    ap₂ ◌∷◌ (upper_half_same (grown (state + d)) (grown state) upper) (ap (λ (s : ℕ). generated_words s k) next ∙ same-words more d (grown state) k h both.1)

same_bank : (more d seed : ℕ) → d ≤ more → no_carry more seed 64 ≡ true → generated_record 8 8 (seed + d) ≡ generated_record 8 8 seed
unfolding generated_record
same_bank more d seed h e = ap (matrix_record 8 8) (same-words more d seed 64 h e)

-- the seeds 0 to 978 give one bank
pub first_bank : (seed : ℕ) → seed ≤ 978 → generated_record 8 8 seed ≡ generated_record 8 8 0
unfolding no_carry grown
first_bank seed h = ap (generated_record 8 8) (sym (zero-add seed)) ∙ same_bank 978 seed 0 h refl

-- and those from 979 to 999 one other
pub second_bank : (seed : ℕ) → 979 ≤ seed → seed ≤ 999 → generated_record 8 8 seed ≡ generated_record 8 8 979
unfolding no_carry grown
second_bank seed l h =
    let from : seed ≡ 979 + (seed - 979) = omega arith in
    ap (generated_record 8 8) from ∙ same_bank 20 (seed - 979) 979 (omega arith) refl

pub banks-differ : generated_record 8 8 0 ≡ generated_record 8 8 979 → ⊥
unfolding generated_record generated_words grown upper_half flat_map
banks-differ e = omega (arith, ap (λ (l : List ℕ). get_or l 46 0) e)
