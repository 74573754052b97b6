-- The states that a seed goes through, and the number that each gives for a coefficient's two bytes.
-- Assumes nothing.
use Rattle.std.proofs.Common.{◌≡◌, ℕ, zero, suc, ◌+◌, ◌-◌, ◌*◌, ◌/◌, ◌%◌, ◌^◌, ◌<◌, ◌≤◌, length, get_or, sym, refl, ap, ◌∙◌, subst, ap₂, arith, shr-shr}
use lib.Bits.{bit_xor, differ, xor_step, xor_zero_r, xor_shr, xor_lt}
use Rattle.generator.specs.Generator.{grown, upper_half, generated_words}
use Rattle.generator.specs.States.{state_after}

-- ---- what a state gives

-- shifted right by 15, a state reaches the upper half by its highest bit alone
pub upper_half_is : (state : ℕ) → upper_half state ≡ bit_xor (state / 2 ^ 16) (state / 2 ^ 31)
unfolding upper_half
upper_half_is state = xor_shr state (state / 2 ^ 15) 16 ∙ ap (bit_xor (state / 2 ^ 16)) (shr-shr state 15 16)

-- so where that bit is 0 the state gives its upper half
pub low-state : (state : ℕ) → state < 2 ^ 31 → upper_half state ≡ state / 2 ^ 16
low-state state h =
    let none : state / 2 ^ 31 ≡ 0 = omega arith in
    upper_half_is state ∙ ap (bit_xor (state / 2 ^ 16)) none ∙ xor_zero_r (state / 2 ^ 16)

-- and where it is 1 its upper half with the lowest bit turned
pub high-state : (state : ℕ) → 2 ^ 31 ≤ state → state < 2 ^ 32 → upper_half state ≡ state / 2 ^ 17 * 2 + (1 - state / 2 ^ 16 % 2)
high-state state l h =
    let one : state / 2 ^ 31 ≡ 1 = omega arith in
    let half : state / 2 ^ 16 / 2 ≡ state / 2 ^ 17 = omega arith in
    upper_half_is state ∙ ap (bit_xor (state / 2 ^ 16)) one ∙ xor_step (state / 2 ^ 16) 1
    ∙ ap₂ (λ (x y : ℕ). x * 2 + y) (xor_zero_r (state / 2 ^ 16 / 2) ∙ half) (turned (state / 2 ^ 16 % 2) (omega arith))
  where
    turned : (x : ℕ) → x < 2 → differ x 1 ≡ 1 - x
    turned zero h = refl
    turned (suc zero) h = refl
    turned (suc (suc x)) h = absurd (omega arith)

upper_half_below : (state : ℕ) → state < 2 ^ 32 → upper_half state < 2 ^ 16
upper_half_below state h =
    subst (λ (x : ℕ). x < 2 ^ 16) (sym (upper_half_is state)) (xor_lt 16 (state / 2 ^ 16) (state / 2 ^ 31) (omega arith) (omega arith))

grown-below : (state : ℕ) → grown state < 2 ^ 32
unfolding grown
grown-below state = omega arith

-- ---- the states

pub length_generated : (state k : ℕ) → length (generated_words state k) ≡ k
unfolding generated_words
length_generated state zero = refl
length_generated state (suc k) = ap suc (length_generated (grown state) k)

-- coefficient k is given by the state after k + 1 coefficients
pub generated_at : (seed count k : ℕ) → k < count → get_or (generated_words seed count) k 0 ≡ upper_half (state_after seed (suc k))
unfolding generated_words grown
generated_at seed zero k h = absurd (omega arith)
generated_at seed (suc count) zero h = ap upper_half (omega arith)
generated_at seed (suc count) (suc k) h = generated_at (grown seed) count k (omega arith) ∙ ap upper_half (omega arith)

pub generated_below : (state count k : ℕ) → get_or (generated_words state count) k 0 < 2 ^ 16
unfolding generated_words
generated_below state zero k = omega arith
generated_below state (suc count) zero = upper_half_below (grown state) (grown-below state)
generated_below state (suc count) (suc k) = generated_below (grown state) count k
