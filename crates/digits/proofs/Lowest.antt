-- One position: a number is its digit and twice the rest, the digit is −1, 0 or 1, and the rest of an odd number is even.
-- These three decide the digit and the rest.
-- Assumes nothing.
use mathlib.Core.Path.{◌≡◌, refl, sym, ap, ◌∙◌}
use mathlib.Core.Logic.{◌⊎◌, inl, inr}
use Prim.Native.Nat.{ℕ, zero, suc, ◌+◌, ◌*◌, ◌-◌, ◌/◌, ◌%◌, ◌≤◌, ◌<◌}
use native.Mathlib.Omega.{arith}
use lib.IntN.{ℤ, pos, negsuc, ◌+ℤ◌, ◌*ℤ◌, nat_abs, +ℤ_idl}
use lib.Signed.{shr_z}
use Rattle.integers.proofs.Expression.{at, nat, minus, ◌⊕◌, ◌⊗◌, equal, equal_parts, size, positive, negative}
use Rattle.integers.proofs.Size.{abs-*}
use Rattle.digits.specs.Digits.{IsDigit, minus_one, none, one, mod_four, digit_of, carry_of, digit, rest}

abbrev pub Even : ℤ → Type 0
Even x = (half : ℤ) × (x ≡ pos 2 *ℤ half)

-- ---- a number and its half, by its remainder and its quotient by 4

pub mod_four-below : (z : ℤ) → mod_four z < 4
mod_four-below (pos a) = omega arith
mod_four-below (negsuc a) = omega arith

by_four : (z : ℤ) → z ≡ pos (mod_four z) +ℤ pos 4 *ℤ shr_z z 4
by_four (pos a) = equal (nat a) (nat (a % 4) ⊕ nat 4 ⊗ nat (a / 4)) (omega arith)
by_four (negsuc a) = equal (minus (nat (suc a))) (nat (3 - a % 4) ⊕ nat 4 ⊗ minus (nat (suc (a / 4)))) (omega arith)

half_by_four : (z : ℤ) → shr_z z 2 ≡ pos (mod_four z / 2) +ℤ pos 2 *ℤ shr_z z 4
half_by_four (pos a) = equal (nat (a / 2)) (nat (a % 4 / 2) ⊕ nat 2 ⊗ nat (a / 4)) (omega arith)
half_by_four (negsuc a) = equal (minus (nat (suc (a / 2)))) (nat ((3 - a % 4) / 2) ⊕ nat 2 ⊗ minus (nat (suc (a / 4)))) (omega arith)

-- the rest of r + 4q
abbrev rest_of : ℕ → ℤ → ℤ
rest_of r q = (pos (r / 2) +ℤ pos 2 *ℤ q) +ℤ carry_of r

split_of : (r : ℕ) (q : ℤ) → r < 4 → pos r +ℤ pos 4 *ℤ q ≡ digit_of r +ℤ pos 2 *ℤ rest_of r q
split_of zero q h = equal (nat 0 ⊕ nat 4 ⊗ at q) (nat 0 ⊕ nat 2 ⊗ (nat 0 ⊕ nat 2 ⊗ at q ⊕ nat 0)) (omega arith)
split_of (suc zero) q h = equal (nat 1 ⊕ nat 4 ⊗ at q) (nat 1 ⊕ nat 2 ⊗ (nat 0 ⊕ nat 2 ⊗ at q ⊕ nat 0)) (omega arith)
split_of (suc (suc zero)) q h = equal (nat 2 ⊕ nat 4 ⊗ at q) (nat 0 ⊕ nat 2 ⊗ (nat 1 ⊕ nat 2 ⊗ at q ⊕ nat 0)) (omega arith)
split_of (suc (suc (suc zero))) q h = equal (nat 3 ⊕ nat 4 ⊗ at q) (minus (nat 1) ⊕ nat 2 ⊗ (nat 1 ⊕ nat 2 ⊗ at q ⊕ nat 1)) (omega arith)
split_of (suc (suc (suc (suc r)))) q h = absurd (omega arith)

even_of : (r : ℕ) (q : ℤ) → r < 4 → (digit_of r ≡ pos 0) ⊎ Even (rest_of r q)
even_of zero q h = inl refl
even_of (suc zero) q h = inr (q, equal (nat 0 ⊕ nat 2 ⊗ at q ⊕ nat 0) (nat 2 ⊗ at q) (omega arith))
even_of (suc (suc zero)) q h = inl refl
even_of (suc (suc (suc zero))) q h = inr (q +ℤ pos 1, equal (nat 1 ⊕ nat 2 ⊗ at q ⊕ nat 1) (nat 2 ⊗ (at q ⊕ nat 1)) (omega arith))
even_of (suc (suc (suc (suc r)))) q h = absurd (omega arith)

digit-of : (r : ℕ) → IsDigit (digit_of r)
digit-of zero = none
digit-of (suc zero) = one
digit-of (suc (suc zero)) = none
digit-of (suc (suc (suc r))) = minus_one

-- ---- of every number

pub split : (z : ℤ) → z ≡ digit z +ℤ pos 2 *ℤ rest z
unfolding digit rest
split z =
    by_four z ∙ split_of (mod_four z) (shr_z z 4) (mod_four-below z)
    ∙ ap (λ (half : ℤ). digit_of (mod_four z) +ℤ pos 2 *ℤ (half +ℤ carry_of (mod_four z))) (sym (half_by_four z))

pub digit-is : (z : ℤ) → IsDigit (digit z)
unfolding digit
digit-is z = digit-of (mod_four z)

pub even_rest : (z : ℤ) → (digit z ≡ pos 0) ⊎ Even (rest z)
unfolding digit rest
even_rest z = rw (half_by_four z) (even_of (mod_four z) (shr_z z 4) (mod_four-below z))

pub digit-size : {d : ℤ} → IsDigit d → nat_abs d ≤ 1
digit-size minus_one = omega arith
digit-size none = omega arith
digit-size one = omega arith

-- ---- they decide the digit and the rest

-- a digit p − n is the digit q − m where q − m is 0 and they differ by an even number, and where they differ by a multiple of 4
same_by_two : (p n q m u v : ℕ) → (p - n) + (n - p) ≤ 1 → q ≡ m → p + m + 2 * u ≡ q + n + 2 * v → p + m ≡ q + n
same_by_two p n q m u v h k e = omega arith

same_by_four : (p n q m u v : ℕ) → (p - n) + (n - p) ≤ 1 → (q - m) + (m - q) ≤ 1 → p + m + 4 * u ≡ q + n + 4 * v → p + m ≡ q + n
same_by_four p n q m u v h k e = omega arith

digit_by_two : (a b x y : ℤ) → nat_abs a ≤ 1 → b ≡ pos 0 → a +ℤ pos 2 *ℤ x ≡ b +ℤ pos 2 *ℤ y → a ≡ b
digit_by_two a b x y s k e = equal (at a) (at b)
    (same_by_two (positive a) (negative a) (positive b) (negative b) (positive x + negative y) (positive y + negative x) (omega (arith, size (at a))) (omega (arith, equal_parts (at b) (nat 0) k))
    (omega (arith, equal_parts (at a ⊕ nat 2 ⊗ at x) (at b ⊕ nat 2 ⊗ at y) e)))

digit_by_four : (a b x y : ℤ) → nat_abs a ≤ 1 → nat_abs b ≤ 1 → Even x → Even y → a +ℤ pos 2 *ℤ x ≡ b +ℤ pos 2 *ℤ y → a ≡ b
digit_by_four a b x y s t (u, h) (v, k) e = equal (at a) (at b)
    (same_by_four (positive a) (negative a) (positive b) (negative b) (positive u + negative v) (positive v + negative u) (omega (arith, size (at a))) (omega (arith, size (at b)))
    (omega (
      arith,
      equal_parts (at a ⊕ nat 2 ⊗ at x) (at b ⊕ nat 2 ⊗ at y) e,
      equal_parts (at x) (nat 2 ⊗ at u) h,
      equal_parts (at y) (nat 2 ⊗ at v) k,
    )))

module _ (a b x y : ℤ) (s : IsDigit a) (t : IsDigit b) (e : a +ℤ pos 2 *ℤ x ≡ b +ℤ pos 2 *ℤ y) where
  pub same-digit : (a ≡ pos 0) ⊎ Even x → (b ≡ pos 0) ⊎ Even y → a ≡ b
  same-digit (inl h) k = sym (digit_by_two b a y x (digit-size t) h (sym e))
  same-digit (inr h) (inl k) = digit_by_two a b x y (digit-size s) k e
  same-digit (inr h) (inr k) = digit_by_four a b x y (digit-size s) (digit-size t) h k e

  pub same_rest : a ≡ b → x ≡ y
  same_rest h = equal (at x) (at y) (omega (arith, equal_parts (at a ⊕ nat 2 ⊗ at x) (at b ⊕ nat 2 ⊗ at y) e, equal_parts (at a) (at b) h))

-- an even number's digit is 0
pub even_digit : (z : ℤ) → Even z → digit z ≡ pos 0
even_digit z (u, h) = digit_by_two (digit z) (pos 0) (rest z) u (digit-size (digit-is z)) refl (sym (split z) ∙ h ∙ sym (+ℤ_idl (pos 2 *ℤ u)))

-- neighbours
pub apart : (z : ℤ) → (digit z ≡ pos 0) ⊎ (digit (rest z) ≡ pos 0)
apart z = next (even_rest z)
  where
    next : (digit z ≡ pos 0) ⊎ Even (rest z) → (digit z ≡ pos 0) ⊎ (digit (rest z) ≡ pos 0)
    next (inl h) = inl h
    next (inr h) = inr (even_digit (rest z) h)

-- ---- the rest is half as large

rest-size : (z : ℤ) → 2 * nat_abs (rest z) ≤ nat_abs z + nat_abs (digit z)
rest-size z = omega (arith, size (at z), size (at (digit z)), size (at (rest z)), equal_parts (at z) (at (digit z) ⊕ nat 2 ⊗ at (rest z)) (split z))

third : (s u m : ℕ) → 3 * s ≤ 4 * m → 4 * u ≤ s + 1 → 3 * u ≤ m
third s u m h k = omega arith

-- a third of a power of two, the largest size over given positions, halves with each position
pub rest-small : (z : ℤ) (m : ℕ) → 3 * nat_abs z ≤ 4 * m → 3 * nat_abs (rest z) ≤ 2 * m
rest-small z m h = by_case (even_rest z)
  where
    by_case : (digit z ≡ pos 0) ⊎ Even (rest z) → 3 * nat_abs (rest z) ≤ 2 * m
    by_case (inl k) = omega (arith, rest-size z, ap nat_abs k)
    by_case (inr (u, k)) =
        let twice : nat_abs (rest z) ≡ 2 * nat_abs u = ap nat_abs k ∙ abs-* (pos 2) u in
        omega (arith, third (nat_abs z) (nat_abs u) m h (omega (arith, rest-size z, digit-size (digit-is z))))
