-- The digits that are worked out are the canonic signed digits: they are digits, no two neighbours are nonzero, and over enough
-- positions they sum to the number.
-- Assumes nothing.
use mathlib.Core.Path.{◌≡◌, refl, sym, ap, ◌∙◌}
use mathlib.Core.Logic.{inl, inr}
use mathlib.Core.List.{List, [], ◌∷◌}
use Prim.Native.Nat.{ℕ, zero, suc, ◌*◌, ◌-◌, ◌^◌, ◌≤◌}
use native.Mathlib.Omega.{arith}
use native.Mathlib.Nat.{pow-succ'}
use lib.IntN.{ℤ, pos, ◌+ℤ◌, ◌*ℤ◌, nat_abs}
use lib.ListN.{length}
use Rattle.integers.proofs.Expression.{at, nat, ◌⊕◌, ◌⊗◌, equal, equal_parts, size}
use Rattle.digits.specs.Digits.{IsDigit, none, digit_at, Apart, sum_from, Canonic, digit, rest, digits}
use Rattle.digits.proofs.Lowest.{split, digit-is, apart, rest-small}

-- ---- of every number, over any positions

pub digits-length : (positions : ℕ) (z : ℤ) → length (digits positions z) ≡ positions
unfolding digits
digits-length zero z = refl
digits-length (suc positions) z = ap suc (digits-length positions (rest z))

pub digits_are : (positions : ℕ) (z : ℤ) (i : ℕ) → IsDigit (digit_at (digits positions z) i)
unfolding digits
digits_are zero z i = none
digits_are (suc positions) z zero = digit-is z
digits_are (suc positions) z (suc i) = digits_are positions (rest z) i

pub digits-apart : (positions : ℕ) (z : ℤ) → Apart (digits positions z)
unfolding digits
digits-apart zero z i = inl refl
digits-apart (suc zero) z i = inr refl
digits-apart (suc (suc positions)) z zero = apart z
digits-apart (suc (suc positions)) z (suc i) = digits-apart (suc positions) (rest z) i

-- ---- the sum, which doubles with each position

pub sum_above : (k : ℕ) (ds : List ℤ) → sum_from (suc k) ds ≡ pos 2 *ℤ sum_from k ds
unfolding sum_from
sum_above k [] = refl
sum_above k (d ∷ ds) = rw (pow-succ' 2 k)
    (equal (at d ⊗ nat (2 * 2 ^ k) ⊕ at (sum_from (suc (suc k)) ds)) (nat 2 ⊗ (at d ⊗ nat (2 ^ k) ⊕ at (sum_from (suc k) ds)))
    (omega (arith, equal_parts (at (sum_from (suc (suc k)) ds)) (nat 2 ⊗ at (sum_from (suc k) ds)) (sum_above (suc k) ds))))

-- the lowest digit, and twice the sum of the others
pub sum-lowest : (d : ℤ) (ds : List ℤ) → sum_from 0 (d ∷ ds) ≡ d +ℤ pos 2 *ℤ sum_from 0 ds
unfolding sum_from
sum-lowest d ds = equal (at d ⊗ nat 1 ⊕ at (sum_from 1 ds)) (at d ⊕ nat 2 ⊗ at (sum_from 0 ds)) (omega (arith, equal_parts (at (sum_from 1 ds)) (nat 2 ⊗ at (sum_from 0 ds)) (sum_above 0 ds)))

-- as far as canonic digits reach: to a third of the power of two above them
pub digits_sum : (positions : ℕ) (z : ℤ) → 3 * nat_abs z ≤ 2 ^ suc positions → sum_from 0 (digits positions z) ≡ z
unfolding digits
digits_sum zero z h = (unfold sum_from in equal (nat 0) (at z) (omega (arith, size (at z))))
digits_sum (suc positions) z h =
    sum-lowest (digit z) (digits positions (rest z))
    ∙ ap (λ (above : ℤ). digit z +ℤ pos 2 *ℤ above) (digits_sum positions (rest z) (rw (pow-succ' 2 positions) (rest-small z (2 ^ positions) (omega (arith, pow-succ' 2 (suc positions), pow-succ' 2 positions)))))
    ∙ sym (split z)

-- ---- the canonic signed digits

pub canonic_within : (positions : ℕ) (z : ℤ) → 3 * nat_abs z ≤ 2 ^ suc positions → Canonic positions z (digits positions z)
canonic_within positions z h = record {
  count = digits-length positions z;
  digits = digits_are positions z;
  apart = digits-apart positions z;
  sum = digits_sum positions z h;
}

-- so the positions 0 to P − 1 suffice from −2^(P − 1) to 2^(P − 1)
pub digits_canonic : (positions : ℕ) (z : ℤ) → nat_abs z ≤ 2 ^ (positions - 1) → 1 ≤ positions → Canonic positions z (digits positions z)
digits_canonic zero z h l = absurd (omega arith)
digits_canonic (suc positions) z h l = canonic_within (suc positions) z (omega (arith, pow-succ' 2 (suc positions), pow-succ' 2 positions, ap (λ (n : ℕ). 2 ^ n) one_less))
  where
    one_less : suc positions - 1 ≡ positions
    one_less = omega arith
