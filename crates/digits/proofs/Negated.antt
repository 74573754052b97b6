-- The canonic signed digits of a negated number are its digits negated, over any positions.
-- Assumes nothing.
use mathlib.Core.Path.{◌≡◌, refl, sym, ap, ap₂, ◌∙◌}
use mathlib.Core.Logic.{◌⊎◌, inl, inr}
use mathlib.Core.List.{◌∷◌, map}
use Prim.Native.Nat.{ℕ, zero, suc}
use native.Mathlib.Omega.{arith}
use lib.IntN.{ℤ, pos, neg_ℤ, ◌+ℤ◌, ◌*ℤ◌}
use Rattle.integers.proofs.Expression.{at, nat, minus, ◌⊕◌, ◌⊗◌, equal}
use Rattle.digits.specs.Digits.{IsDigit, minus_one, none, one, digit, rest, digits}
use Rattle.digits.proofs.Lowest.{Even, split, digit-is, even_rest, same-digit, same_rest}

negated-digit : {d : ℤ} → IsDigit d → IsDigit (neg_ℤ d)
negated-digit minus_one = one
negated-digit none = none
negated-digit one = minus_one

negated_even : (d x : ℤ) → (d ≡ pos 0) ⊎ Even x → (neg_ℤ d ≡ pos 0) ⊎ Even (neg_ℤ x)
negated_even d x (inl e) = inl (ap neg_ℤ e)
negated_even d x (inr (half, e)) = inr (neg_ℤ half, ap neg_ℤ e ∙ equal (minus (nat 2 ⊗ at half)) (nat 2 ⊗ minus (at half)) (omega arith))

-- the negated digit and the negated rest are a digit and a rest of the negated number, and these are decided
module _ (z : ℤ) where
  split_negated : digit (neg_ℤ z) +ℤ pos 2 *ℤ rest (neg_ℤ z) ≡ neg_ℤ (digit z) +ℤ pos 2 *ℤ neg_ℤ (rest z)
  split_negated =
      sym (split (neg_ℤ z)) ∙ ap neg_ℤ (split z)
      ∙ equal (minus (at (digit z) ⊕ nat 2 ⊗ at (rest z))) (minus (at (digit z)) ⊕ nat 2 ⊗ minus (at (rest z))) (omega arith)

  digit-negated : digit (neg_ℤ z) ≡ neg_ℤ (digit z)
  digit-negated = same-digit (digit (neg_ℤ z)) (neg_ℤ (digit z)) (rest (neg_ℤ z)) (neg_ℤ (rest z)) (digit-is (neg_ℤ z)) (negated-digit (digit-is z))
      split_negated (even_rest (neg_ℤ z)) (negated_even (digit z) (rest z) (even_rest z))

  rest-negated : rest (neg_ℤ z) ≡ neg_ℤ (rest z)
  rest-negated = same_rest (digit (neg_ℤ z)) (neg_ℤ (digit z)) (rest (neg_ℤ z)) (neg_ℤ (rest z)) (digit-is (neg_ℤ z)) (negated-digit (digit-is z))
      split_negated digit-negated

pub digits-negated : (positions : ℕ) (z : ℤ) → digits positions (neg_ℤ z) ≡ map neg_ℤ (digits positions z)
unfolding digits
digits-negated zero z = refl
digits-negated (suc positions) z = ap₂ ◌∷◌ (digit-negated z) (ap (digits positions) (rest-negated z) ∙ digits-negated positions (rest z))
