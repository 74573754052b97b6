-- Document 01, "This form is unique": the canonic signed digits of a number are its only ones.
-- Assumes nothing.
use mathlib.Core.Path.{◌≡◌, refl, sym, ap, ap₂, ◌∙◌}
use mathlib.Core.Logic.{◌⊎◌, inl, inr}
use mathlib.Core.List.{List, [], ◌∷◌}
use Prim.Native.Nat.{ℕ, zero, suc}
use native.Mathlib.Omega.{arith}
use lib.IntN.{ℤ, pos, ◌+ℤ◌, ◌*ℤ◌, +ℤ_idl}
use Rattle.digits.specs.Digits.{digit_at, sum_from, Canonic, digit, rest, digits}
use Rattle.digits.proofs.Lowest.{Even, split, digit-is, even_rest, same-digit, same_rest}
use Rattle.digits.proofs.Canonic.{sum-lowest}

-- where the lowest digit is 0 the sum is even
sum_even : (ds : List ℤ) → digit_at ds 0 ≡ pos 0 → Even (sum_from 0 ds)
unfolding sum_from
sum_even [] h = (pos 0, refl)
sum_even (d ∷ ds) h = (sum_from 0 ds, sum-lowest d ds ∙ ap (λ (lowest : ℤ). lowest +ℤ pos 2 *ℤ sum_from 0 ds) h ∙ +ℤ_idl (pos 2 *ℤ sum_from 0 ds))

even_above : (d : ℤ) (ds : List ℤ) → (d ≡ pos 0) ⊎ (digit_at ds 0 ≡ pos 0) → (d ≡ pos 0) ⊎ Even (sum_from 0 ds)
even_above d ds (inl h) = inl h
even_above d ds (inr h) = inr (sum_even ds h)

-- the digits above the lowest are canonic
above : (positions : ℕ) (z y d : ℤ) (ds : List ℤ) → Canonic (suc positions) z (d ∷ ds) → sum_from 0 ds ≡ y → Canonic positions y ds
above positions z y d ds c e = record {
  count = omega (arith, c.count);
  digits = λ i. c.digits (suc i);
  apart = λ i. c.apart (suc i);
  sum = e;
}

-- canonic digits are those that are worked out: the lowest one is decided, and what is left above it
pub canonic_digits : (positions : ℕ) (z : ℤ) (ds : List ℤ) → Canonic positions z ds → ds ≡ digits positions z
unfolding digits
canonic_digits zero z [] c = refl
canonic_digits zero z (d ∷ ds) c = absurd (omega (arith, c.count))
canonic_digits (suc positions) z [] c = absurd (omega (arith, c.count))
canonic_digits (suc positions) z (d ∷ ds) c =
    let same : d +ℤ pos 2 *ℤ sum_from 0 ds ≡ digit z +ℤ pos 2 *ℤ rest z = sym (sum-lowest d ds) ∙ c.sum ∙ split z in
    let lowest : d ≡ digit z = same-digit d (digit z) (sum_from 0 ds) (rest z) (c.digits 0) (digit-is z) same (even_above d ds (c.apart 0)) (even_rest z) in
    let left : sum_from 0 ds ≡ rest z = same_rest d (digit z) (sum_from 0 ds) (rest z) (c.digits 0) (digit-is z) same lowest in
    ap₂ ◌∷◌ lowest (canonic_digits positions (rest z) ds (above positions z (rest z) d ds c left))

pub canonic_unique : (positions : ℕ) (z : ℤ) (ds es : List ℤ) → Canonic positions z ds → Canonic positions z es → ds ≡ es
canonic_unique positions z ds es c d = canonic_digits positions z ds c ∙ sym (canonic_digits positions z es d)
