-- The bridge from ℤ to `omega`. A side of an equation or an order is written as an expression, with `at z` for a part that is left
-- whole, and `omega` proves what is left: a statement of ℕ about the positive and the negative part of each `at z`.
--     law : (a b c : ℤ) → a *ℤ (b +ℤ c) ≡ a *ℤ b +ℤ a *ℤ c
--     law a b c = equal (at a ⊗ (at b ⊕ at c)) (at a ⊗ at b ⊕ at a ⊗ at c) (omega arith)
-- Assumes nothing.
use mathlib.Core.Path.{◌≡◌, refl, sym, ap, ap₂, ◌∙◌, subst₂}
use mathlib.Core.Logic.{◌⊎◌, inl, inr}
use Prim.Native.Nat.{ℕ, suc, ◌+◌, ◌*◌, ◌-◌, ◌^◌, ◌≤◌, ◌<◌}
use native.Mathlib.Omega.{arith}
use lib.IntN.{ℤ, pos, negsuc, neg_ℤ, ◌+ℤ◌, ◌-ℤ◌, ◌*ℤ◌, nat_abs}
use lib.Signed.{◌≤ℤ◌, ◌<ℤ◌, mag}
use mir.Syntax.{Width}
use mir.Val.{SFits, hbits}
use Rattle.integers.proofs.Difference.{◌⊖◌, pos-⊖, negsuc-⊖, add-⊖, neg-⊖, mul-⊖, abs-⊖, mag-⊖, eq-⊖, le-⊖, lt-⊖, ⊖-le, ⊖-lt, ⊖-eq}

pub positive : ℤ → ℕ
positive (pos k) = k
positive (negsuc k) = 0

pub negative : ℤ → ℕ
negative (pos k) = 0
negative (negsuc k) = suc k

parts : (z : ℤ) → z ≡ positive z ⊖ negative z
unfolding positive negative
parts (pos k) = pos-⊖ k
parts (negsuc k) = negsuc-⊖ k

-- one of the parts is 0
pub one_part : (z : ℤ) → (positive z ≡ 0) ⊎ (negative z ≡ 0)
unfolding positive negative
one_part (pos k) = inr refl
one_part (negsuc k) = inl refl

infixl 65 ◌⊕◌ ◌⊝◌
infixl 70 ◌⊗◌
pub data Expression : Type 0 where
  at : ℤ → Expression
  nat : ℕ → Expression
  minus : Expression → Expression
  ◌⊕◌ ◌⊝◌ ◌⊗◌ : Expression → Expression → Expression

abbrev pub value : Expression → ℤ
value (at z) = z
value (nat k) = pos k
value (minus a) = neg_ℤ (value a)
value (a ⊕ b) = value a +ℤ value b
value (a ⊝ b) = value a -ℤ value b
value (a ⊗ b) = value a *ℤ value b

abbrev mutual
  pub plus_part : Expression → ℕ
  plus_part (at z) = positive z
  plus_part (nat k) = k
  plus_part (minus a) = minus_part a
  plus_part (a ⊕ b) = plus_part a + plus_part b
  plus_part (a ⊝ b) = plus_part a + minus_part b
  plus_part (a ⊗ b) = plus_part a * plus_part b + minus_part a * minus_part b

  pub minus_part : Expression → ℕ
  minus_part (at z) = negative z
  minus_part (nat k) = 0
  minus_part (minus a) = plus_part a
  minus_part (a ⊕ b) = minus_part a + minus_part b
  minus_part (a ⊝ b) = minus_part a + plus_part b
  minus_part (a ⊗ b) = plus_part a * minus_part b + minus_part a * plus_part b

sound : (e : Expression) → value e ≡ plus_part e ⊖ minus_part e
sound (at z) = parts z
sound (nat k) = pos-⊖ k
sound (minus a) = ap neg_ℤ (sound a) ∙ neg-⊖ (plus_part a) (minus_part a)
sound (a ⊕ b) = ap₂ ◌+ℤ◌ (sound a) (sound b) ∙ add-⊖ (plus_part a) (minus_part a) (plus_part b) (minus_part b)
sound (a ⊝ b) =
    ap₂ ◌-ℤ◌ (sound a) (sound b)
    ∙ ap (λ z. (plus_part a ⊖ minus_part a) +ℤ z) (neg-⊖ (plus_part b) (minus_part b))
    ∙ add-⊖ (plus_part a) (minus_part a) (minus_part b) (plus_part b)
sound (a ⊗ b) = ap₂ ◌*ℤ◌ (sound a) (sound b) ∙ mul-⊖ (plus_part a) (minus_part a) (plus_part b) (minus_part b)

module _ (a b : Expression) where
  -- from ℕ
  pub equal : plus_part a + minus_part b ≡ plus_part b + minus_part a → value a ≡ value b
  equal h = sound a ∙ eq-⊖ (plus_part a) (minus_part a) (plus_part b) (minus_part b) h ∙ sym (sound b)

  pub at_most : plus_part a + minus_part b ≤ plus_part b + minus_part a → value a ≤ℤ value b
  at_most h = subst₂ ◌≤ℤ◌ (sym (sound a)) (sym (sound b)) (le-⊖ (plus_part a) (minus_part a) (plus_part b) (minus_part b) h)

  pub below : plus_part a + minus_part b < plus_part b + minus_part a → value a <ℤ value b
  below h = subst₂ ◌<ℤ◌ (sym (sound a)) (sym (sound b)) (lt-⊖ (plus_part a) (minus_part a) (plus_part b) (minus_part b) h)

  -- and to ℕ, for a hypothesis
  pub equal_parts : value a ≡ value b → plus_part a + minus_part b ≡ plus_part b + minus_part a
  equal_parts h = ⊖-eq (plus_part a) (minus_part a) (plus_part b) (minus_part b) (sym (sound a) ∙ h ∙ sound b)

  pub at_most_parts : value a ≤ℤ value b → plus_part a + minus_part b ≤ plus_part b + minus_part a
  at_most_parts h = ⊖-le (plus_part a) (minus_part a) (plus_part b) (minus_part b) (subst₂ ◌≤ℤ◌ (sound a) (sound b) h)

  pub below_parts : value a <ℤ value b → plus_part a + minus_part b < plus_part b + minus_part a
  below_parts h = ⊖-lt (plus_part a) (minus_part a) (plus_part b) (minus_part b) (subst₂ ◌<ℤ◌ (sound a) (sound b) h)

-- sizes: the distance from 0, and what a signed width asks
pub size : (e : Expression) → nat_abs (value e) ≡ (plus_part e - minus_part e) + (minus_part e - plus_part e)
size e = ap nat_abs (sound e) ∙ abs-⊖ (plus_part e) (minus_part e)

pub magnitude : (e : Expression) → mag (value e) ≡ (plus_part e - minus_part e) + (minus_part e - suc (plus_part e))
magnitude e = ap mag (sound e) ∙ mag-⊖ (plus_part e) (minus_part e)

-- −2^h ≤ e < 2^h
pub fits : (w : Width) (e : Expression) → minus_part e ≤ plus_part e + 2 ^ hbits w → plus_part e < minus_part e + 2 ^ hbits w → SFits w (value e)
fits w e l h = record { sfits = omega (arith, magnitude e) }
