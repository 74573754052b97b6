-- Sizes of integers, as natural numbers that `omega` reads: nat_abs of sums and products, and what fits a signed width.
-- Assumes nothing.
use mathlib.Core.Path.{◌≡◌, refl}
use Prim.Native.Nat.{ℕ, suc, ◌+◌, ◌*◌, ◌^◌, ◌≤◌, ◌<◌}
use native.Mathlib.Omega.{arith}
use native.Mathlib.Nat.{mul-le-mul}
use lib.IntN.{ℤ, pos, negsuc, neg_ℤ, ◌+ℤ◌, ◌-ℤ◌, ◌*ℤ◌, nat_abs}
use lib.Signed.{mag}
use lib.Pow.{pow_mono}
use mir.Syntax.{Width}
use mir.Val.{SFits, hbits}
use Rattle.integers.proofs.Expression.{at, minus, ◌⊕◌, ◌⊝◌, size, magnitude}

pub abs-+ : (a b : ℤ) → nat_abs (a +ℤ b) ≤ nat_abs a + nat_abs b
abs-+ a b = omega (arith, size (at a ⊕ at b), size (at a), size (at b))

pub abs_sub : (a b : ℤ) → nat_abs (a -ℤ b) ≤ nat_abs a + nat_abs b
abs_sub a b = omega (arith, size (at a ⊝ at b), size (at a), size (at b))

pub abs_neg : (a : ℤ) → nat_abs (neg_ℤ a) ≡ nat_abs a
abs_neg a = omega (arith, size (minus (at a)), size (at a))

pub abs-* : (a b : ℤ) → nat_abs (a *ℤ b) ≡ nat_abs a * nat_abs b
abs-* (pos a) (pos b) = refl
abs-* (pos a) (negsuc b) = abs_neg (pos (a * suc b))
abs-* (negsuc a) (pos b) = abs_neg (pos (suc a * b))
abs-* (negsuc a) (negsuc b) = refl

pub mag_abs : (a : ℤ) → mag a ≤ nat_abs a
mag_abs a = omega (arith, magnitude (at a), size (at a))

pub abs-*-le : (a b : ℤ) (A B : ℕ) → nat_abs a ≤ A → nat_abs b ≤ B → nat_abs (a *ℤ b) ≤ A * B
abs-*-le a b A B h k = rw (abs-* a b) (mul-le-mul h k)

-- a product with a power of two
pub abs_shift : (z : ℤ) (s k B : ℕ) → nat_abs z ≤ B → s ≤ k → nat_abs (z *ℤ pos (2 ^ s)) ≤ B * 2 ^ k
abs_shift z s k B h l = abs-*-le z (pos (2 ^ s)) B (2 ^ k) h (pow_mono l)

-- what fits a signed width
pub abs_fits : (w : Width) (z : ℤ) → nat_abs z < 2 ^ hbits w → SFits w z
abs_fits w z h = record { sfits = omega (arith, mag_abs z) }

pub fits_abs : (w : Width) (z : ℤ) → SFits w z → nat_abs z ≤ 2 ^ hbits w
fits_abs w z f = omega (arith, f.sfits, magnitude (at z), size (at z))

pub fits_wider : (w v : Width) (z : ℤ) → hbits w ≤ hbits v → SFits w z → SFits v z
fits_wider w v z l f = record { sfits = omega (arith, f.sfits, pow_mono l) }
