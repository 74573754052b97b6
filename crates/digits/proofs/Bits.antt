-- What the code works out in i32: the remainder by 4 as two bits, and that the rest fits.
-- Assumes nothing.
use mathlib.Core.Path.{◌≡◌, refl, ◌∙◌}
use Prim.Native.Nat.{ℕ, zero, suc, ◌-◌, ◌/◌, ◌<◌}
use native.Mathlib.Omega.{arith}
use lib.IntN.{ℤ, pos, negsuc, ◌+ℤ◌}
use lib.Signed.{shr_z}
use lib.Bits.{bit_and, and_mask}
use mir.Syntax.{w32}
use mir.Val.{SFits, of_z}
use Rattle.integers.proofs.Expression.{nat, minus, ◌⊕◌, fits}
use Rattle.digits.specs.Digits.{mod_four, digit_of, carry_of}

pub masked : (z : ℤ) → SFits w32 z → bit_and (of_z w32 z) 3 ≡ mod_four z
masked (pos a) f = and_mask a 2
masked (negsuc a) f = and_mask (4294967296 - suc a) 2 ∙ omega (arith, f.sfits)

-- the remainders that are neither 1 nor 3, and those that are not 3
pub digit-otherwise : (r : ℕ) → r < 4 → (r ≡ 1 → ⊥) → (r ≡ 3 → ⊥) → pos 0 ≡ digit_of r
digit-otherwise zero h f g = refl
digit-otherwise (suc zero) h f g = absurd (f refl)
digit-otherwise (suc (suc zero)) h f g = refl
digit-otherwise (suc (suc (suc zero))) h f g = absurd (g refl)
digit-otherwise (suc (suc (suc (suc r)))) h f g = absurd (omega arith)

pub carry_otherwise : (r : ℕ) → r < 4 → (r ≡ 3 → ⊥) → pos 0 ≡ carry_of r
carry_otherwise zero h g = refl
carry_otherwise (suc zero) h g = refl
carry_otherwise (suc (suc zero)) h g = refl
carry_otherwise (suc (suc (suc zero))) h g = absurd (g refl)
carry_otherwise (suc (suc (suc (suc r)))) h g = absurd (omega arith)

-- half a number of 32 bits has room for a carry
pub carried_fits : (z : ℤ) → SFits w32 z → SFits w32 (shr_z z 2 +ℤ pos 1)
carried_fits (pos a) f = record { sfits = omega (arith, f.sfits) }
carried_fits (negsuc a) f = fits w32 (minus (nat (suc (a / 2))) ⊕ nat 1) (omega (arith, f.sfits)) (omega arith)
