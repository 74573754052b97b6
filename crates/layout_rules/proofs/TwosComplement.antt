-- Two's complement as code works it out, at any width: below half a number is itself, from half on it is −1 − (2^bits − 1 − x).
-- Assumes nothing.
use Prim.Native.Nat.{ℕ, ◌-◌, ◌^◌, ◌≤◌, ◌<◌}
use mathlib.Core.Path.{◌≡◌, refl, ◌∙◌}
use native.Mathlib.Omega.{arith}
use lib.IntN.{negsuc, ◌-ℤ◌}
use borrow.Author.Tests.{lt-ltb, le-ltb}
use mir.Syntax.{Width, w8, w16, w32, w64, w128}
use mir.Val.{SFits, to_z, of_z, hbits, bits}
use mir.ValLaws.{to_z-of_z, to_z_pos, pow-bits}
use Rattle.integers.proofs.Expression.{nat, minus, ◌⊝◌, equal, fits}
use Rattle.layout_rules.specs.Bytes.{signed_of}

one_less : (w : Width) → bits w - 1 ≡ hbits w
one_less w8 = refl
one_less w16 = refl
one_less w32 = refl
one_less w64 = refl
one_less w128 = refl

module _ (w : Width) (x : ℕ) where
  pub signed_low : x < 2 ^ hbits w → to_z w x ≡ signed_of (bits w) x
  signed_low h = to_z_pos w x h ∙ rw (one_less w, lt-ltb x (2 ^ hbits w) h)

  module _ (high : 2 ^ hbits w ≤ x) (within : x < 2 ^ bits w) where
    abbrev above : ℕ
    above = 2 ^ bits w - 1 - x

    above_low : above < 2 ^ hbits w
    above_low = omega (arith, pow-bits w)

    pub signed-high-fits : SFits w (negsuc 0 -ℤ to_z w above)
    signed-high-fits = rw (to_z_pos w above above_low) (fits w (minus (nat 1) ⊝ nat above) (omega (arith, above_low)) (omega (arith, above_low)))

    pub signed_high : to_z w (of_z w (negsuc 0 -ℤ to_z w above)) ≡ signed_of (bits w) x
    signed_high =
        to_z-of_z w _ signed-high-fits
        ∙ rw (to_z_pos w above above_low, one_less w, le-ltb x (2 ^ hbits w) high) (equal (minus (nat 1) ⊝ nat above) (nat x ⊝ nat (2 ^ bits w)) (omega arith))
