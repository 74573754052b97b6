-- The positive and the negative part of an integer, as signed tests and differences give them.
-- Assumes nothing.
use mathlib.Core.Path.{◌≡◌, refl}
use Prim.Native.Nat.{ℕ, suc}
use native.Mathlib.Omega.{arith}
use lib.IntN.{ℤ, pos, negsuc, ◌-ℤ◌}
use lib.Signed.{◌<ℤ◌, ◌≤ℤ◌}
use mir.Syntax.{w64}
use mir.Val.{SFits}
use Rattle.integers.proofs.Expression.{nat, minus, ◌⊝◌, equal, below_parts}
use Rattle.board_rules.specs.Width.{positive_part, negative_part}

pub is_positive_part : (z : ℤ) → pos 0 ≤ℤ z → z ≡ pos (positive_part z)
is_positive_part (pos c) h = refl
is_positive_part (negsuc c) h = absurd h.le

pub no_positive : (z : ℤ) → z <ℤ pos 0 → 0 ≡ positive_part z
no_positive (pos c) h = absurd (omega (arith, below_parts (nat c) (nat 0) h))
no_positive (negsuc c) h = refl

pub no_negative : (z : ℤ) → pos 0 ≤ℤ z → 0 ≡ negative_part z
no_negative (pos c) h = refl
no_negative (negsuc c) h = absurd h.le

-- of a negative z, −1 − z is one less than the negative part
abbrev pub less_negative : ℤ → ℕ
less_negative (pos c) = 0
less_negative (negsuc c) = c

pub less_negative_fits : (z : ℤ) → SFits w64 z → SFits w64 (pos (less_negative z))
less_negative_fits (pos c) f = omega arith
less_negative_fits (negsuc c) f = record { sfits = f.sfits }

pub is_negative_part : (z : ℤ) → z <ℤ pos 0 → negative_part z ≡ suc (less_negative z)
is_negative_part (pos c) h = absurd (omega (arith, below_parts (nat c) (nat 0) h))
is_negative_part (negsuc c) h = refl

pub minus-one_less : (z : ℤ) → z <ℤ pos 0 → negsuc 0 -ℤ z ≡ pos (less_negative z)
minus-one_less (pos c) h = absurd (omega (arith, below_parts (nat c) (nat 0) h))
minus-one_less (negsuc c) h = equal (minus (nat 1) ⊝ minus (nat (suc c))) (nat c) (omega arith)
