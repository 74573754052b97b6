-- `digits::rest_of` meets its contract. Assumes nothing.
use mathlib.Core.Path.{sym, ap, ◌∙◌}
use native.Mathlib.Omega.{arith}
use lib.IntN.{+ℤ_idr, ◌+ℤ◌}
use lib.Signed.{shr_z}
use mir.Syntax.{w32}
use Rattle.integers.proofs.Held.{held, held_nat, held_shr, held-+, returned}
use Rattle.digits.specs.Digits.{mod_four, carry_of, rest}
use Rattle.digits.proofs.Lowest.{mod_four-below}
use Rattle.digits.proofs.Bits.{masked, carry_otherwise, carried_fits}
use Rattle.digits.proofs.rest_of.Goals as goal

pub returns-then-z-eq3 : goal.returns-then-z-eq3
unfolding rest
returns-then-z-eq3 c =
    returned (held-+ (held_shr 2 (held c.ranges.z)) (held_nat w32 1 (omega arith)) (carried_fits c.args.z c.ranges.z))
    (ap (λ r. shr_z c.args.z 2 +ℤ carry_of r) (sym c.if-z-eq3.true ∙ masked c.args.z c.ranges.z))

pub returns-else-z-eq3 : goal.returns-else-z-eq3
unfolding rest
returns-else-z-eq3 c =
    returned (held_shr 2 (held c.ranges.z))
    (sym (+ℤ_idr _) ∙ ap (λ carry. shr_z c.args.z 2 +ℤ carry)
    (carry_otherwise (mod_four c.args.z) (mod_four-below c.args.z) (λ e. c.if-z-eq3.false (masked c.args.z c.ranges.z ∙ e))))
