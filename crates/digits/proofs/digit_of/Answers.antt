-- `digits::digit_of` meets its contract. Assumes nothing.
use Rattle.std.proofs.Common.{◌≡◌, ap, arith}
use Rattle.digits.specs.Digits.{mod_four, digit_of, digit}
use Rattle.digits.proofs.Lowest.{mod_four-below}
use Rattle.digits.proofs.Bits.{masked, digit-otherwise}
use Rattle.digits.proofs.digit_of.Goals as goal

pub returns-in-1 : goal.returns-in-1
unfolding digit
returns-in-1 c = let one : 1 ≡ mod_four c.args.z = omega (arith, masked c.args.z c.ranges.z) in ap digit_of one

pub returns-in-3 : goal.returns-in-3
unfolding digit
returns-in-3 c = let three : 3 ≡ mod_four c.args.z = omega (arith, masked c.args.z c.ranges.z) in ap digit_of three

pub returns-in_default : goal.returns-in_default
unfolding digit
returns-in_default c =
    let remainder = masked c.args.z c.ranges.z in
    digit-otherwise (mod_four c.args.z) (mod_four-below c.args.z) (omega (arith, remainder)) (omega (arith, remainder))
