-- Document 01, "Marked banks": the line of digits, by computation.
-- Assumes nothing.
use mathlib.Core.Path.{refl}
use Rattle.digits.specs.Digits.{digit, rest, digits, nonzero, summands_from}
use Rattle.digits.specs.Marked.{MarkedDigits}

pub marked_digits : MarkedDigits
unfolding digit rest digits nonzero summands_from
marked_digits = record { zero = refl; six = refl; twenty_three = refl; largest = refl; smallest = refl; eight = refl }
