-- The limits that are worked out come to the numbers that document 01 states, and leave the room that the laws of the crates above need.
-- Assumes nothing.
use Prim.Native.Nat.{ℕ, ◌+◌, ◌*◌, ◌-◌, ◌^◌, ◌≤◌}
use mathlib.Core.Path.{◌≡◌, refl}
use native.Mathlib.Omega.{arith}
use Rattle.limits.specs.Size.{SampleWidth}
use Rattle.limits.specs.Limits.{unstated_width, most_sample_width, max_rows, max_columns, max_operations, max_width, max_shift, max_digits, max_terms, max_divisors, term_symbols, column_bits, max_compiled_width}

-- "Shifts are 0 to 15"
shifts : max_shift ≡ 15
shifts = refl

-- "at most 8 digits are nonzero"
digits : max_digits ≡ 8
digits = refl

-- "Divisors number at most 252"
divisors : max_divisors ≡ 252
divisors = refl

-- "highest symbol 259"
highest-symbol : term_symbols - 1 ≡ 259
highest-symbol = refl

-- "compiled ones at most 19 more than the sample width": 35 for 16, 43 for 24
compiled-width : (s : ℕ) → max_compiled_width s ≡ s + 19
compiled-width s = omega arith

compiled-width-unstated : max_compiled_width unstated_width ≡ 35
compiled-width-unstated = refl

widest-compiled : max_compiled_width most_sample_width ≡ 43
widest-compiled = refl

-- read takes compiled widths
pub compiled_narrower : {s : ℕ} → SampleWidth s → max_compiled_width s ≤ max_width
compiled_narrower w = omega (arith, w.most)

-- a head of kind 2 has one of the sample widths
pub unstated-width : SampleWidth unstated_width
unstated-width = record { least = omega arith; most = omega arith }

-- the plain count of a matrix within the limits is at most the most operations
pub rows-of_terms : max_rows * (max_terms - 1) ≤ max_operations
rows-of_terms = omega arith

pub columns_in_bits : max_columns ≤ 2 ^ column_bits
columns_in_bits = omega arith
