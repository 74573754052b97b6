-- The claim at work: document 01's row 3, −3 for samples of 16 bits and of 12, a buffer of just as many bytes as its netlist has, the
-- steepest two samples, one output; and no bytes, a buffer of just 16, no samples, no outputs. What is asked can be met, and the outputs
-- follow.
-- Assumes nothing.
use Prim.Native.Nat.{ℕ, zero, suc, ◌-◌, ◌^◌, ◌≤◌, ◌<◌}
use mathlib.Core.Path.{◌≡◌, refl, ap}
use mathlib.Core.List.{List, [], ◌∷◌}
use mathlib.Core.Logic.{inl, inr}
use native.Mathlib.Omega.{arith}
use lib.IntN.{ℤ, pos, negsuc}
use lib.ListN.{length, get_or, replicate, length-replicate}
use Rattle.limits.specs.Limits.{unstated_width}
use Rattle.limits.specs.Size.{SampleWidth}
use Rattle.limits.proofs.Numbers.{unstated-width}
use Rattle.layout_rules.specs.Matrix.{matrix, rows_from, coefficients_from, coefficient_at, signed_word}
use Rattle.board_rules.specs.Machine.{times, largest}
use Rattle.board_rules.specs.Width.{Within}
use Rattle.board_rules.proofs.WidthLaws.{positive_is, negative_is, between-within}
use Rattle.compile_rules.specs.Compile.{compiled_bytes}
use Rattle.compile_rules.specs.Marked.{three_minus_three_record}
use Rattle.compile_rules.proofs.Marked.{marked_banks}
use Rattle.bank_rules.specs.Claim.{Given, outputs_after}
use Rattle.bank_rules.proofs.Claim.{claim_holds}

none_larger : (xs : List ℕ) (i : ℕ) → get_or xs i 0 ≤ largest xs
unfolding largest
none_larger [] i = omega arith
none_larger (x ∷ xs) zero = omega arith
none_larger (x ∷ xs) (suc i) = omega (arith, none_larger xs i)

largest_byte : largest three_minus_three_record ≡ 255
unfolding largest
largest_byte = refl

are-bytes : (i : ℕ) → get_or three_minus_three_record i 0 < 256
are-bytes i = omega (arith, none_larger three_minus_three_record i, largest_byte)

-- the largest sample, and the smallest
abbrev pub steep : ℕ → List ℤ
steep top = pos top ∷ negsuc top ∷ []

module _ (s top room : ℕ) (bits : SampleWidth s) (is-top : suc top ≡ 2 ^ (s - 1)) (enough : length (compiled_bytes s three_minus_three_record) ≡ room) where
  steep-within : (j : ℕ) → j < 2 → Within s (get_or (steep top) j (pos 0))
  steep-within zero h =
      between-within s (pos top) (record { above = omega (arith, positive_is (pos top), is-top); below = omega (arith, negative_is (pos top), is-top) })
  steep-within (suc zero) h =
      between-within s (negsuc top) (record { above = omega (arith, positive_is (negsuc top), is-top); below = omega (arith, negative_is (negsuc top), is-top) })
  steep-within (suc (suc j)) h = absurd (omega arith)

  given : (output : ℤ) → Given s three_minus_three_record (replicate room 0) (steep top) (output ∷ [])
  given output = record {
    within-limits = record {
      are-bytes = are-bytes;
      within = inr (record {
        counted = refl;
        kind = refl;
        limits = record { rows-least = omega arith; rows-most = omega arith; columns-least = omega arith; columns-most = omega arith };
        size = refl;
      });
    };
    sample-width = bits;
    long_enough = omega (arith, enough, length-replicate {A = ℕ} room 0);
    vector = record { count = refl; within = steep-within };
    one_per_row = refl;
  }

-- 3 · 32,767 + 3 · 32,768
pub steep-output : (output : ℤ) → outputs_after unstated_width three_minus_three_record (replicate 49 0) (steep 32767) (output ∷ []) ≡ pos 196605 ∷ []
unfolding matrix rows_from coefficients_from coefficient_at signed_word times
steep-output output =
    (claim_holds unstated_width three_minus_three_record (replicate 49 0) (steep 32767) (output ∷ [])
    (given unstated_width 32767 49 unstated-width refl (ap length marked_banks.bytes_three) output)).row-times-vector

-- 3 · 2,047 + 3 · 2,048
pub steep-output-twelve : (output : ℤ) → outputs_after 12 three_minus_three_record (replicate 50 0) (steep 2047) (output ∷ []) ≡ pos 12285 ∷ []
unfolding matrix rows_from coefficients_from coefficient_at signed_word times
steep-output-twelve output =
    (claim_holds 12 three_minus_three_record (replicate 50 0) (steep 2047) (output ∷ [])
    (given 12 2047 50 (record { least = omega arith; most = omega arith }) refl (ap length marked_banks.bytes_three_twelve) output)).row-times-vector

given_none : Given unstated_width [] (replicate 16 0) [] []
given_none = record {
  within-limits = record { are-bytes = λ i. omega arith; within = inl refl };
  sample-width = unstated-width;
  long_enough = omega (arith, ap length marked_banks.bytes-none);
  vector = record { count = refl; within = λ j h. absurd (omega arith) };
  one_per_row = refl;
}

pub no_outputs : outputs_after unstated_width [] (replicate 16 0) [] [] ≡ []
unfolding matrix rows_from
no_outputs = (claim_holds unstated_width [] (replicate 16 0) [] [] given_none).row-times-vector
