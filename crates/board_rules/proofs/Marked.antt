-- Document 01, "Marked banks": the widths hold.
-- Assumes nothing.
use Prim.Native.Nat.{ℕ}
use mathlib.Core.Path.{◌≡◌, refl}
use mathlib.Core.List.{[], ◌∷◌}
use lib.IntN.{pos, negsuc}
use lib.ListN.{replicate}
use Rattle.board_rules.specs.Machine.{entry_form, output_form}
use Rattle.board_rules.specs.Width.{width}
use Rattle.board_rules.specs.Marked.{WidthsAt, MarkedWidths, sum_of_two, negated_sample, sum_of_eight, negated_sum}
use Rattle.board_rules.proofs.WidthLaws.{entry_width-is, output-width-is}

-- the coefficients
sum_form : entry_form 2 sum_of_two 2 ≡ (pos 1 ∷ pos 1 ∷ [])
unfolding entry_form
sum_form = refl

negated_form : output_form 1 [] negated_sample ≡ (negsuc 0 ∷ [])
unfolding output_form
negated_form = refl

eight_form : output_form 8 sum_of_eight negated_sum ≡ replicate 8 (negsuc 32767)
unfolding output_form
eight_form = refl

-- the widths
widths_at : (s sum_width negated_width eight_width : ℕ) → width s (pos 1 ∷ pos 1 ∷ []) ≡ sum_width → width s (negsuc 0 ∷ []) ≡ negated_width
    → width s (replicate 8 (negsuc 32767)) ≡ eight_width → WidthsAt s sum_width negated_width eight_width
widths_at s sum_width negated_width eight_width sum negated eight = record {
  sum = sum;
  negated = negated;
  eight = eight;
  sum_is = rw (sum_form, sum) at (entry_width-is s 2 sum_of_two 2);
  negated-is = rw (negated_form, negated) at (output-width-is s 1 [] negated_sample);
  eight_is = rw (eight_form, eight) at (output-width-is s 8 sum_of_eight negated_sum);
}

pub marked_widths : MarkedWidths
unfolding width
marked_widths = record {
  unstated = widths_at 16 17 17 35 refl refl refl;
  twelve = widths_at 12 13 13 31 refl refl refl;
  twenty_four = widths_at 24 25 25 43 refl refl refl;
}
