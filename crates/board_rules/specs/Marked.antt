-- Document 01, "Marked banks": the widths.
-- Assumes nothing.
use Rattle.std.specs.Prelude.{ℕ, ◌≡◌, List, [], ◌∷◌, pos, negsuc, replicate}
use Rattle.limits.specs.Limits.{unstated_width}
use Rattle.layout_rules.specs.declared.Operation.{Operation}
use Rattle.layout_rules.specs.declared.Output.{Output}
use Rattle.board_rules.specs.Machine.{entry_at, machine, output_value}
use Rattle.board_rules.specs.Width.{IsWidth, width}

-- (a shifted by sa) plus (b shifted by sb), of width w
abbrev added : ℕ → ℕ → ℕ → ℕ → ℕ → Operation
added a sa b sb w = record { sign = 0; a = a; sa = sa; b = b; sb = sb; width = w }

-- x0 + x1
abbrev pub sum_of_two : List Operation
sum_of_two = added 0 0 1 0 17 ∷ []

-- −x0
abbrev pub negated_sample : Output
negated_sample = record { sign = 1; symbol = 0; shift = 0; width = 17 }

-- a row of eight coefficients −32,768: eight times 32,768 is summed, and the output is minus
abbrev pub sum_of_eight : List Operation
sum_of_eight =
    added 0 15 1 15 32
    ∷ added 2 15 3 15 32
    ∷ added 4 15 5 15 32
    ∷ added 6 15 7 15 32
    ∷ added 8 0 9 0 33
    ∷ added 10 0 11 0 33
    ∷ added 12 0 13 0 34
    ∷ []

abbrev pub negated_sum : Output
negated_sum = record { sign = 1; symbol = 14; shift = 0; width = 35 }

-- over samples of s bits, the width of x0 + x1, of −x0, and of eight times −32,768 summed: as worked out from the coefficients, and as
-- defined, over all samples, of what the board machine computes
pub record WidthsAt (s sum_width negated_width eight_width : ℕ) : Type 0 where
  pub sum : width s (pos 1 ∷ pos 1 ∷ []) ≡ sum_width
  pub negated : width s (negsuc 0 ∷ []) ≡ negated_width
  pub eight : width s (replicate 8 (negsuc 32767)) ≡ eight_width
  pub sum_is : IsWidth s 2 (λ xs. entry_at (machine xs sum_of_two) 2) sum_width
  pub negated-is : IsWidth s 1 (λ xs. output_value (machine xs []) negated_sample) negated_width
  pub eight_is : IsWidth s 8 (λ xs. output_value (machine xs sum_of_eight) negated_sum) eight_width

pub record MarkedWidths : Type 0 where
  -- "width of x0 + x1 is 17, of −x0 17, of eight times −32,768 summed 35"
  pub unstated : WidthsAt unstated_width 17 17 35
  -- "over samples of 12 bits 13, 13 and 31, over samples of 24 bits 25, 25 and 43"
  pub twelve : WidthsAt 12 13 13 31
  pub twenty_four : WidthsAt 24 25 25 43
