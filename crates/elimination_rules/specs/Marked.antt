-- Document 01, "Marked banks": what they say of elimination.
-- Assumes nothing.
use Rattle.std.specs.Prelude.{ℕ, ◌≡◌, Bool, true, false, List, [], ◌∷◌, map, ℤ, pos, negsuc, length}
use Rattle.limits.specs.Limits.{positions}
use Rattle.elimination_rules.specs.declared.Divisor.{Divisor}
use Rattle.elimination_rules.specs.Rows.{row_from, matrix_rows, plain_count}
use Rattle.elimination_rules.specs.Divisors.{co_divisor, taken}
use Rattle.elimination_rules.specs.Elimination.{Eliminated, shallowest_first, pick, matrix_elimination}

-- a 1 by 1 matrix
abbrev pub single : ℕ → List (List ℤ)
single c = (pos c ∷ []) ∷ []

abbrev pub eliminated_single : ℕ → Eliminated
eliminated_single c = matrix_elimination positions 1 (single c)

-- 1 + L^2 (L is one left shift)
abbrev pub one_plus_l_l : Divisor
one_plus_l_l = record { a = 0; b = 0; ea = 0; eb = 2; minus = false }

-- where that divisor is taken
abbrev pub taken_at : ℕ → List ℕ
taken_at c = map co_divisor (taken one_plus_l_l (row_from positions 0 (pos c ∷ [])))

-- rows 1 1 1 1, 2 1 −1 −2, 1 −1 −1 1, 1 −2 2 −1 (source document 001)
abbrev pub four_by_four : List (List ℤ)
four_by_four =
    (pos 1 ∷ pos 1 ∷ pos 1 ∷ pos 1 ∷ [])
    ∷ (pos 2 ∷ pos 1 ∷ negsuc 0 ∷ negsuc 1 ∷ [])
    ∷ (pos 1 ∷ negsuc 0 ∷ negsuc 0 ∷ pos 1 ∷ [])
    ∷ (pos 1 ∷ negsuc 1 ∷ pos 2 ∷ negsuc 0 ∷ [])
    ∷ []

abbrev pub eliminated_four : Eliminated
eliminated_four = matrix_elimination positions 4 four_by_four

-- rows 1 1 1 1 1, 1 1 1 0 0, 0 0 0 1 1
abbrev pub sums_of_five : List (List ℤ)
sums_of_five =
    (pos 1 ∷ pos 1 ∷ pos 1 ∷ pos 1 ∷ pos 1 ∷ [])
    ∷ (pos 1 ∷ pos 1 ∷ pos 1 ∷ pos 0 ∷ pos 0 ∷ [])
    ∷ (pos 0 ∷ pos 0 ∷ pos 0 ∷ pos 1 ∷ pos 1 ∷ [])
    ∷ []

abbrev pub eliminated_sums : Eliminated
eliminated_sums = matrix_elimination positions 5 sums_of_five

-- row 3, −3, which the program list-bank prints
abbrev pub three_minus_three_matrix : List (List ℤ)
three_minus_three_matrix = (pos 3 ∷ negsuc 2 ∷ []) ∷ []

abbrev pub eliminated_three : Eliminated
eliminated_three = matrix_elimination positions 2 three_minus_three_matrix

abbrev pub unshifted : ℕ → ℕ → Bool → Divisor
unshifted a b minus = record { a = a; b = b; ea = 0; eb = 0; minus = minus }

pub record MarkedElimination : Type 0 where
  pub score_21 : (pick (shallowest_first 1 []) (matrix_rows positions (single 21))).score ≡ 1
  pub divisors_21 : (eliminated_single 21).divisors ≡ []
  pub divisors_85 : (eliminated_single 85).divisors ≡ one_plus_l_l ∷ []
  pub taken_85 : taken_at 85 ≡ 0 ∷ 4 ∷ []
  pub divisors_1365 : (eliminated_single 1365).divisors ≡ one_plus_l_l ∷ []
  pub taken_1365 : taken_at 1365 ≡ 0 ∷ 4 ∷ 8 ∷ []
  pub plain-four : plain_count (matrix_rows positions four_by_four) ≡ 12
  pub divisors-four : length eliminated_four.divisors ≡ 4
  pub replacements-four : eliminated_four.replacements ≡ 8
  pub plain_three : plain_count (matrix_rows positions three_minus_three_matrix) ≡ 3
  -- x0 − x1, which stands in the row once as x1 − x0
  pub divisors_three : eliminated_three.divisors ≡ unshifted 0 1 true ∷ []
  pub replacements_three : eliminated_three.replacements ≡ 2
  -- all four have score 2, so it is the order among equal scores that picks them: x0 + x3, x0 − x3, x1 + x2, x1 − x2
  pub ties_four : eliminated_four.divisors ≡ unshifted 0 3 false ∷ unshifted 0 3 true ∷ unshifted 1 2 false ∷ unshifted 1 2 true ∷ []
  -- each of the three has score 2; x0 + x1 gets symbol 5, and (3<<0) + (4<<0) goes before (2<<0) + (5<<0), which would be deeper
  pub replacements_sums : eliminated_sums.replacements ≡ 6
  pub depth_decides : eliminated_sums.divisors ≡ unshifted 0 1 false ∷ unshifted 3 4 false ∷ unshifted 2 5 false ∷ []
