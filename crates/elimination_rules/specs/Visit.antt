-- Document 01, "Elimination": the visit of a divisor's occurrences over all rows at once. `taken` and `score` do the same row by
-- row, since occurrences in different rows never overlap.
-- Assumes nothing.
use Rattle.std.specs.Prelude.{ℕ, suc, Bool, true, false, ◌&&◌, List, [], ◌∷◌, ◌++◌, map, eqb}
use Rattle.elimination_rules.specs.declared.Divisor.{Divisor}
use Rattle.elimination_rules.specs.Rows.{Row}
use Rattle.elimination_rules.specs.Divisors.{Pair, overlap, occurrences}

-- an occurrence, with the number of its row
pub record InRow : Type 0 where
  pub row : ℕ
  pub pair : Pair

-- two occurrences overlap if they are in the same row and share a term
abbrev pub overlap_in_row : InRow → InRow → Bool
overlap_in_row x y = eqb x.row y.row && overlap x.pair y.pair

unfoldable pub overlaps_any_in_row : InRow → List InRow → Bool
overlaps_any_in_row x [] = false
overlaps_any_in_row x (y ∷ ys) = elim (overlap_in_row x y) [ true ↦ true | false ↦ overlaps_any_in_row x ys ]

abbrev pub all_in_row : ℕ → List Pair → List InRow
all_in_row i ps = map (λ p. record { row = i; pair = p }) ps

-- visited by row, from row i on, then by ascending co-divisor
unfoldable pub visit : Divisor → ℕ → List Row → List InRow
unfolding occurrences
visit d i [] = []
visit d i (r ∷ rs) = all_in_row i (occurrences d r) ++ visit d (suc i) rs

-- and one is taken if it overlaps none taken before
unfoldable pub taking_in_row : List InRow → List InRow → List InRow
unfolding overlaps_any_in_row
taking_in_row before [] = []
taking_in_row before (x ∷ xs) = elim (overlaps_any_in_row x before) [ true ↦ taking_in_row before xs | false ↦ x ∷ taking_in_row (x ∷ before) xs ]

unfoldable pub taken_of_all : Divisor → List Row → List InRow
unfolding visit taking_in_row
taken_of_all d rows = taking_in_row [] (visit d 0 rows)
