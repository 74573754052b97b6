-- The laws of any steps, for the elimination of a matrix by any order among equal scores.
-- Assumes nothing.
use Prim.Native.Nat.{ℕ, suc, ◌+◌, ◌*◌, ◌^◌, ◌≤◌, ◌<◌}
use mathlib.Core.Path.{◌≡◌}
use mathlib.Core.Bool.{true}
use mathlib.Core.List.{List, [], ◌∷◌, map}
use lib.IntN.{ℤ}
use lib.ListN.{length}
use Rattle.limits.specs.Limits.{max_rows, max_columns, positions, max_divisors}
use Rattle.elimination_rules.specs.declared.Divisor.{Divisor}
use Rattle.elimination_rules.specs.Rows.{Row, Ascending, WellFormed, EachRow, row_value, matrix_rows, plain_count}
use Rattle.elimination_rules.specs.Divisors.{Pair, overlap, score}
use Rattle.elimination_rules.specs.Elimination.{TieOrder, Eliminated, elimination}
use Rattle.elimination_rules.specs.Steps.{Steps}
use Rattle.elimination_rules.specs.Weights.{row_weight, Weights, ColumnWeight}
use Rattle.elimination_rules.proofs.RowOrder.{Occurrence, row_at}
use Rattle.elimination_rules.proofs.Order.{Columns, DivisorsWithin, matrix_well_formed, steps_well_formed, steps_divisors-within}
use Rattle.elimination_rules.proofs.Value.{Values, steps_value}
use Rattle.elimination_rules.proofs.Counts.{steps_twice, steps_operations, divisors-within}
use Rattle.elimination_rules.proofs.End.{elimination_steps, elimination-ended, all-overlap}
use Rattle.elimination_rules.proofs.Weights.{WeightsWithin, steps_weight, steps_weights_within, steps_rows-within}
use Rattle.elimination_rules.proofs.Matrix.{matrix_weights}

each-ascending : (positions symbol : ℕ) (rows : List Row) → EachRow (WellFormed positions symbol) rows → EachRow Ascending rows
each-ascending positions symbol [] h = tt
each-ascending positions symbol (r ∷ rows) h = (h.0.ascending, each-ascending positions symbol rows h.1)

module _ (order : TieOrder) (positions n : ℕ) (m : List (List ℤ)) where
  abbrev pub eliminated : Eliminated
  eliminated = elimination order n (matrix_rows positions m)

  pub steps_of : Steps n (matrix_rows positions m) eliminated.divisors eliminated.replacements eliminated.remaining_rows
  steps_of = elimination_steps order n (matrix_rows positions m)

  -- rows keep their order and limits, and divisors the same limits
  pub remaining_well_formed : Columns n m → EachRow (WellFormed positions (n + length eliminated.divisors)) eliminated.remaining_rows
  remaining_well_formed c = steps_well_formed positions steps_of (matrix_well_formed positions n m c)

  pub divisors_limited : Columns n m → DivisorsWithin positions n eliminated.divisors
  divisors_limited c = steps_divisors-within positions steps_of (matrix_well_formed positions n m c)

  -- each row keeps its value
  pub remaining-value : (v : ℕ → ℤ) → Values v n eliminated.divisors → map (row_value v) eliminated.remaining_rows ≡ map (row_value v) (matrix_rows positions m)
  remaining-value v = steps_value v steps_of

  -- at its end every score is below 2, and any two occurrences of one divisor overlap
  pub remaining-score : (d : Divisor) → score d eliminated.remaining_rows < 2
  remaining-score = elimination-ended order n (matrix_rows positions m)

  pub remaining-overlap : Columns n m → (d : Divisor) (i j : ℕ) (p q : Pair)
      → Occurrence d (row_at eliminated.remaining_rows i) p → Occurrence d (row_at eliminated.remaining_rows j) q → (i ≡ j) × (overlap p q ≡ true)
  remaining-overlap c d = all-overlap d eliminated.remaining_rows
      (each-ascending positions (n + length eliminated.divisors) eliminated.remaining_rows (remaining_well_formed c)) (remaining-score d)

  -- counts
  pub replacements_twice : 2 * length eliminated.divisors ≤ eliminated.replacements
  replacements_twice = steps_twice steps_of

  pub operations : (plain_count eliminated.remaining_rows + length eliminated.divisors) + eliminated.replacements ≡ plain_count (matrix_rows positions m) + length eliminated.divisors
  operations = steps_operations steps_of

  -- weights stay, and bound every divisor's
  pub remaining_weight : (w : ℕ → ℕ) → Weights w n eliminated.divisors → map (row_weight w) eliminated.remaining_rows ≡ map (row_weight w) (matrix_rows positions m)
  remaining_weight w = steps_weight w steps_of

  module _ (w : ℕ → ℕ) (own bound : ℕ) (c : Columns n m) (u : ColumnWeight n own w) (h : 2 ^ suc positions ≤ 3 * bound + 3) where
    pub divisors_weight : Weights w n eliminated.divisors → WeightsWithin w bound n eliminated.divisors
    divisors_weight k = steps_weights_within w bound steps_of k (matrix_weights w positions n own bound m c u h)

    pub remaining_weight_within : Weights w n eliminated.divisors → EachRow (λ r. row_weight w r ≤ bound) eliminated.remaining_rows
    remaining_weight_within k = steps_rows-within w bound steps_of k (matrix_weights w positions n own bound m c u h)

-- of a matrix within the limits
pub divisors_at_most : (order : TieOrder) (n : ℕ) (m : List (List ℤ)) → Columns n m → n ≤ max_columns → length m ≤ max_rows → length (eliminated order positions n m).divisors ≤ max_divisors
divisors_at_most order n m c hn hm = divisors-within n m c hn hm (steps_of order positions n m)
