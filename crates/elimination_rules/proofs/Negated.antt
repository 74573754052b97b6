-- A negated matrix: its rows are the matrix's rows negated, the pick is the same by any order among equal scores,
-- so elimination makes the same divisors with as many replacements, and leaves the remaining rows negated.
-- Assumes nothing.
use Prim.Native.Nat.{ℕ, zero, suc, ◌+◌, pred}
use mathlib.Core.Path.{◌≡◌, refl, sym, ◌∙◌, ap, ap₂}
use mathlib.Core.Bool.{Bool, true, false}
use mathlib.Core.List.{List, [], ◌∷◌, ◌++◌, map, map-append}
use lib.Dec.{ltb}
use lib.IntN.{ℤ, pos, negsuc, neg_ℤ}
use lib.ListN.{length-map}
use Rattle.digits.specs.Digits.{digits}
use Rattle.digits.proofs.Negated.{digits-negated}
use Rattle.elimination_rules.specs.declared.Divisor.{Divisor}
use Rattle.elimination_rules.specs.Rows.{Row, column_terms, row_from, matrix_rows, plain_count}
use Rattle.elimination_rules.specs.Divisors.{Pair, negated, divisor_of, score}
use Rattle.elimination_rules.specs.Elimination.{TieOrder, shallowest_first, Scored, scored, better, best_from, all_pairs, best_of, pick, rows_after, Eliminated, ended, step_then, eliminate, enough_steps, elimination, matrix_elimination}
use Rattle.elimination_rules.specs.Negated.{negated_row, negated_rows, negated_matrix, negated_elimination}
use Rattle.elimination_rules.proofs.Tests.{same_choice}
use Rattle.elimination_rules.proofs.NegatedRows.{negated_pair, divisor-negated, all_pairs_negated, score-negated, rows-after-negated}

-- ---- the matrix's rows, and the plain count

column-negated : (column position : ℕ) (ds : List ℤ) → column_terms column position (map neg_ℤ ds) ≡ negated_row (column_terms column position ds)
unfolding column_terms
column-negated column position [] = refl
column-negated column position (pos zero ∷ ds) = column-negated column (suc position) ds
column-negated column position (pos (suc d) ∷ ds) =
    ap (λ (r : Row). record { symbol = column; exponent = position; negative = true } ∷ r) (column-negated column (suc position) ds)
column-negated column position (negsuc d ∷ ds) =
    ap (λ (r : Row). record { symbol = column; exponent = position; negative = false } ∷ r) (column-negated column (suc position) ds)

row-negated : (positions column : ℕ) (zs : List ℤ) → row_from positions column (map neg_ℤ zs) ≡ negated_row (row_from positions column zs)
unfolding row_from
row-negated positions column [] = refl
row-negated positions column (z ∷ zs) =
    ap₂ ◌++◌
    (ap (column_terms column 0) (digits-negated positions z) ∙ column-negated column 0 (digits positions z))
    (row-negated positions (suc column) zs)
    ∙ sym (map-append negated (column_terms column 0 (digits positions z)) (row_from positions (suc column) zs))

pub rows-negated : (positions : ℕ) (m : List (List ℤ)) → matrix_rows positions (negated_matrix m) ≡ negated_rows (matrix_rows positions m)
unfolding matrix_rows
rows-negated positions [] = refl
rows-negated positions (zs ∷ m) = ap₂ ◌∷◌ (row-negated positions 0 zs) (rows-negated positions m)

pub plain-negated : (rows : List Row) → plain_count (negated_rows rows) ≡ plain_count rows
unfolding plain_count
plain-negated [] = refl
plain-negated (r ∷ rows) = ap₂ ◌+◌ (ap pred (length-map r negated)) (plain-negated rows)

-- ---- the pick

module _ (first : Divisor → Divisor → Bool) (rows : List Row) where
  scored-negated : (p : Pair) → scored (negated_rows rows) (negated_pair p) ≡ scored rows p
  scored-negated p =
      let same : score (divisor_of (negated_pair p)) (negated_rows rows) ≡ score (divisor_of p) rows =
      ap (λ (d : Divisor). score d (negated_rows rows)) (divisor-negated p) ∙ score-negated (divisor_of p) rows in
      λ i. record { divisor = divisor-negated p i; score = same i }

  best-from-negated : (s : Scored) (ps : List Pair) → best_from first (negated_rows rows) s (map negated_pair ps) ≡ best_from first rows s ps
  unfolding best_from
  best-from-negated s [] = refl
  best-from-negated s (p ∷ ps) =
      let others : List Pair = map negated_pair ps in
      let t : Scored = scored rows p in
      ap (λ (x : Scored). elim (better first x s) [ true ↦ best_from first (negated_rows rows) x others | false ↦ best_from first (negated_rows rows) s others ])
      (scored-negated p)
      ∙ same_choice (λ (x : Scored). x) (better first t s) (better first t s) (best_from first rows t ps) (best_from first rows s ps) _ _ refl
      (best-from-negated t ps) (best-from-negated s ps)

  best-negated : (ps : List Pair) → best_of first (negated_rows rows) (map negated_pair ps) ≡ best_of first rows ps
  unfolding best_of
  best-negated [] = refl
  best-negated (p ∷ ps) =
      ap (λ (s : Scored). best_from first (negated_rows rows) s (map negated_pair ps)) (scored-negated p) ∙ best-from-negated (scored rows p) ps

  pick-negated : pick first (negated_rows rows) ≡ pick first rows
  unfolding pick
  pick-negated = ap (best_of first (negated_rows rows)) (all_pairs_negated rows) ∙ best-negated (all_pairs rows)

-- ---- elimination

module _ (order : TieOrder) where
  -- a step with what is picked, then the rest; or the end
  abbrev onwards : ℕ → ℕ → List Divisor → List Row → Scored → Eliminated
  onwards fuel symbol made rows best = elim (ltb best.score 2) [
    | true ↦ ended rows
    | false ↦ step_then best (eliminate order fuel (suc symbol) (made ++ (best.divisor ∷ [])) (rows_after symbol best.divisor rows))
  ]

  eliminate-negated : (fuel symbol : ℕ) (made : List Divisor) (rows : List Row)
      → eliminate order fuel symbol made (negated_rows rows) ≡ negated_elimination (eliminate order fuel symbol made rows)
  unfolding eliminate
  eliminate-negated zero symbol made rows = refl
  eliminate-negated (suc fuel) symbol made rows =
      let best : Scored = pick (order made) rows in
      let after : List Row = rows_after symbol best.divisor rows in
      let further : List Divisor = made ++ (best.divisor ∷ []) in
      ap (onwards fuel symbol made (negated_rows rows)) (pick-negated (order made) rows)
      ∙ same_choice negated_elimination (ltb best.score 2) (ltb best.score 2) (ended rows) (step_then best (eliminate order fuel (suc symbol) further after)) _ _
      refl refl
      (ap (step_then best)
      (ap (eliminate order fuel (suc symbol) further) (rows-after-negated symbol best.divisor rows)
      ∙ eliminate-negated fuel (suc symbol) further after))

  pub elimination-negated : (inputs : ℕ) (rows : List Row) → elimination order inputs (negated_rows rows) ≡ negated_elimination (elimination order inputs rows)
  unfolding elimination
  elimination-negated inputs rows =
      ap (λ (fuel : ℕ). eliminate order fuel inputs [] (negated_rows rows)) (plain-negated rows)
      ∙ eliminate-negated (enough_steps rows) inputs [] rows

pub matrix-elimination-negated : (positions inputs : ℕ) (m : List (List ℤ))
    → matrix_elimination positions inputs (negated_matrix m) ≡ negated_elimination (matrix_elimination positions inputs m)
unfolding matrix_elimination
matrix-elimination-negated positions inputs m =
    ap (elimination (shallowest_first inputs) inputs) (rows-negated positions m)
    ∙ elimination-negated (shallowest_first inputs) inputs (matrix_rows positions m)
