-- Document 01, "Elimination": the pick, the step, elimination.
-- Assumes nothing.
use Rattle.std.specs.Prelude.{ℕ, zero, suc, ◌+◌, max, Bool, true, false, not, ◌&&◌, ◌||◌, List, [], ◌∷◌, ◌++◌, ltb, eqb, ℤ, get_or, replicate}
use Rattle.term.specs.declared.Term.{Term}
use Rattle.elimination_rules.specs.declared.Divisor.{Divisor}
use Rattle.elimination_rules.specs.Rows.{Row, matrix_rows, plain_count}
use Rattle.elimination_rules.specs.Divisors.{Pair, co_divisor, divisor_of, sign_of, pairs_of, same_sign, same_place, taken, score}

-- ---- the order among equal scores: which of two divisors goes first; it may depend on the divisors made so far, oldest first

abbrev pub TieOrder : Type 0
TieOrder = List Divisor → Divisor → Divisor → Bool

-- the depth of the operation that a divisor would become, by the depths of the symbols: 1 more than the deeper of a and b
abbrev pub divisor_depth : List ℕ → Divisor → ℕ
divisor_depth depths d = suc (max (get_or depths d.a 0) (get_or depths d.b 0))

-- the depths of the symbols, from those of the earlier ones on: each divisor made so far has its own
unfoldable pub symbol_depths_from : List ℕ → List Divisor → List ℕ
symbol_depths_from depths [] = depths
symbol_depths_from depths (d ∷ ds) = symbol_depths_from (depths ++ (divisor_depth depths d ∷ [])) ds

-- inputs have 0
unfoldable pub symbol_depths : ℕ → List Divisor → List ℕ
unfolding symbol_depths_from
symbol_depths inputs made = symbol_depths_from (replicate inputs 0) made

abbrev pub smaller : ℕ → ℕ → Bool → Bool
smaller x y otherwise = ltb x y || (eqb x y && otherwise)

-- the smallest a, then b, then ea, then eb, then plus before minus
abbrev pub before : Divisor → Divisor → Bool
before d e = smaller d.a e.a (smaller d.b e.b (smaller d.ea e.ea (smaller d.eb e.eb (not d.minus && e.minus))))

-- the smallest depth, then the smallest a, and so on
abbrev pub shallower : List ℕ → Divisor → Divisor → Bool
shallower depths d e = smaller (divisor_depth depths d) (divisor_depth depths e) (before d e)

-- the order of elimination, for a number of inputs
unfoldable pub shallowest_first : ℕ → TieOrder
unfolding symbol_depths
shallowest_first inputs made = shallower (symbol_depths inputs made)

-- ---- the pick: the highest score, and of equal scores the first

pub record Scored : Type 0 where
  pub divisor : Divisor
  pub score : ℕ

abbrev pub scored : List Row → Pair → Scored
scored rows p = let d : Divisor = divisor_of p in record { divisor = d; score = score d rows }

abbrev pub better : (Divisor → Divisor → Bool) → Scored → Scored → Bool
better first s t = ltb t.score s.score || (eqb s.score t.score && first s.divisor t.divisor)

-- the best of a scored divisor and those of pairs
unfoldable pub best_from : (Divisor → Divisor → Bool) → List Row → Scored → List Pair → Scored
unfolding divisor_of score
best_from first rows s [] = s
best_from first rows s (p ∷ ps) =
    let t : Scored = scored rows p in
    elim (better first t s) [ true ↦ best_from first rows t ps | false ↦ best_from first rows s ps ]

unfoldable pub all_pairs : List Row → List Pair
unfolding pairs_of
all_pairs [] = []
all_pairs (r ∷ rs) = pairs_of r ++ all_pairs rs

-- no pairs at all counts as a highest score below 2
unfoldable pub no_pairs : Scored
no_pairs = record { divisor = record { a = 0; b = 0; ea = 0; eb = 0; minus = false }; score = 0 }

unfoldable pub best_of : (Divisor → Divisor → Bool) → List Row → List Pair → Scored
unfolding best_from no_pairs divisor_of score
best_of first rows [] = no_pairs
best_of first rows (p ∷ ps) = best_from first rows (scored rows p) ps

unfoldable pub pick : (Divisor → Divisor → Bool) → List Row → Scored
unfolding best_of all_pairs
pick first rows = best_of first rows (all_pairs rows)

-- ---- the step: the divisor gets the next symbol, and each taken pair becomes one term

abbrev pub same_term : Term → Term → Bool
same_term t u = same_place t u && same_sign t.negative u.negative

unfoldable pub drop_term : Term → Row → Row
drop_term t [] = []
drop_term t (u ∷ r) = elim (same_term u t) [ true ↦ r | false ↦ u ∷ drop_term t r ]

-- a row without the terms of pairs
unfoldable pub without_pairs : List Pair → Row → Row
unfolding drop_term
without_pairs [] r = r
without_pairs (p ∷ ps) r = without_pairs ps (drop_term p.second (drop_term p.first r))

-- that symbol, the co-divisor, the occurrence's sign
abbrev pub new_term : ℕ → Pair → Term
new_term symbol p = record { symbol = symbol; exponent = co_divisor p; negative = sign_of p }

unfoldable pub new_terms : ℕ → List Pair → Row
unfolding sign_of
new_terms symbol [] = []
new_terms symbol (p ∷ ps) = new_term symbol p ∷ new_terms symbol ps

-- the new symbol is the largest, so the new terms stand last
unfoldable pub row_after : ℕ → Divisor → Row → Row
unfolding taken without_pairs new_terms
row_after symbol d r = let ps : List Pair = taken d r in without_pairs ps r ++ new_terms symbol ps

unfoldable pub rows_after : ℕ → Divisor → List Row → List Row
unfolding row_after
rows_after symbol d [] = []
rows_after symbol d (r ∷ rs) = row_after symbol d r ∷ rows_after symbol d rs

-- ---- elimination

-- its divisors, oldest first, the number of pairs replaced, and the remaining rows
pub record Eliminated : Type 0 where
  pub divisors : List Divisor
  pub replacements : ℕ
  pub remaining_rows : List Row

abbrev pub ended : List Row → Eliminated
ended rows = record { divisors = []; replacements = 0; remaining_rows = rows }

-- a step, then the rest
abbrev pub step_then : Scored → Eliminated → Eliminated
step_then s e = record { divisors = s.divisor ∷ e.divisors; replacements = s.score + e.replacements; remaining_rows = e.remaining_rows }

-- from the rows after the divisors made so far, with the next symbol; at most fuel steps
unfoldable pub eliminate : TieOrder → ℕ → ℕ → List Divisor → List Row → Eliminated
unfolding pick rows_after
eliminate order zero symbol made rows = ended rows
eliminate order (suc fuel) symbol made rows =
    let best : Scored = pick (order made) rows in
    elim (ltb best.score 2) [
      | true ↦ ended rows
      | false ↦ step_then best (eliminate order fuel (suc symbol) (made ++ (best.divisor ∷ [])) (rows_after symbol best.divisor rows))
    ]

-- a step takes at least two terms away, so there are at most half as many steps as the plain count
abbrev pub enough_steps : List Row → ℕ
enough_steps rows = plain_count rows

unfoldable pub elimination : TieOrder → ℕ → List Row → Eliminated
unfolding eliminate plain_count
elimination order inputs rows = eliminate order (enough_steps rows) inputs [] rows

-- of a matrix with a number of columns, over a number of digit positions, by that order
unfoldable pub matrix_elimination : ℕ → ℕ → List (List ℤ) → Eliminated
unfolding elimination matrix_rows shallowest_first
matrix_elimination positions inputs m = elimination (shallowest_first inputs) inputs (matrix_rows positions m)
