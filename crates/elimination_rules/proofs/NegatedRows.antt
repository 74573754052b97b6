-- A negated row: its pairs are those of the row, negated; they have the same divisors, co-divisors and overlaps, so the same are taken;
-- and the row after a step is the row after it, negated.
-- Assumes nothing.
use Prim.Native.Nat.{ℕ, ◌+◌}
use mathlib.Core.Path.{◌≡◌, refl, sym, ◌∙◌, ap, ap₂}
use mathlib.Core.Bool.{Bool, true, false, not, ◌&&◌}
use mathlib.Core.List.{List, [], ◌∷◌, ◌++◌, map, map-append}
use lib.Dec.{leb}
use lib.ListN.{length, length-map}
use Rattle.term.specs.declared.Term.{Term}
use Rattle.elimination_rules.specs.declared.Divisor.{Divisor}
use Rattle.elimination_rules.specs.Rows.{Row}
use Rattle.elimination_rules.specs.Divisors.{Pair, co_divisor, without_co_divisor, precedes, in_order, negated, first_positive, read_off, divisor_of, sign_of, pairs_with, pairs_of, same_sign, same_divisor, pairs_with_divisor, inserted, by_co_divisor, occurrences, same_place, overlap, overlaps_any, taking, taken, score}
use Rattle.elimination_rules.specs.Elimination.{all_pairs, same_term, drop_term, without_pairs, new_term, new_terms, row_after, rows_after}
use Rattle.elimination_rules.specs.Negated.{negated_row, negated_rows}
use Rattle.elimination_rules.proofs.Tests.{same_choice}

abbrev pub negated_pair : Pair → Pair
negated_pair p = record { first = negated p.first; second = negated p.second }

-- ---- a pair's divisor stays, its sign is the other one

order-negated : (p : Pair) → in_order (negated_pair p) ≡ negated_pair (in_order p)
unfolding in_order
order-negated p =
    let exchanged : Bool = precedes p.second p.first in
    same_choice negated_pair exchanged exchanged (record { first = p.second; second = p.first }) p _ _ refl refl refl

lowered-negated : (p : Pair) → in_order (without_co_divisor (negated_pair p)) ≡ negated_pair (in_order (without_co_divisor p))
unfolding without_co_divisor
lowered-negated p = order-negated (without_co_divisor p)

abbrev pair_of : ℕ → ℕ → Bool → ℕ → ℕ → Bool → Pair
pair_of a ea m b eb n = record { first = record { symbol = a; exponent = ea; negative = m }; second = record { symbol = b; exponent = eb; negative = n } }

-- a first term that is negated is negated back
read_negated : (a ea : ℕ) (m : Bool) (b eb : ℕ) (n : Bool) → read_off (first_positive (negated_pair (pair_of a ea m b eb n))) ≡ read_off (first_positive (pair_of a ea m b eb n))
unfolding first_positive
read_negated a ea true b eb n = refl
read_negated a ea false b eb true = refl
read_negated a ea false b eb false = refl

pub divisor-negated : (p : Pair) → divisor_of (negated_pair p) ≡ divisor_of p
unfolding divisor_of
divisor-negated p =
    let q : Pair = in_order (without_co_divisor p) in
    ap (λ (x : Pair). read_off (first_positive x)) (lowered-negated p)
    ∙ read_negated q.first.symbol q.first.exponent q.first.negative q.second.symbol q.second.exponent q.second.negative

sign-negated : (p : Pair) → sign_of (negated_pair p) ≡ not (sign_of p)
unfolding sign_of
sign-negated p = ap (λ (x : Pair). x.first.negative) (lowered-negated p)

-- ---- the pairs of rows, and the occurrences of a divisor

pairs_with_negated : (t : Term) (r : Row) → pairs_with (negated t) (negated_row r) ≡ map negated_pair (pairs_with t r)
unfolding pairs_with
pairs_with_negated t [] = refl
pairs_with_negated t (u ∷ r) = ap (λ (ps : List Pair). negated_pair (record { first = t; second = u }) ∷ ps) (pairs_with_negated t r)

pairs_negated : (r : Row) → pairs_of (negated_row r) ≡ map negated_pair (pairs_of r)
unfolding pairs_of
pairs_negated [] = refl
pairs_negated (t ∷ r) = ap₂ ◌++◌ (pairs_with_negated t r) (pairs_negated r) ∙ sym (map-append negated_pair (pairs_with t r) (pairs_of r))

pub all_pairs_negated : (rows : List Row) → all_pairs (negated_rows rows) ≡ map negated_pair (all_pairs rows)
unfolding all_pairs
all_pairs_negated [] = refl
all_pairs_negated (r ∷ rows) = ap₂ ◌++◌ (pairs_negated r) (all_pairs_negated rows) ∙ sym (map-append negated_pair (pairs_of r) (all_pairs rows))

with_divisor-negated : (d : Divisor) (ps : List Pair) → pairs_with_divisor d (map negated_pair ps) ≡ map negated_pair (pairs_with_divisor d ps)
unfolding pairs_with_divisor
with_divisor-negated d [] = refl
with_divisor-negated d (p ∷ ps) =
    same_choice (map negated_pair) (same_divisor (divisor_of p) d) (same_divisor (divisor_of (negated_pair p)) d) (p ∷ pairs_with_divisor d ps) (pairs_with_divisor d ps) _ _
    (ap (λ (e : Divisor). same_divisor e d) (divisor-negated p))
    (ap (λ (qs : List Pair). negated_pair p ∷ qs) (with_divisor-negated d ps))
    (with_divisor-negated d ps)

inserted-negated : (p : Pair) (ps : List Pair) → inserted (negated_pair p) (map negated_pair ps) ≡ map negated_pair (inserted p ps)
unfolding inserted
inserted-negated p [] = refl
inserted-negated p (q ∷ ps) =
    let first : Bool = leb (co_divisor p) (co_divisor q) in
    same_choice (map negated_pair) first first (p ∷ q ∷ ps) (q ∷ inserted p ps) _ _ refl refl
    (ap (λ (qs : List Pair). negated_pair q ∷ qs) (inserted-negated p ps))

by_co_divisor-negated : (ps : List Pair) → by_co_divisor (map negated_pair ps) ≡ map negated_pair (by_co_divisor ps)
unfolding by_co_divisor
by_co_divisor-negated [] = refl
by_co_divisor-negated (p ∷ ps) = ap (inserted (negated_pair p)) (by_co_divisor-negated ps) ∙ inserted-negated p (by_co_divisor ps)

occurrences-negated : (d : Divisor) (r : Row) → occurrences d (negated_row r) ≡ map negated_pair (occurrences d r)
unfolding occurrences
occurrences-negated d r =
    ap (λ (ps : List Pair). by_co_divisor (pairs_with_divisor d ps)) (pairs_negated r)
    ∙ ap by_co_divisor (with_divisor-negated d (pairs_of r))
    ∙ by_co_divisor-negated (pairs_with_divisor d (pairs_of r))

-- ---- what is taken, and the score

overlaps_negated : (p : Pair) (qs : List Pair) → overlaps_any (negated_pair p) (map negated_pair qs) ≡ overlaps_any p qs
unfolding overlaps_any
overlaps_negated p [] = refl
overlaps_negated p (q ∷ qs) = same_choice (λ (b : Bool). b) (overlap p q) (overlap p q) true (overlaps_any p qs) _ _ refl refl (overlaps_negated p qs)

taking-negated : (ps before : List Pair) → taking (map negated_pair before) (map negated_pair ps) ≡ map negated_pair (taking before ps)
unfolding taking
taking-negated [] before = refl
taking-negated (p ∷ ps) before =
    same_choice (map negated_pair) (overlaps_any p before) (overlaps_any (negated_pair p) (map negated_pair before)) (taking before ps) (p ∷ taking (p ∷ before) ps) _ _
    (overlaps_negated p before)
    (taking-negated ps before)
    (ap (λ (qs : List Pair). negated_pair p ∷ qs) (taking-negated ps (p ∷ before)))

taken-negated : (d : Divisor) (r : Row) → taken d (negated_row r) ≡ map negated_pair (taken d r)
unfolding taken
taken-negated d r = ap (taking []) (occurrences-negated d r) ∙ taking-negated (occurrences d r) []

pub score-negated : (d : Divisor) (rows : List Row) → score d (negated_rows rows) ≡ score d rows
unfolding score
score-negated d [] = refl
score-negated d (r ∷ rows) = ap₂ ◌+◌ (ap length (taken-negated d r) ∙ length-map (taken d r) negated_pair) (score-negated d rows)

-- ---- the rows after a step

same-sign-negated : (a b : Bool) → same_sign (not a) (not b) ≡ same_sign a b
same-sign-negated true true = refl
same-sign-negated true false = refl
same-sign-negated false true = refl
same-sign-negated false false = refl

drop-negated : (t : Term) (r : Row) → drop_term (negated t) (negated_row r) ≡ negated_row (drop_term t r)
unfolding drop_term
drop-negated t [] = refl
drop-negated t (u ∷ r) =
    same_choice negated_row (same_term u t) (same_term (negated u) (negated t)) r (u ∷ drop_term t r) _ _
    (ap (λ (b : Bool). same_place u t && b) (same-sign-negated u.negative t.negative))
    refl
    (ap (λ (q : Row). negated u ∷ q) (drop-negated t r))

without_negated : (ps : List Pair) (r : Row) → without_pairs (map negated_pair ps) (negated_row r) ≡ negated_row (without_pairs ps r)
unfolding without_pairs
without_negated [] r = refl
without_negated (p ∷ ps) r =
    ap (without_pairs (map negated_pair ps))
    (ap (drop_term (negated p.second)) (drop-negated p.first r) ∙ drop-negated p.second (drop_term p.first r))
    ∙ without_negated ps (drop_term p.second (drop_term p.first r))

module _ (symbol : ℕ) where
  new_term_negated : (p : Pair) → new_term symbol (negated_pair p) ≡ negated (new_term symbol p)
  new_term_negated p = λ i. record { symbol = symbol; exponent = co_divisor p; negative = sign-negated p i }

  new_terms_negated : (ps : List Pair) → new_terms symbol (map negated_pair ps) ≡ negated_row (new_terms symbol ps)
  unfolding new_terms
  new_terms_negated [] = refl
  new_terms_negated (p ∷ ps) = ap₂ ◌∷◌ (new_term_negated p) (new_terms_negated ps)

  after-negated : (d : Divisor) (r : Row) → row_after symbol d (negated_row r) ≡ negated_row (row_after symbol d r)
  unfolding row_after
  after-negated d r =
      ap (λ (ps : List Pair). without_pairs ps (negated_row r) ++ new_terms symbol ps) (taken-negated d r)
      ∙ ap₂ ◌++◌ (without_negated (taken d r) r) (new_terms_negated (taken d r))
      ∙ sym (map-append negated (without_pairs (taken d r) r) (new_terms symbol (taken d r)))

  pub rows-after-negated : (d : Divisor) (rows : List Row) → rows_after symbol d (negated_rows rows) ≡ negated_rows (rows_after symbol d rows)
  unfolding rows_after
  rows-after-negated d [] = refl
  rows-after-negated d (r ∷ rows) = ap₂ ◌∷◌ (after-negated d r) (rows-after-negated d rows)
