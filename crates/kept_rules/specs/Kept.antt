-- Request A3: scores as a running value. A table of divisors with their scores and what it says of each divisor; which divisors a step
-- counts anew; the table of the first rows, and the table after a step.
-- Assumes nothing.
use Rattle.std.specs.Prelude.{ℕ, zero, suc, ◌≤◌, ◌≡◌, Bool, true, false, not, ◌&&◌, ◌||◌, leb, eqb, get_or}
use mathlib.Core.List.{List, [], ◌∷◌, ◌++◌, Memᴰ}
use Rattle.term.specs.declared.Term.{Term}
use Rattle.elimination_rules.specs.declared.Divisor.{Divisor}
use Rattle.elimination_rules.specs.Rows.{Row}
use Rattle.elimination_rules.specs.Divisors.{Pair, co_divisor, divisor_of, same_divisor, score}
use Rattle.elimination_rules.specs.Visit.{InRow, all_in_row}
use Rattle.elimination_rules.specs.RowOrder.{differ}
use Rattle.elimination_rules.specs.Elimination.{Scored, better}
use Rattle.elimination_rules.specs.Lookup.{Signs, sign_at, occurs_at}

-- ---- the table

-- what a table says of a divisor: the score in its entry; 0 where it has none
unfoldable pub kept_score : List Scored → Divisor → ℕ
kept_score [] d = 0
kept_score (s ∷ table) d = elim (same_divisor s.divisor d) [ true ↦ s.score | false ↦ kept_score table d ]

-- no divisor has two entries
abbrev pub Once : List Scored → Type 0
Once [] = Unit {0}
Once (s ∷ table) = ((t : Scored) → Memᴰ t table → s.divisor ≡ t.divisor → ⊥) × Once table

-- a table of rows: it has the score of every divisor, whether that has an occurrence or not; only divisors with an occurrence have an
-- entry, and each has one
pub record Kept (rows : List Row) (table : List Scored) : Type 0 where
  pub scores : (d : Divisor) → kept_score table d ≡ score d rows
  pub occurring : (s : Scored) → Memᴰ s table → 1 ≤ s.score
  pub once : Once table

-- the best of a scored divisor and a table's
unfoldable pub best_entry : (Divisor → Divisor → Bool) → Scored → List Scored → Scored
best_entry first s [] = s
best_entry first s (t ∷ table) = elim (better first t s) [ true ↦ best_entry first t table | false ↦ best_entry first s table ]

-- ---- which divisors a step counts anew: those that lost or gained an occurrence

-- A divisor has at most one occurrence for each row and co-divisor, so it is enough to say where it occurs. Said by signs, as here, this is
-- so of divisors whose terms are in order (`Proper`), as those of two terms are.

-- what each row says of each symbol and exponent
abbrev pub signs_in : List Row → ℕ → Signs
signs_in rows i = sign_at (get_or rows i [])

-- at one of the first co-divisors there is an occurrence before and none after, or the reverse
unfoldable pub occurrence_changed : Signs → Signs → Divisor → ℕ → Bool
occurrence_changed before after d zero = false
occurrence_changed before after d (suc c) = differ (occurs_at before d c) (occurs_at after d c) || occurrence_changed before after d c

-- in one of so many rows from row i on
unfoldable pub counted_anew_from : ℕ → (ℕ → Signs) → (ℕ → Signs) → ℕ → ℕ → Divisor → Bool
unfolding occurrence_changed
counted_anew_from positions before after i zero d = false
counted_anew_from positions before after i (suc k) d =
    occurrence_changed (before i) (after i) d positions || counted_anew_from positions before after (suc i) k d

-- over a number of digit positions and of rows, rows past the last being empty
unfoldable pub counted_anew : ℕ → ℕ → List Row → List Row → Divisor → Bool
unfolding counted_anew_from
counted_anew positions most before after d = counted_anew_from positions (signs_in before) (signs_in after) 0 most d

-- ---- the entries of a table after a step

-- counted anew where `changed` says so, else as it was
abbrev pub refreshed_entry : (Divisor → Bool) → (Divisor → ℕ) → Scored → Scored
refreshed_entry changed scores s =
    record { divisor = s.divisor; score = elim (changed s.divisor) [ true ↦ scores s.divisor | false ↦ s.score ] }

-- those that have an occurrence still
unfoldable pub refreshed : (Divisor → Bool) → (Divisor → ℕ) → List Scored → List Scored
refreshed changed scores [] = []
refreshed changed scores (s ∷ table) =
    let t : Scored = refreshed_entry changed scores s in
    elim (eqb t.score 0) [ true ↦ refreshed changed scores table | false ↦ t ∷ refreshed changed scores table ]

-- ---- the entries that rows gain

-- the pairs of each term of a row with one behind them
unfoldable pub pairs_before : Row → Term → List Pair
pairs_before [] u = []
pairs_before (t ∷ r) u = record { first = t; second = u } ∷ pairs_before r u

-- the pairs of a row whose second term has the symbol or a later one; `front` stands before the others
unfoldable pub new_pairs : ℕ → Row → Row → List Pair
unfolding pairs_before
new_pairs symbol front [] = []
new_pairs symbol front (u ∷ r) = elim (leb symbol u.symbol) [
  | true ↦ pairs_before front u ++ new_pairs symbol (front ++ (u ∷ [])) r
  | false ↦ new_pairs symbol (front ++ (u ∷ [])) r
]

-- and of rows from row i on
unfoldable pub new_pairs_from : ℕ → ℕ → List Row → List InRow
unfolding new_pairs
new_pairs_from symbol i [] = []
new_pairs_from symbol i (r ∷ rs) = all_in_row i (new_pairs symbol [] r) ++ new_pairs_from symbol (suc i) rs

-- a divisor occurs at none of the first co-divisors
unfoldable pub occurs_nowhere : Signs → Divisor → ℕ → Bool
occurs_nowhere signs d zero = true
occurs_nowhere signs d (suc c) = not (occurs_at signs d c) && occurs_nowhere signs d c

-- and in none of the first rows
unfoldable pub occurs_in_none : ℕ → (ℕ → Signs) → Divisor → ℕ → Bool
unfolding occurs_nowhere
occurs_in_none positions signs d zero = true
occurs_in_none positions signs d (suc i) = occurs_nowhere (signs i) d positions && occurs_in_none positions signs d i

-- a pair is the first occurrence of its divisor, by row, then by co-divisor
unfoldable pub is_first : ℕ → (ℕ → Signs) → InRow → Bool
unfolding divisor_of occurs_nowhere occurs_in_none
is_first positions signs x =
    let d : Divisor = divisor_of x.pair in
    occurs_nowhere (signs x.row) d (co_divisor x.pair) && occurs_in_none positions signs d x.row

-- an entry for each divisor, at its first occurrence
unfoldable pub gained : (InRow → Bool) → (Divisor → ℕ) → List InRow → List Scored
unfolding divisor_of
gained first scores [] = []
gained first scores (x ∷ xs) =
    let d : Divisor = divisor_of x.pair in
    elim (first x) [ true ↦ record { divisor = d; score = scores d } ∷ gained first scores xs | false ↦ gained first scores xs ]

-- ---- the table of the first rows, and the table after a step that gave its divisor the symbol

abbrev pub gained_table : ℕ → ℕ → List Row → List Scored
gained_table positions symbol rows = gained (is_first positions (signs_in rows)) (λ d. score d rows) (new_pairs_from symbol 0 rows)

abbrev pub first_table : ℕ → List Row → List Scored
first_table positions rows = gained_table positions 0 rows

abbrev pub next_table : ℕ → ℕ → ℕ → List Row → List Row → List Scored → List Scored
next_table positions most symbol before after table =
    refreshed (counted_anew positions most before after) (λ d. score d after) table ++ gained_table positions symbol after
