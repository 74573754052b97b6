-- What the columns of rows say of a divisor: its score, whether its occurrences are others after a step, whether a pair is its first
-- occurrence, and what is taken of it.
-- Assumes nothing.
use mathlib.Core.Path.{◌≡◌, refl, sym, ap, ap₂, ◌∙◌, subst}
use mathlib.Core.Bool.{Bool, true, ◌||◌}
use mathlib.Core.List.Memᴰ
use mathlib.Core.List.{List, [], ◌∷◌}
use Prim.Native.Nat.{ℕ, zero, suc, ◌+◌, ◌-◌, ◌^◌, ◌≤◌, ◌<◌}
use native.Mathlib.Omega.{arith}
use lib.Dec.{ltb, eqb}
use lib.Bits.{bit_and, and_zero_r}
use lib.Count.{ones}
use lib.ListN.{length, get_or}
use borrow.Author.Tests.{eqb-true, eqb-false, eq-eqb, ne_eqb, lt-ltb, le-ltb}
use Rattle.integers.proofs.Truth.{same_truth}
use Rattle.limits.specs.Limits.{max_rows, positions, term_symbols}
use Rattle.elimination_rules.specs.declared.Divisor.{Divisor}
use Rattle.elimination_rules.specs.Rows.{Row, EachRow, WellFormed}
use Rattle.elimination_rules.specs.Divisors.{score, taken, co_divisor, divisor_of}
use Rattle.elimination_rules.specs.Visit.{InRow}
use Rattle.elimination_rules.specs.Lookup.{Proper, ExponentsBelow, Signs, count_true}
use Rattle.elimination_rules.proofs.LookupSigns.{none_past}
use Rattle.elimination_rules.proofs.LookupTaken.{taken-count}
use Rattle.elimination_rules.proofs.Tests.{by_bool, and_left, and_right, and_both}
use Rattle.elimination_rules.proofs.Smaller.{by_order}
use Rattle.kept_rules.specs.Kept.{signs_in, counted_anew_from, counted_anew, occurs_nowhere, occurs_in_none, is_first}
use Rattle.kept_rules.proofs.CountedAnew.{row_well_formed}
use Rattle.bits.specs.Bits.{bits_of}
use Rattle.elimination_masks.specs.Masks.{plus_in, minus_in, occurrences_in, taken_in, mask_score_from, masks_differ_from, none_among_from, earlier_mask, TakenAt}
use Rattle.elimination_masks.specs.Columns.{ColumnsOf, TakenMasks, columns_score, columns_differ, columns_first}
use Rattle.elimination_masks.proofs.Turns.{yes_branch, no_branch}
use Rattle.elimination_rules.proofs.SignsAfter.{sign-most}
use Rattle.elimination_masks.proofs.MaskLaws.{OccurrencesOf, occurrences_of, TakenOf, taken_of, ones_count, nowhere_bits, changed_masks}

-- a row and those behind it, counted from one
here : (i : ℕ) → i ≡ i + 0
here i = omega arith

behind : (i j : ℕ) → suc i + j ≡ i + suc j
behind i j = omega arith

-- ---- in one row

-- rows past the last are empty
row-exponents : (symbol : ℕ) (rows : List Row) → EachRow (WellFormed positions symbol) rows → (i : ℕ) → ExponentsBelow positions (get_or rows i [])
row-exponents symbol [] w i t m = absurd (Memᴰ.not-nil m)
row-exponents symbol (r ∷ rs) w zero t m = w.0.exponents t m
row-exponents symbol (r ∷ rs) w (suc i) t m = row-exponents symbol rs w.1 i t m

module _ (symbol : ℕ) (rows : List Row) (columns : List (List ℕ)) (well : EachRow (WellFormed positions symbol) rows) (are : ColumnsOf rows columns)
    (d : Divisor) (a : d.a < term_symbols) (b : d.b < term_symbols) (i : ℕ) (below : i < max_rows) where
  pub row-occurrences : OccurrencesOf (signs_in rows i) d (occurrences_in d (get_or columns d.a []) (get_or columns d.b []) i)
  row-occurrences =
      let x : List ℕ = get_or columns d.a [] in
      let y : List ℕ = get_or columns d.b [] in
      occurrences_of (signs_in rows i) d (plus_in x i) (minus_in x i) (plus_in y i) (minus_in y i) (are d.a i a below) (are d.b i b below)
      (sign-most (get_or rows i [])) (λ e h. none_past positions (get_or rows i []) (row-exponents symbol rows well i) d.a e h)

  pub row-taken : TakenOf (signs_in rows i) d (taken_in d (get_or columns d.a []) (get_or columns d.b []) i)
  row-taken = taken_of (signs_in rows i) d (get_or columns d.a []) (get_or columns d.b []) i row-occurrences

-- ---- the score

-- of rows of which those from row i on have the counts
score-from : (d : Divisor) (x y : List ℕ) (rows : List Row) (i k : ℕ) → length rows ≤ k
    → ((j : ℕ) → j < k → ones (taken_in d x y (i + j)) ≡ length (taken d (get_or rows j []))) → mask_score_from d x y i k ≡ score d rows
unfolding mask_score_from score
score-from d x y [] i zero few counts = refl
score-from d x y (r ∷ rs) i zero few counts = absurd (omega arith)
score-from d x y [] i (suc k) few counts =
    ap₂ ◌+◌ (ap (λ j. ones (taken_in d x y j)) (here i) ∙ counts 0 (omega arith))
    (score-from d x y [] (suc i) k (omega arith) (λ j h. ap (λ l. ones (taken_in d x y l)) (behind i j) ∙ counts (suc j) (omega arith)))
score-from d x y (r ∷ rs) i (suc k) few counts =
    ap₂ ◌+◌ (ap (λ j. ones (taken_in d x y j)) (here i) ∙ counts 0 (omega arith))
    (score-from d x y rs (suc i) k (omega arith) (λ j h. ap (λ l. ones (taken_in d x y l)) (behind i j) ∙ counts (suc j) (omega arith)))

pub columns-score : (symbol : ℕ) (rows : List Row) (columns : List (List ℕ)) → EachRow (WellFormed positions symbol) rows → length rows ≤ max_rows
    → ColumnsOf rows columns → (d : Divisor) → Proper d → d.a < term_symbols → d.b < term_symbols → columns_score columns d ≡ score d rows
unfolding columns_score
columns-score symbol rows columns well few are d proper a b =
    score-from d (get_or columns d.a []) (get_or columns d.b []) rows 0 max_rows few
    (λ j h. let taken = row-taken symbol rows columns well are d a b j h in
    ap (λ l. ones (taken_in d (get_or columns d.a []) (get_or columns d.b []) l)) (let same : 0 + j ≡ j = omega arith in same)
    ∙ ones_count positions (taken_in d (get_or columns d.a []) (get_or columns d.b []) j) taken.below ∙ ap count_true taken.flags
    ∙ sym (let row = row_well_formed positions symbol rows well j in taken-count positions d proper (get_or rows j []) row.ascending row.exponents))

-- ---- whether the occurrences are others after a step

pub columns-differ : (symbol next : ℕ) (before after : List Row) (columns others : List (List ℕ)) → EachRow (WellFormed positions symbol) before
    → EachRow (WellFormed positions next) after → ColumnsOf before columns → ColumnsOf after others → (d : Divisor) → d.a < term_symbols → d.b < term_symbols
    → columns_differ columns others d ≡ counted_anew positions max_rows before after d
unfolding columns_differ counted_anew masks_differ_from counted_anew_from
columns-differ symbol next before after columns others well also are too d a b = go 0 max_rows (omega arith)
  where
    go : (i k : ℕ) → i + k ≤ max_rows
        → masks_differ_from d (get_or columns d.a []) (get_or columns d.b []) (get_or others d.a []) (get_or others d.b []) i k
        ≡ counted_anew_from positions (signs_in before) (signs_in after) i k d
    go i zero h = refl
    go i (suc k) h = ap₂ ◌||◌
        (changed_masks (signs_in before i) (signs_in after i) d (occurrences_in d (get_or columns d.a []) (get_or columns d.b []) i)
        (occurrences_in d (get_or others d.a []) (get_or others d.b []) i)
        (row-occurrences symbol before columns well are d a b i (omega arith)) (row-occurrences next after others also too d a b i (omega arith)))
        (go (suc i) k (omega arith))

-- ---- whether a pair is the first occurrence of its divisor

module _ (d : Divisor) (x y : List ℕ) (asked : ℕ → ℕ) where
  abbrev NoneAt : ℕ → Type 0
  NoneAt j = eqb (bit_and (occurrences_in d x y j) (asked j)) 0 ≡ true

  none_each : (i k : ℕ) → none_among_from d x y asked i k ≡ true → (j : ℕ) → i ≤ j → j < i + k → NoneAt j
  unfolding none_among_from
  none_each i zero e j l h = absurd (omega arith)
  none_each i (suc k) e j l h =
      let first : Bool = eqb (bit_and (occurrences_in d x y i) (asked i)) 0 in
      by_bool (eqb j i)
      (λ same. subst NoneAt (sym (eqb-true j i same)) (and_left first (none_among_from d x y asked (suc i) k) e))
      (λ other. let later = eqb-false j i other in none_each (suc i) k (and_right first (none_among_from d x y asked (suc i) k) e) j (omega arith) (omega arith))

  none-all : (i k : ℕ) → ((j : ℕ) → i ≤ j → j < i + k → NoneAt j) → none_among_from d x y asked i k ≡ true
  unfolding none_among_from
  none-all i zero all = refl
  none-all i (suc k) all = and_both (eqb (bit_and (occurrences_in d x y i) (asked i)) 0) (none_among_from d x y asked (suc i) k)
      (all i (omega arith) (omega arith)) (none-all (suc i) k (λ j l h. all j (omega arith) (omega arith)))

module _ (signs : ℕ → Signs) (d : Divisor) where
  rows-each : (n : ℕ) → occurs_in_none positions signs d n ≡ true → (i : ℕ) → i < n → occurs_nowhere (signs i) d positions ≡ true
  unfolding occurs_in_none
  rows-each zero e i h = absurd (omega arith)
  rows-each (suc n) e i h =
      by_bool (eqb i n)
      (λ same. ap (λ j. occurs_nowhere (signs j) d positions) (eqb-true i n same) ∙ and_left (occurs_nowhere (signs n) d positions) (occurs_in_none positions signs d n) e)
      (λ other. let earlier = eqb-false i n other in rows-each n (and_right (occurs_nowhere (signs n) d positions) (occurs_in_none positions signs d n) e) i (omega arith))

  rows_all : (n : ℕ) → ((i : ℕ) → i < n → occurs_nowhere (signs i) d positions ≡ true) → occurs_in_none positions signs d n ≡ true
  unfolding occurs_in_none
  rows_all zero all = refl
  rows_all (suc n) all = and_both (occurs_nowhere (signs n) d positions) (occurs_in_none positions signs d n) (all n (omega arith)) (rows_all n (λ i h. all i (omega arith)))

-- which co-divisors are asked for in the rows before one, in it, and behind it
pub earlier_before : (row c i : ℕ) → i < row → earlier_mask row c i ≡ 2 ^ positions - 1
earlier_before row c i h = sym (yes_branch (ltb i row) _ _ (lt-ltb i row h))

pub earlier_in : (row c i : ℕ) → i ≡ row → earlier_mask row c i ≡ 2 ^ c - 1
earlier_in row c i e = sym (no_branch (ltb i row) _ _ (le-ltb i row (omega arith))) ∙ sym (yes_branch (eqb i row) _ _ (eq-eqb i row e))

pub earlier_behind : (row c i : ℕ) → row < i → earlier_mask row c i ≡ 0
earlier_behind row c i h = sym (no_branch (ltb i row) _ _ (le-ltb i row (omega arith))) ∙ sym (no_branch (eqb i row) _ _ (ne_eqb i row (λ e. omega arith)))

pub columns-first : (symbol : ℕ) (rows : List Row) (columns : List (List ℕ)) → EachRow (WellFormed positions symbol) rows → ColumnsOf rows columns
    → (x : InRow) → x.row < max_rows → (divisor_of x.pair).a < term_symbols → (divisor_of x.pair).b < term_symbols
    → columns_first columns x ≡ is_first positions (signs_in rows) x
unfolding columns_first is_first
columns-first symbol rows columns well are x below a b = same_truth _ _
    (λ e. and_both (occurs_nowhere (signs_in rows row) d c) (occurs_in_none positions (signs_in rows) d row)
    (sym (own row below c) ∙ ap (λ z. eqb (bit_and (occurrences row) z) 0) (sym (earlier_in row c row refl)) ∙ none_each d p q asked 0 max_rows e row (omega arith) (omega arith))
    (rows_all (signs_in rows) d row (λ i h. sym (own i (omega arith) positions) ∙ ap (λ z. eqb (bit_and (occurrences i) z) 0) (sym (earlier_before row c i h))
    ∙ none_each d p q asked 0 max_rows e i (omega arith) (omega arith))))
    (λ e. none-all d p q asked 0 max_rows (λ i l h. by_order i row
    (λ before. ap (λ z. eqb (bit_and (occurrences i) z) 0) (earlier_before row c i before) ∙ own i (omega arith) positions
    ∙ rows-each (signs_in rows) d row (and_right (occurs_nowhere (signs_in rows row) d c) (occurs_in_none positions (signs_in rows) d row) e) i before)
    (λ same. subst (NoneAt d p q asked) (sym same) (ap (λ z. eqb (bit_and (occurrences row) z) 0) (earlier_in row c row refl) ∙ own row below c
    ∙ and_left (occurs_nowhere (signs_in rows row) d c) (occurs_in_none positions (signs_in rows) d row) e))
    (λ behind. ap (λ z. eqb (bit_and (occurrences i) z) 0) (earlier_behind row c i behind) ∙ eq-eqb (bit_and (occurrences i) 0) 0 (and_zero_r (occurrences i)))))
  where
    d : Divisor
    d = divisor_of x.pair

    row : ℕ
    row = x.row

    c : ℕ
    c = co_divisor x.pair

    p : List ℕ
    p = get_or columns d.a []

    q : List ℕ
    q = get_or columns d.b []

    asked : ℕ → ℕ
    asked = earlier_mask row c

    occurrences : ℕ → ℕ
    occurrences i = occurrences_in d p q i

    own : (i : ℕ) → i < max_rows → (n : ℕ) → eqb (bit_and (occurrences i) (2 ^ n - 1)) 0 ≡ occurs_nowhere (signs_in rows i) d n
    own i h n = nowhere_bits (signs_in rows i) d (occurrences i) (row-occurrences symbol rows columns well are d a b i h).bits n

-- ---- what is taken

pub taken_masks : (symbol : ℕ) (rows : List Row) (columns : List (List ℕ)) → EachRow (WellFormed positions symbol) rows → ColumnsOf rows columns
    → (d : Divisor) → d.a < term_symbols → d.b < term_symbols → (taken : List ℕ) → TakenAt taken d (get_or columns d.a []) (get_or columns d.b []) → TakenMasks d rows taken
taken_masks symbol rows columns well are d a b taken at i h =
    ap (λ z. bits_of z positions) (at i h) ∙ (row-taken symbol rows columns well are d a b i h).flags
