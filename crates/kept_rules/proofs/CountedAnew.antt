-- Which divisors a step counts anew: each has an occurrence on one side that it has not on the other, and every other divisor has the
-- same score before and after.
-- Assumes nothing.
use Prim.Native.Nat.{ℕ, zero, suc, ◌+◌, ◌≤◌, ◌<◌}
use mathlib.Core.Path.{◌≡◌, refl, sym, ◌∙◌, ap, ap₂}
use mathlib.Core.Logic.{◌⊎◌, inl, inr, ⊎_elim}
use mathlib.Core.Bool.{Bool, true, false, not, ◌&&◌, false≢true, true≢false}
use mathlib.Core.List.Memᴰ
use mathlib.Core.List.{List, [], ◌∷◌, ◌++◌, Memᴰ}
use native.Mathlib.Omega.{arith}
use lib.Dec.{ltb, eqb}
use lib.ListN.{length, get_or-eq_default}
use borrow.Author.Tests.{eqb-true, eqb-false, ltb-true, ltb-false}
use Rattle.elimination_rules.specs.declared.Divisor.{Divisor}
use Rattle.elimination_rules.specs.Rows.{Row, WellFormed, EachRow}
use Rattle.elimination_rules.specs.Divisors.{Pair, occurrences, taken, score}
use Rattle.elimination_rules.specs.RowOrder.{differ}
use Rattle.elimination_rules.specs.Lookup.{Proper, Signs, sign_at, occurs_at, overlaps_taken, taken_flags, count_true, pair_at}
use Rattle.elimination_rules.proofs.Tests.{by_bool, clash, or_cases, or_no_left, or_no_right}
use Rattle.elimination_rules.proofs.RowOrder.{row_at, occurrence, all-occurrences}
use Rattle.elimination_rules.proofs.LookupSigns.{LookedUp, pair_co_divisor, pair_occurs, occurrence_looked_up}
use Rattle.elimination_rules.proofs.LookupTaken.{taken-count}
use Rattle.elimination_rules.proofs.PairScores.{scored-proper}
use Rattle.kept_rules.specs.Kept.{signs_in, occurrence_changed, counted_anew_from, counted_anew}

-- ---- rows, those past the last being empty

empty_well_formed : (positions symbol : ℕ) → WellFormed positions symbol []
empty_well_formed positions symbol = record {
  ascending = tt;
  none_twice = tt;
  exponents = λ t m. absurd (Memᴰ.not-nil m);
  symbols = λ t m. absurd (Memᴰ.not-nil m);
}

pub row_well_formed : (positions symbol : ℕ) (rows : List Row) → EachRow (WellFormed positions symbol) rows → (i : ℕ) → WellFormed positions symbol (row_at rows i)
row_well_formed positions symbol [] w i = empty_well_formed positions symbol
row_well_formed positions symbol (r ∷ rows) w zero = w.0
row_well_formed positions symbol (r ∷ rows) w (suc i) = row_well_formed positions symbol rows w.1 i

-- ---- where an occurrence changed

differ_yes : (a b : Bool) → differ a b ≡ true → ((a ≡ true) × (b ≡ false)) ⊎ ((b ≡ true) × (a ≡ false))
differ_yes true true e = absurd (false≢true e)
differ_yes true false e = inl (refl, refl)
differ_yes false true e = inr (refl, refl)
differ_yes false false e = absurd (false≢true e)

differ_no : (a b : Bool) → differ a b ≡ false → a ≡ b
differ_no true true e = refl
differ_no true false e = absurd (true≢false e)
differ_no false true e = absurd (true≢false e)
differ_no false false e = refl

module _ (before after : Signs) (d : Divisor) where
  pub changed_at : (n : ℕ) → occurrence_changed before after d n ≡ true → (c : ℕ) × (differ (occurs_at before d c) (occurs_at after d c) ≡ true)
  unfolding occurrence_changed
  changed_at zero e = absurd (false≢true e)
  changed_at (suc c) e = ⊎_elim (λ h. (c, h)) (λ h. changed_at c h) (or_cases (differ (occurs_at before d c) (occurs_at after d c)) (occurrence_changed before after d c) e)

  pub unchanged_at : (n : ℕ) → occurrence_changed before after d n ≡ false → (c : ℕ) → c < n → occurs_at before d c ≡ occurs_at after d c
  unfolding occurrence_changed
  unchanged_at zero e c l = absurd (omega arith)
  unchanged_at (suc n) e c l = by_bool (eqb c n)
      (λ h. let same : c ≡ n = eqb-true c n h in
      rw same (differ_no (occurs_at before d n) (occurs_at after d n) (or_no_left (differ (occurs_at before d n) (occurs_at after d n)) (occurrence_changed before after d n) e)))
      (λ h. unchanged_at n (or_no_right (differ (occurs_at before d n) (occurs_at after d n)) (occurrence_changed before after d n) e) c (omega (arith, eqb-false c n h)))

-- in one of the rows, or in none of them
module _ (positions : ℕ) (before after : ℕ → Signs) (d : Divisor) where
  pub counted_at : (i k : ℕ) → counted_anew_from positions before after i k d ≡ true → (j : ℕ) × (occurrence_changed (before j) (after j) d positions ≡ true)
  unfolding counted_anew_from
  counted_at i zero e = absurd (false≢true e)
  counted_at i (suc k) e = ⊎_elim
      (λ h. (i, h))
      (λ h. counted_at (suc i) k h)
      (or_cases (occurrence_changed (before i) (after i) d positions) (counted_anew_from positions before after (suc i) k d) e)

  pub not-counted_at : (i k : ℕ) → counted_anew_from positions before after i k d ≡ false
      → (j : ℕ) → i ≤ j → j < i + k → occurrence_changed (before j) (after j) d positions ≡ false
  unfolding counted_anew_from
  not-counted_at i zero e j l m = absurd (omega arith)
  not-counted_at i (suc k) e j l m = by_bool (eqb j i)
      (λ h. let same : j ≡ i = eqb-true j i h in
      rw same (or_no_left (occurrence_changed (before i) (after i) d positions) (counted_anew_from positions before after (suc i) k d) e))
      (λ h. not-counted_at (suc i) k (or_no_right (occurrence_changed (before i) (after i) d positions) (counted_anew_from positions before after (suc i) k d) e)
      j (omega (arith, eqb-false j i h)) (omega arith))

-- ---- a divisor that is counted anew has an occurrence on one side that it has not on the other

module _ (positions : ℕ) (d : Divisor) (proper : Proper d) where
  -- the occurrence at a co-divisor at which one row has one and the other has none
  only-there : (symbol next : ℕ) (r s : Row) → WellFormed positions symbol r → WellFormed positions next s
      → (c : ℕ) → occurs_at (sign_at r) d c ≡ true → occurs_at (sign_at s) d c ≡ false
      → Memᴰ (pair_at (sign_at r) d c) (occurrences d r) × (Memᴰ (pair_at (sign_at r) d c) (occurrences d s) → ⊥)
  only-there symbol next r s w v c e f =
      let p : Pair = pair_at (sign_at r) d c in (
        all-occurrences d r p (pair_occurs d proper r w.ascending c e),
        λ m.
            let h : LookedUp positions (sign_at s) d p = occurrence_looked_up positions d s v.ascending v.exponents p (occurrence d s p m) in
            clash (ap (occurs_at (sign_at s) d) (sym (pair_co_divisor (sign_at r) d proper c)) ∙ h.occurs) f,
      )

pub counted_has : (positions most symbol next : ℕ) (d : Divisor) → Proper d → (before after : List Row)
    → EachRow (WellFormed positions symbol) before → EachRow (WellFormed positions next) after → counted_anew positions most before after d ≡ true
    → (i : ℕ) × (p : Pair) × (
    (Memᴰ p (occurrences d (row_at before i)) × (Memᴰ p (occurrences d (row_at after i)) → ⊥))
    ⊎ (Memᴰ p (occurrences d (row_at after i)) × (Memᴰ p (occurrences d (row_at before i)) → ⊥))
    )
unfolding counted_anew
counted_has positions most symbol next d proper before after w v e =
    let h = counted_at positions (signs_in before) (signs_in after) d 0 most e in
    let i : ℕ = h.0 in
    let g = changed_at (signs_in before i) (signs_in after i) d positions h.1 in
    let c : ℕ = g.0 in
    let x : WellFormed positions symbol (row_at before i) = row_well_formed positions symbol before w i in
    let y : WellFormed positions next (row_at after i) = row_well_formed positions next after v i in
    ⊎_elim
    (λ o. (i, pair_at (signs_in before i) d c, inl (only-there positions d proper symbol next (row_at before i) (row_at after i) x y c o.0 o.1)))
    (λ o. (i, pair_at (signs_in after i) d c, inr (only-there positions d proper next symbol (row_at after i) (row_at before i) y x c o.0 o.1)))
    (differ_yes (occurs_at (signs_in before i) d c) (occurs_at (signs_in after i) d c) g.1)

-- ---- a divisor that is not has the same score before and after

-- the flags rest on where the divisor occurs
flags_where_occurring : (d : Divisor) (n : ℕ) (signs others : Signs) → ((c : ℕ) → c < n → occurs_at signs d c ≡ occurs_at others d c)
    → taken_flags signs d n ≡ taken_flags others d n
unfolding taken_flags
flags_where_occurring d zero signs others h = refl
flags_where_occurring d (suc c) signs others h =
    ap₂ (λ flags b. flags ++ ((b && not (overlaps_taken d flags c)) ∷ [])) (flags_where_occurring d c signs others (λ k l. h k (omega arith))) (h c (omega arith))

-- the score rests on how many are taken in each row
score_by_rows : (d : Divisor) (rows others : List Row) → ((i : ℕ) → length (taken d (row_at rows i)) ≡ length (taken d (row_at others i)))
    → score d rows ≡ score d others
unfolding score
score_by_rows d [] [] h = refl
score_by_rows d [] (r ∷ others) h = ap₂ ◌+◌ (h 0) (score_by_rows d [] others (λ i. h (suc i)))
score_by_rows d (r ∷ rows) [] h = ap₂ ◌+◌ (h 0) (score_by_rows d rows [] (λ i. h (suc i)))
score_by_rows d (r ∷ rows) (s ∷ others) h = ap₂ ◌+◌ (h 0) (score_by_rows d rows others (λ i. h (suc i)))

-- only a proper divisor has a score
proper_or_none : (positions symbol : ℕ) (d : Divisor) (rows : List Row) → EachRow (WellFormed positions symbol) rows → Proper d ⊎ (score d rows ≡ 0)
proper_or_none positions symbol d rows w = by_bool (ltb 0 (score d rows))
    (λ e. inl (scored-proper positions symbol d rows w (ltb-true 0 (score d rows) e)))
    (λ e. inr (omega (arith, ltb-false 0 (score d rows) e)))

module _ (positions most symbol next : ℕ) (d : Divisor) (before after : List Row)
    (w : EachRow (WellFormed positions symbol) before) (v : EachRow (WellFormed positions next) after)
    (few-before : length before ≤ most) (few-after : length after ≤ most) (e : counted_anew positions most before after d ≡ false) where
  same_taken : Proper d → (i : ℕ) → length (taken d (row_at before i)) ≡ length (taken d (row_at after i))
  unfolding counted_anew
  same_taken proper i = by_bool (ltb i most)
      (λ l.
      let x : WellFormed positions symbol (row_at before i) = row_well_formed positions symbol before w i in
      let y : WellFormed positions next (row_at after i) = row_well_formed positions next after v i in
      let unchanged : occurrence_changed (signs_in before i) (signs_in after i) d positions ≡ false =
      not-counted_at positions (signs_in before) (signs_in after) d 0 most e i (omega arith) (omega (arith, ltb-true i most l)) in
      taken-count positions d proper (row_at before i) x.ascending x.exponents
      ∙ ap count_true (flags_where_occurring d positions (signs_in before i) (signs_in after i) (unchanged_at (signs_in before i) (signs_in after i) d positions unchanged))
      ∙ sym (taken-count positions d proper (row_at after i) y.ascending y.exponents))
      (λ l. ap (λ r. length (taken d r)) (
      get_or-eq_default before [] (omega (arith, ltb-false i most l)) ∙ sym (get_or-eq_default after [] (omega (arith, ltb-false i most l)))
      ))

  pub same-score : score d before ≡ score d after
  same-score = ⊎_elim
      (λ proper. score_by_rows d before after (same_taken proper))
      (λ none. ⊎_elim
      (λ proper. score_by_rows d before after (same_taken proper))
      (λ none_after. none ∙ sym none_after)
      (proper_or_none positions next d after v))
      (proper_or_none positions symbol d before w)
