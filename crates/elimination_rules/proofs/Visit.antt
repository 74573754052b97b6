-- Visiting over all rows at once takes what is taken row by row, so the score is the number taken; and no other choice without
-- overlap takes more.
-- Assumes nothing.
use Prim.Native.Nat.{ℕ, suc, ◌+◌, ◌≤◌, ◌<◌, pred}
use mathlib.Core.Path.{◌≡◌, refl, sym, ◌∙◌, ap, ap₂, subst}
use mathlib.Core.Logic.{⊎_elim}
use mathlib.Core.Bool.{true, false, ◌&&◌}
use mathlib.Core.List.Memᴰ
use mathlib.Core.List.{List, [], ◌∷◌, ◌++◌, Memᴰ}
use native.Mathlib.Omega.{arith}
use lib.Dec.{eqb}
use lib.ListN.{length, length-append, length-map}
use borrow.Author.Tests.{eq-eqb, ne_eqb, eqb-true, eqb-false}
use Rattle.elimination_rules.specs.declared.Divisor.{Divisor}
use Rattle.elimination_rules.specs.Rows.{Row, Ascending, EachRow}
use Rattle.elimination_rules.specs.Divisors.{Pair, pairs_of, overlap, overlaps_any, occurrences, taking, taken, score}
use Rattle.elimination_rules.specs.Visit.{InRow, overlap_in_row, overlaps_any_in_row, all_in_row, visit, taking_in_row, taken_of_all}
use Rattle.elimination_rules.proofs.Tests.{by_bool, by_test, and_no_left}
use Rattle.elimination_rules.proofs.Taken.{NoOverlap, taken-most, any_yes, any_no, taking_yes, taking_no}
use Rattle.elimination_rules.proofs.RowOrder.{Occurrence, row_at}

-- the definitions' equations
any_in_row_yes : (x y : InRow) (ys : List InRow) → overlap_in_row x y ≡ true → overlaps_any_in_row x (y ∷ ys) ≡ true
unfolding overlaps_any_in_row
any_in_row_yes x y ys e = rw (e, overlaps_any_in_row)

any_in_row_no : (x y : InRow) (ys : List InRow) → overlap_in_row x y ≡ false → overlaps_any_in_row x (y ∷ ys) ≡ overlaps_any_in_row x ys
unfolding overlaps_any_in_row
any_in_row_no x y ys e = rw (e, overlaps_any_in_row)

taking_in_row_yes : (before : List InRow) (x : InRow) (xs : List InRow) → overlaps_any_in_row x before ≡ true → taking_in_row before (x ∷ xs) ≡ taking_in_row before xs
unfolding taking_in_row
taking_in_row_yes before x xs e = rw (e, taking_in_row)

taking_in_row_no : (before : List InRow) (x : InRow) (xs : List InRow) → overlaps_any_in_row x before ≡ false → taking_in_row before (x ∷ xs) ≡ x ∷ taking_in_row (x ∷ before) xs
unfolding taking_in_row
taking_in_row_no before x xs e = rw (e, taking_in_row)

-- all are in rows before row i
abbrev Earlier : ℕ → List InRow → Type 0
Earlier i xs = (x : InRow) → Memᴰ x xs → x.row < i

module _ (i : ℕ) where
  abbrev in_this : Pair → InRow
  in_this p = record { row = i; pair = p }

  -- an occurrence of this row overlaps none of an earlier one
  none_earlier : (p : Pair) (xs : List InRow) → Earlier i xs → overlaps_any_in_row (in_this p) xs ≡ false
  none_earlier p [] h = unfold overlaps_any_in_row in refl
  none_earlier p (x ∷ xs) h =
      any_in_row_no (in_this p) x xs (and_no_left (eqb i x.row) (overlap p x.pair) (ne_eqb i x.row (λ e. omega (arith, h x (Memᴰ.head refl)))))
      ∙ none_earlier p xs (λ y m. h y (Memᴰ.tail m))

  this_row : (p q : Pair) → overlap_in_row (in_this p) (in_this q) ≡ overlap p q
  this_row p q = ap (λ b. b && overlap p q) (eq-eqb i i refl)

  -- so what was taken in this row decides
  any_this_row : (p : Pair) (done : List Pair) (earlier : List InRow) → Earlier i earlier → overlaps_any_in_row (in_this p) (all_in_row i done ++ earlier) ≡ overlaps_any p done
  any_this_row p [] earlier h = none_earlier p earlier h ∙ unfold overlaps_any in refl
  any_this_row p (q ∷ done) earlier h = by_bool (overlap p q)
      (λ e. any_in_row_yes (in_this p) (in_this q) (all_in_row i done ++ earlier) (this_row p q ∙ e) ∙ sym (any_yes p q done e))
      (λ e. any_in_row_no (in_this p) (in_this q) (all_in_row i done ++ earlier) (this_row p q ∙ e) ∙ any_this_row p done earlier h ∙ sym (any_no p q done e))

  earlier_than_next : (done : List Pair) (earlier : List InRow) → Earlier i earlier → Earlier (suc i) (all_in_row i done ++ earlier)
  earlier_than_next done earlier h x m = ⊎_elim
      (λ k. let e = Memᴰ.of_map in_this done k in omega (arith, ap (λ y. y.row) e.2))
      (λ k. omega (arith, h x k))
      (Memᴰ.append_cases (all_in_row i done) m)

  one-row : (done ps : List Pair) (earlier rest result : List InRow) → Earlier i earlier → ((before : List InRow) → Earlier (suc i) before → taking_in_row before rest ≡ result)
      → taking_in_row (all_in_row i done ++ earlier) (all_in_row i ps ++ rest) ≡ all_in_row i (taking done ps) ++ result
  one-row done [] earlier rest result h next = next (all_in_row i done ++ earlier) (earlier_than_next done earlier h) ∙ unfold taking in refl
  one-row done (p ∷ ps) earlier rest result h next = by_bool (overlaps_any p done)
      (λ e.
      taking_in_row_yes (all_in_row i done ++ earlier) (in_this p) (all_in_row i ps ++ rest) (any_this_row p done earlier h ∙ e)
      ∙ one-row done ps earlier rest result h next
      ∙ ap (λ qs. all_in_row i qs ++ result) (sym (taking_yes done p ps e)))
      (λ e.
      taking_in_row_no (all_in_row i done ++ earlier) (in_this p) (all_in_row i ps ++ rest) (any_this_row p done earlier h ∙ e)
      ∙ ap (λ xs. in_this p ∷ xs) (one-row (p ∷ done) ps earlier rest result h next)
      ∙ ap (λ qs. all_in_row i qs ++ result) (sym (taking_no done p ps e)))

-- what is taken row by row, from row i on
unfoldable pub taken_by_row : Divisor → ℕ → List Row → List InRow
taken_by_row d i [] = []
taken_by_row d i (r ∷ rows) = all_in_row i (taken d r) ++ taken_by_row d (suc i) rows

from_row : (d : Divisor) (i : ℕ) (rows : List Row) (before : List InRow) → Earlier i before → taking_in_row before (visit d i rows) ≡ taken_by_row d i rows
unfolding visit taken_by_row taken
from_row d i [] before h = unfold taking_in_row in refl
from_row d i (r ∷ rows) before h = one-row i [] (occurrences d r) before (visit d (suc i) rows) (taken_by_row d (suc i) rows) h (from_row d (suc i) rows)

pub taken_by_row_lem : (d : Divisor) (rows : List Row) → taken_of_all d rows ≡ taken_by_row d 0 rows
unfolding taken_of_all
taken_by_row_lem d rows = from_row d 0 rows [] (λ x m. absurd (Memᴰ.not-nil m))

length_by_row : (d : Divisor) (i : ℕ) (rows : List Row) → length (taken_by_row d i rows) ≡ score d rows
unfolding taken_by_row score
length_by_row d i [] = refl
length_by_row d i (r ∷ rows) =
    length-append (all_in_row i (taken d r)) (taken_by_row d (suc i) rows)
    ∙ ap₂ ◌+◌ (length-map (taken d r) (in_this i)) (length_by_row d (suc i) rows)

-- the number taken is the divisor's score
pub score-is : (d : Divisor) (rows : List Row) → length (taken_of_all d rows) ≡ score d rows
score-is d rows = ap length (taken_by_row_lem d rows) ∙ length_by_row d 0 rows

-- ---- no other choice without overlap takes more, over all rows at once

abbrev pub NoOverlapInRow : List InRow → Type 0
NoOverlapInRow [] = Unit {0}
NoOverlapInRow (x ∷ xs) = ((y : InRow) → Memᴰ y xs → overlap_in_row y x ≡ false) × NoOverlapInRow xs

pub record ChoiceOfAll (d : Divisor) (rows : List Row) (xs : List InRow) : Type 0 where
  pub occur : (x : InRow) → Memᴰ x xs → Occurrence d (row_at rows x.row) x.pair
  pub apart : NoOverlapInRow xs

-- the pairs of row 0, and the others with their rows counted from the next one
in_first : List InRow → List Pair
in_first [] = []
in_first (x ∷ xs) = elim (eqb x.row 0) [ true ↦ x.pair ∷ in_first xs | false ↦ in_first xs ]

in_others : List InRow → List InRow
in_others [] = []
in_others (x ∷ xs) = elim (eqb x.row 0) [ true ↦ in_others xs | false ↦ record { row = pred x.row; pair = x.pair } ∷ in_others xs ]

both_lengths : (xs : List InRow) → length (in_first xs) + length (in_others xs) ≡ length xs
unfolding in_first in_others
both_lengths [] = refl
both_lengths (x ∷ xs) = by_bool (eqb x.row 0)
    (λ e. rw (e, in_first, in_others) (omega (arith, both_lengths xs)))
    (λ e. rw (e, in_first, in_others) (omega (arith, both_lengths xs)))

first_member : (xs : List InRow) (p : Pair) → Memᴰ p (in_first xs) → (x : InRow) × Memᴰ x xs × (x.row ≡ 0) × (p ≡ x.pair)
unfolding in_first
first_member [] p = λ m. absurd (Memᴰ.not-nil m)
first_member (x ∷ xs) p = by_test (eqb x.row 0) (x.pair ∷ in_first xs) (in_first xs) (λ z. Memᴰ p z → (y : InRow) × Memᴰ y (x ∷ xs) × (y.row ≡ 0) × (p ≡ y.pair))
    (λ e m. ⊎_elim
    (λ w. (x, Memᴰ.head refl, eqb-true x.row 0 e, w))
    (λ k. let h = first_member xs p k in (h.0, Memᴰ.tail h.1, h.2, h.3))
    (Memᴰ.cases_cons m))
    (λ e m. let h = first_member xs p m in (h.0, Memᴰ.tail h.1, h.2, h.3))

other_member : (xs : List InRow) (y : InRow) → Memᴰ y (in_others xs) → (x : InRow) × Memᴰ x xs × (x.row ≡ suc y.row) × (y.pair ≡ x.pair)
unfolding in_others
other_member [] y = λ m. absurd (Memᴰ.not-nil m)
other_member (x ∷ xs) y = by_test (eqb x.row 0) (in_others xs) (record { row = pred x.row; pair = x.pair } ∷ in_others xs)
    (λ z. Memᴰ y z → (u : InRow) × Memᴰ u (x ∷ xs) × (u.row ≡ suc y.row) × (y.pair ≡ u.pair))
    (λ e m. let h = other_member xs y m in (h.0, Memᴰ.tail h.1, h.2, h.3))
    (λ e m. ⊎_elim
    (λ w. (x, Memᴰ.head refl, lifted (eqb-false x.row 0 e) (ap (λ z. z.row) w), ap (λ z. z.pair) w))
    (λ k. let h = other_member xs y k in (h.0, Memᴰ.tail h.1, h.2, h.3))
    (Memᴰ.cases_cons m))
  where
    lifted : {k j : ℕ} → (k ≡ 0 → ⊥) → j ≡ pred k → k ≡ suc j
    lifted n e = omega arith

-- in one row, to overlap is to share a term
same_row_lem : (x y : InRow) → x.row ≡ y.row → overlap_in_row x y ≡ overlap x.pair y.pair
same_row_lem x y e = ap (λ b. b && overlap x.pair y.pair) (eq-eqb x.row y.row e)

first-apart : (xs : List InRow) → NoOverlapInRow xs → NoOverlap (in_first xs)
unfolding in_first
first-apart [] a = tt
first-apart (x ∷ xs) a = by_test (eqb x.row 0) (x.pair ∷ in_first xs) (in_first xs) NoOverlap
    (λ e. (
      (λ p m.
          let h = first_member xs p m in
          ap (λ q. overlap q x.pair) h.3 ∙ sym (same_row_lem h.0 x (h.2 ∙ sym (eqb-true x.row 0 e))) ∙ a.0 h.0 h.1),
      first-apart xs a.1,
    ))
    (λ e. first-apart xs a.1)

others_apart : (xs : List InRow) → NoOverlapInRow xs → NoOverlapInRow (in_others xs)
unfolding in_others
others_apart [] a = tt
others_apart (x ∷ xs) a = by_test (eqb x.row 0) (in_others xs) (record { row = pred x.row; pair = x.pair } ∷ in_others xs) NoOverlapInRow
    (λ e. others_apart xs a.1)
    (λ e. (
      (λ y m. let h = other_member xs y m in
          by_bool (eqb y.row (pred x.row))
          (λ f.
          same_row_lem y (record { row = pred x.row; pair = x.pair }) (eqb-true y.row (pred x.row) f)
          ∙ ap (λ q. overlap q x.pair) h.3
          ∙ sym (same_row_lem h.0 x (next (eqb-false x.row 0 e) h.2 (eqb-true y.row (pred x.row) f))) ∙ a.0 h.0 h.1)
          (λ f. and_no_left (eqb y.row (pred x.row)) (overlap y.pair x.pair) f)),
      others_apart xs a.1,
    ))
  where
    next : {k i j : ℕ} → (k ≡ 0 → ⊥) → i ≡ suc j → j ≡ pred k → i ≡ k
    next n e f = omega arith

no_pairs_lem : (d : Divisor) (p : Pair) → Occurrence d [] p → ⊥
unfolding pairs_of
no_pairs_lem d p o = Memᴰ.not-nil {a = p} o.pair

pub score-most-of-all : (d : Divisor) (rows : List Row) → EachRow Ascending rows → (xs : List InRow) → ChoiceOfAll d rows xs → length xs ≤ score d rows
unfolding score
score-most-of-all d [] a [] c = omega arith
score-most-of-all d [] a (x ∷ xs) c = absurd (no_pairs_lem d x.pair (c.occur x (Memᴰ.head refl)))
score-most-of-all d (r ∷ rows) a xs c = omega (
  arith,
  both_lengths xs,
  taken-most d r a.0 (in_first xs) (record {
    occur = λ p m.
        let h = first_member xs p m in
        rw h.3 (subst (λ (k : ℕ). Occurrence d (row_at (r ∷ rows) k) h.0.pair) h.2 (c.occur h.0 h.1));
    apart = first-apart xs c.apart;
  }),
  score-most-of-all d rows a.1 (in_others xs) (record {
    occur = λ y m.
        let h = other_member xs y m in
        rw h.3 (subst (λ (k : ℕ). Occurrence d (row_at (r ∷ rows) k) h.0.pair) h.2 (c.occur h.0 h.1));
    apart = others_apart xs c.apart;
  }),
)
