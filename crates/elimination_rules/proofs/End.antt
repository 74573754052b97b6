-- Elimination is a sequence of steps, by any order among equal scores. It ends because the highest score is below 2, and then any
-- two occurrences of one divisor overlap. More fuel than enough changes nothing.
-- Assumes nothing.
use Prim.Native.Nat.{ℕ, zero, suc, ◌+◌, ◌*◌, ◌≤◌, ◌<◌}
use mathlib.Core.Path.{◌≡◌, refl, sym, ◌∙◌, ap, subst}
use mathlib.Core.Bool.{Bool, true, false}
use mathlib.Core.Logic.{⊎_elim}
use mathlib.Core.List.Memᴰ
use mathlib.Core.List.{List, [], ◌∷◌, ◌++◌}
use native.Mathlib.Omega.{arith}
use lib.Dec.{eqb, ltb}
use lib.IntN.{ℤ}
use lib.ListN.{length}
use borrow.Author.Tests.{eqb-true, eqb-false, ltb-true, ltb-false, lt-ltb, le-ltb}
use Rattle.limits.specs.Limits.{max_rows, max_columns, positions, max_divisors}
use Rattle.elimination_rules.specs.declared.Divisor.{Divisor}
use Rattle.elimination_rules.specs.Rows.{Row, Ascending, EachRow, matrix_rows, plain_count}
use Rattle.elimination_rules.specs.Divisors.{Pair, overlap, taken, score}
use Rattle.elimination_rules.specs.Elimination.{TieOrder, Scored, pick, rows_after, Eliminated, ended, step_then, eliminate, enough_steps, elimination}
use Rattle.elimination_rules.specs.Steps.{Steps, end, step}
use Rattle.elimination_rules.proofs.Tests.{by_bool}
use Rattle.elimination_rules.proofs.RowOrder.{Occurrence, row_at}
use Rattle.elimination_rules.proofs.Taken.{overlap_turned, taken-most}
use Rattle.elimination_rules.proofs.Order.{Columns}
use Rattle.elimination_rules.proofs.Counts.{plain-after, plain-within}
use Rattle.elimination_rules.proofs.Pick.{pick-highest, pick-score}

-- ---- what a step of elimination is

module _ (order : TieOrder) (symbol : ℕ) (made : List Divisor) (rows : List Row) where
  pub eliminate-ends : (fuel : ℕ) → (pick (order made) rows).score < 2 → eliminate order fuel symbol made rows ≡ ended rows
  unfolding eliminate
  eliminate-ends zero h = refl
  eliminate-ends (suc fuel) h = rw (lt-ltb (pick (order made) rows).score 2 h, eliminate)

  pub eliminate_goes_on : (fuel : ℕ) → 2 ≤ (pick (order made) rows).score
      → eliminate order (suc fuel) symbol made rows
      ≡ step_then (pick (order made) rows)
      (eliminate order fuel (suc symbol) (made ++ ((pick (order made) rows).divisor ∷ [])) (rows_after symbol (pick (order made) rows).divisor rows))
  unfolding eliminate
  eliminate_goes_on fuel h = rw (le-ltb (pick (order made) rows).score 2 h, eliminate)

-- ---- elimination is a sequence of steps

one_more : (symbol : ℕ) (rows : List Row) (best : Scored) (l : Eliminated) → 2 ≤ best.score → best.score ≡ score best.divisor rows
    → Steps (suc symbol) (rows_after symbol best.divisor rows) l.divisors l.replacements l.remaining_rows
    → Steps symbol rows (step_then best l).divisors (step_then best l).replacements (step_then best l).remaining_rows
one_more symbol rows best l h e s =
    subst (λ (k : ℕ). Steps symbol rows (best.divisor ∷ l.divisors) (k + l.replacements) l.remaining_rows) (sym e) (step best.divisor (omega arith) s)

module _ (order : TieOrder) where
  pub eliminate_steps : (fuel symbol : ℕ) (made : List Divisor) (rows : List Row)
      → Steps symbol rows (eliminate order fuel symbol made rows).divisors (eliminate order fuel symbol made rows).replacements (eliminate order fuel symbol made rows).remaining_rows
  unfolding eliminate
  eliminate_steps zero symbol made rows = end
  eliminate_steps (suc fuel) symbol made rows = by_bool (ltb (pick (order made) rows).score 2)
      (λ e. rw (e, eliminate) end)
      (λ e. rw (e, eliminate) (
      let best : Scored = pick (order made) rows in
      let h : 2 ≤ best.score = ltb-false best.score 2 e in
      one_more symbol rows best _ h (pick-score (order made) rows h) (eliminate_steps fuel (suc symbol) (made ++ (best.divisor ∷ [])) (rows_after symbol best.divisor rows))
      ))

  -- ---- its end: with enough fuel every score of the remaining rows is below 2

  score-small : (d : Divisor) (rows : List Row) → score d rows ≤ plain_count rows
  score-small d rows = omega (arith, plain-after 0 d rows)

  -- what a step leaves to do
  less_plain : (symbol : ℕ) (made : List Divisor) (rows : List Row) (fuel : ℕ) → 2 ≤ (pick (order made) rows).score → plain_count rows ≤ 2 * suc fuel + 1
      → plain_count (rows_after symbol (pick (order made) rows).divisor rows) ≤ 2 * fuel + 1
  less_plain symbol made rows fuel h l =
      omega (arith, pick-score (order made) rows h, plain-after symbol (pick (order made) rows).divisor rows)

  pub eliminate-ended : (fuel symbol : ℕ) (made : List Divisor) (rows : List Row) → plain_count rows ≤ 2 * fuel + 1
      → (d : Divisor) → score d (eliminate order fuel symbol made rows).remaining_rows < 2
  unfolding eliminate
  eliminate-ended zero symbol made rows h d = omega (arith, score-small d rows)
  eliminate-ended (suc fuel) symbol made rows h d = by_bool (ltb (pick (order made) rows).score 2)
      (λ e. rw (e, eliminate) (omega (arith, pick-highest (order made) rows d, ltb-true (pick (order made) rows).score 2 e)))
      (λ e. rw (e, eliminate) (
      let best : Scored = pick (order made) rows in
      eliminate-ended fuel (suc symbol) (made ++ (best.divisor ∷ [])) (rows_after symbol best.divisor rows)
      (less_plain symbol made rows fuel (ltb-false best.score 2 e) h) d
      ))

  -- ---- more fuel than enough changes nothing

  pick_small : (made : List Divisor) (rows : List Row) → plain_count rows ≤ 1 → (pick (order made) rows).score < 2
  pick_small made rows h = by_bool (ltb (pick (order made) rows).score 2)
      (λ e. ltb-true (pick (order made) rows).score 2 e)
      (λ e. let k : 2 ≤ (pick (order made) rows).score = ltb-false (pick (order made) rows).score 2 e in
      absurd (omega (arith, pick-score (order made) rows k, score-small (pick (order made) rows).divisor rows)))

  pub enough_fuel : (j k symbol : ℕ) (made : List Divisor) (rows : List Row) → plain_count rows ≤ 2 * j + 1 → plain_count rows ≤ 2 * k + 1
      → eliminate order j symbol made rows ≡ eliminate order k symbol made rows
  enough_fuel zero k symbol made rows h l =
      let e : (pick (order made) rows).score < 2 = pick_small made rows (omega arith) in
      eliminate-ends order symbol made rows zero e ∙ sym (eliminate-ends order symbol made rows k e)
  enough_fuel (suc j) zero symbol made rows h l =
      let e : (pick (order made) rows).score < 2 = pick_small made rows (omega arith) in
      eliminate-ends order symbol made rows (suc j) e ∙ sym (eliminate-ends order symbol made rows zero e)
  enough_fuel (suc j) (suc k) symbol made rows h l = by_bool (ltb (pick (order made) rows).score 2)
      (λ e. let g : (pick (order made) rows).score < 2 = ltb-true (pick (order made) rows).score 2 e in
      eliminate-ends order symbol made rows (suc j) g ∙ sym (eliminate-ends order symbol made rows (suc k) g))
      (λ e.
      let best : Scored = pick (order made) rows in
      let g : 2 ≤ best.score = ltb-false best.score 2 e in
      eliminate_goes_on order symbol made rows j g
      ∙ ap (step_then best) (enough_fuel j k (suc symbol) (made ++ (best.divisor ∷ [])) (rows_after symbol best.divisor rows)
      (less_plain symbol made rows j g h) (less_plain symbol made rows k g l))
      ∙ sym (eliminate_goes_on order symbol made rows k g))

  -- elimination from any rows on: it ends, or makes a step and goes on from the rows after it
  pub from-ends : (symbol : ℕ) (made : List Divisor) (rows : List Row) → (pick (order made) rows).score < 2 → eliminate order (plain_count rows) symbol made rows ≡ ended rows
  from-ends symbol made rows h = eliminate-ends order symbol made rows (plain_count rows) h

  pub from_goes_on : (symbol : ℕ) (made : List Divisor) (rows : List Row) → 2 ≤ (pick (order made) rows).score
      → (let best : Scored = pick (order made) rows in
      let next : List Row = rows_after symbol best.divisor rows in
      eliminate order (plain_count rows) symbol made rows ≡ step_then best (eliminate order (plain_count next) (suc symbol) (made ++ (best.divisor ∷ [])) next))
  from_goes_on symbol made rows h =
      let best : Scored = pick (order made) rows in
      let next : List Row = rows_after symbol best.divisor rows in
      let e : plain_count next + score best.divisor rows ≡ plain_count rows = plain-after symbol best.divisor rows in
      let g : best.score ≡ score best.divisor rows = pick-score (order made) rows h in
      enough_fuel (plain_count rows) (suc (plain_count rows)) symbol made rows (omega arith) (omega arith)
      ∙ eliminate_goes_on order symbol made rows (plain_count rows) h
      ∙ ap (step_then best) (enough_fuel (plain_count rows) (plain_count next) (suc symbol) (made ++ (best.divisor ∷ [])) next (omega arith) (omega arith))

  -- ---- the whole of it

  pub elimination_steps : (inputs : ℕ) (rows : List Row)
      → Steps inputs rows (elimination order inputs rows).divisors (elimination order inputs rows).replacements (elimination order inputs rows).remaining_rows
  unfolding elimination
  elimination_steps inputs rows = eliminate_steps (enough_steps rows) inputs [] rows

  -- it ends because the highest score is below 2
  pub elimination-ended : (inputs : ℕ) (rows : List Row) (d : Divisor) → score d (elimination order inputs rows).remaining_rows < 2
  unfolding elimination
  elimination-ended inputs rows = eliminate-ended (enough_steps rows) inputs [] rows (omega arith)

  -- whichever order it is measured by
  pub elimination-highest : (inputs : ℕ) (rows : List Row) (first : Divisor → Divisor → Bool) → (pick first (elimination order inputs rows).remaining_rows).score < 2
  elimination-highest inputs rows first =
      let rest : List Row = (elimination order inputs rows).remaining_rows in
      by_bool (ltb (pick first rest).score 2)
      (λ e. ltb-true (pick first rest).score 2 e)
      (λ e. absurd (omega (arith, ltb-false (pick first rest).score 2 e, pick-score first rest (ltb-false (pick first rest).score 2 e), elimination-ended inputs rows (pick first rest).divisor)))

  -- of a matrix within the limits, within as many steps as there are divisors at most
  pub elimination-within : (n : ℕ) (m : List (List ℤ)) → Columns n m → n ≤ max_columns → length m ≤ max_rows
      → elimination order n (matrix_rows positions m) ≡ eliminate order max_divisors n [] (matrix_rows positions m)
  unfolding elimination
  elimination-within n m c hn hm =
      enough_fuel (enough_steps (matrix_rows positions m)) max_divisors n [] (matrix_rows positions m) (omega arith) (omega (arith, plain-within n m c hn hm))

-- ---- where every score is below 2, any two occurrences of one divisor overlap: they are in the same row and share a term

ascending_at : (rows : List Row) → EachRow Ascending rows → (i : ℕ) → Ascending (row_at rows i)
ascending_at [] a i = tt
ascending_at (r ∷ rows) a zero = a.0
ascending_at (r ∷ rows) a (suc i) = ascending_at rows a.1 i

none-taken : (d : Divisor) → length (taken d []) ≡ 0
unfolding taken
none-taken d = refl

module _ (d : Divisor) where
  one-row : (rows : List Row) (i : ℕ) → length (taken d (row_at rows i)) ≤ score d rows
  unfolding score
  one-row [] i = omega (arith, none-taken d)
  one-row (r ∷ rows) zero = omega arith
  one-row (r ∷ rows) (suc i) = omega (arith, one-row rows i)

  two_rows_lem : (rows : List Row) (i j : ℕ) → (i ≡ j → ⊥) → length (taken d (row_at rows i)) + length (taken d (row_at rows j)) ≤ score d rows
  unfolding score
  two_rows_lem [] i j n = omega (arith, none-taken d)
  two_rows_lem (r ∷ rows) zero zero n = absurd (n refl)
  two_rows_lem (r ∷ rows) zero (suc j) n = omega (arith, one-row rows j)
  two_rows_lem (r ∷ rows) (suc i) zero n = omega (arith, one-row rows i)
  two_rows_lem (r ∷ rows) (suc i) (suc j) n = omega (arith, two_rows_lem rows i j (λ e. n (ap suc e)))

  taken-some : (r : Row) → Ascending r → (p : Pair) → Occurrence d r p → 1 ≤ length (taken d r)
  taken-some r a p o = taken-most d r a (p ∷ []) (record {
    occur = λ q m. subst (λ x. Occurrence d r x) (sym (Memᴰ.eq_of_singleton m)) o;
    apart = ((λ x m. absurd (Memᴰ.not-nil m)), tt);
  })

  taken_two : (r : Row) → Ascending r → (p q : Pair) → Occurrence d r p → Occurrence d r q → overlap q p ≡ false → 2 ≤ length (taken d r)
  taken_two r a p q o u h = taken-most d r a (p ∷ q ∷ []) (record {
    occur = λ x m. ⊎_elim
        (λ w. subst (λ y. Occurrence d r y) (sym w) o)
        (λ k. subst (λ y. Occurrence d r y) (sym (Memᴰ.eq_of_singleton k)) u)
        (Memᴰ.cases_cons m);
    apart = (
      (λ x m. ap (λ y. overlap y p) (Memᴰ.eq_of_singleton m) ∙ h),
      ((λ x m. absurd (Memᴰ.not-nil m)), tt),
    );
  })

  pub all-overlap : (rows : List Row) → EachRow Ascending rows → score d rows < 2
      → (i j : ℕ) (p q : Pair) → Occurrence d (row_at rows i) p → Occurrence d (row_at rows j) q → (i ≡ j) × (overlap p q ≡ true)
  all-overlap rows a h i j p q o u =
      let same : i ≡ j = by_bool (eqb i j)
      (λ e. eqb-true i j e)
      (λ e. absurd (omega (arith, two_rows_lem rows i j (eqb-false i j e), taken-some (row_at rows i) (ascending_at rows a i) p o, taken-some (row_at rows j) (ascending_at rows a j) q u))) in (
        same,
        overlap_turned q p (by_bool (overlap q p)
            (λ e. e)
            (λ e. absurd (omega (arith, one-row rows i, taken_two (row_at rows i) (ascending_at rows a i) p q o (subst (λ (k : ℕ). Occurrence d (row_at rows k) q) (sym same) u) e)))),
      )
