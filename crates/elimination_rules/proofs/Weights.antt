-- A row's weight stays as it was, and each divisor, shifted, is part of a row: so no divisor's weight is above the bound of the
-- first rows. Values are at most as large as weights.
-- Assumes nothing.
use Prim.Native.Nat.{ℕ, suc, ◌+◌, ◌*◌, ◌-◌, ◌^◌, ◌≤◌}
use mathlib.Core.Path.{◌≡◌, refl, sym, ◌∙◌, ap, ap₂}
use mathlib.Core.Logic.{⊎_elim}
use mathlib.Core.Bool.{Bool, true, false}
use mathlib.Core.List.Memᴰ
use mathlib.Core.List.{List, [], ◌∷◌, map, Memᴰ}
use native.Mathlib.Omega.{arith}
use native.Mathlib.Nat.{mul_assoc, mul-add, add_comm, mul-le-mul}
use lib.IntN.{pos, nat_abs, ◌+ℤ◌}
use lib.Pow.{pow-add, pow_pos}
use Rattle.term.specs.declared.Term.{Term}
use Rattle.elimination_rules.specs.declared.Divisor.{Divisor}
use Rattle.elimination_rules.specs.Rows.{Row, row_sum, EachRow}
use Rattle.elimination_rules.specs.Divisors.{Pair, co_divisor, lowered, without_co_divisor, precedes, in_order, first_positive, read_off, divisor_of, score}
use Rattle.elimination_rules.specs.Elimination.{same_term, drop_term, new_term, row_after, rows_after}
use Rattle.elimination_rules.specs.Steps.{Steps, end, step}
use Rattle.elimination_rules.specs.Weights.{term_weight, row_weight, divisor_weight, Weights}
use Rattle.elimination_rules.proofs.Tests.{by_test, by_bool, clash}
use Rattle.elimination_rules.proofs.Same.{same_term_lem, term_same}
use Rattle.elimination_rules.proofs.RowOrder.{Occurrence}
use Rattle.elimination_rules.proofs.Replaced.{drop_yes, drop_no, pair_inside, sum-after}
use Rattle.elimination_rules.proofs.Order.{score_occurs, each_row}

module _ (w : ℕ → ℕ) where
  -- ---- the weight of a pair, and what it becomes

  pair_weight : Pair → ℕ
  pair_weight p = term_weight w p.first + term_weight w p.second

  lowered_weight : (k : ℕ) (t : Term) → k ≤ t.exponent → 2 ^ k * term_weight w (lowered k t) ≡ term_weight w t
  unfolding term_weight
  lowered_weight k t h =
      sym (mul_assoc (2 ^ k) (2 ^ (t.exponent - k)) (w t.symbol))
      ∙ ap (λ (x : ℕ). x * w t.symbol) (sym (pow-add 2 k (t.exponent - k)) ∙ ap (λ (n : ℕ). 2 ^ n) (omega arith))

  without_weight : (p : Pair) → 2 ^ co_divisor p * pair_weight (without_co_divisor p) ≡ pair_weight p
  unfolding pair_weight without_co_divisor
  without_weight p =
      mul-add (2 ^ co_divisor p) (term_weight w (lowered (co_divisor p) p.first)) (term_weight w (lowered (co_divisor p) p.second))
      ∙ ap₂ ◌+◌ (lowered_weight (co_divisor p) p.first (omega arith)) (lowered_weight (co_divisor p) p.second (omega arith))

  in_order_weight : (q : Pair) → pair_weight (in_order q) ≡ pair_weight q
  unfolding in_order pair_weight
  in_order_weight q = by_test (precedes q.second q.first) (record { first = q.second; second = q.first }) q (λ o. pair_weight o ≡ pair_weight q)
      (λ e. add_comm (term_weight w q.second) (term_weight w q.first))
      (λ e. refl)

  first_positive_weight : (t u : Term) (n : Bool) → t.negative ≡ n
      → divisor_weight w (read_off (first_positive (record { first = t; second = u }))) ≡ term_weight w t + term_weight w u
  unfolding first_positive divisor_weight term_weight
  first_positive_weight t u true e = rw (e, first_positive)
  first_positive_weight t u false e = rw (e, first_positive)

  -- a pair is its divisor, shifted by the co-divisor
  pub shifted_weight : (p : Pair) → 2 ^ co_divisor p * divisor_weight w (divisor_of p) ≡ term_weight w p.first + term_weight w p.second
  unfolding divisor_of pair_weight
  shifted_weight p =
      let o : Pair = in_order (without_co_divisor p) in
      ap (λ (x : ℕ). 2 ^ co_divisor p * x) (first_positive_weight o.first o.second o.first.negative refl ∙ in_order_weight (without_co_divisor p))
      ∙ without_weight p

  -- ---- a row's weight stays as it was

  sum_weight : (r : Row) → row_sum (λ t. pos (term_weight w t)) r ≡ pos (row_weight w r)
  unfolding row_sum row_weight
  sum_weight [] = refl
  sum_weight (t ∷ r) = ap (λ x. pos (term_weight w t) +ℤ x) (sum_weight r)

  pub weight_after : (symbol : ℕ) (d : Divisor) → w symbol ≡ divisor_weight w d → (r : Row) → row_weight w (row_after symbol d r) ≡ row_weight w r
  weight_after symbol d e r = ap nat_abs (
      sym (sum_weight (row_after symbol d r))
      ∙ sum-after (λ t. pos (term_weight w t)) symbol d r (λ p o. ap pos (new_weight p (e ∙ ap (divisor_weight w) (sym o.divisor))))
      ∙ sum_weight r
      )
    where
      new_weight : (p : Pair) → w symbol ≡ divisor_weight w (divisor_of p) → term_weight w (new_term symbol p) ≡ term_weight w p.first + term_weight w p.second
      new_weight p e = unfold term_weight in (ap (λ (x : ℕ). 2 ^ co_divisor p * x) e ∙ shifted_weight p)

  weights_after_lem : (symbol : ℕ) (d : Divisor) → w symbol ≡ divisor_weight w d → (rows : List Row) → map (row_weight w) (rows_after symbol d rows) ≡ map (row_weight w) rows
  unfolding rows_after
  weights_after_lem symbol d e [] = refl
  weights_after_lem symbol d e (r ∷ rows) = ap₂ ◌∷◌ (weight_after symbol d e r) (weights_after_lem symbol d e rows)

  pub steps_weight : {symbol : ℕ} {rows : List Row} {ds : List Divisor} {k : ℕ} {after : List Row}
      → Steps symbol rows ds k after → Weights w symbol ds → map (row_weight w) after ≡ map (row_weight w) rows
  steps_weight end h = refl
  steps_weight {symbol} {rows} (step d s more) h = steps_weight more h.1 ∙ weights_after_lem symbol d h.0 rows

  -- ---- each divisor, shifted, is part of a row

  weight_drop : (t : Term) (r : Row) → Memᴰ t r → term_weight w t + row_weight w (drop_term t r) ≡ row_weight w r
  unfolding row_weight
  weight_drop t [] m = absurd (Memᴰ.not-nil m)
  weight_drop t (u ∷ r) m = by_bool (same_term u t)
      (λ e. rw (drop_yes t u r e) (ap (λ x. term_weight w x + row_weight w r) (sym (same_term_lem u t e))))
      (λ e. rw (drop_no t u r e) (omega (
        arith,
        weight_drop t r (⊎_elim
            (λ x. clash (term_same u t (sym x)) e)
            (λ k. k)
            (Memᴰ.cases_cons m)),
      )))

  pub part_of-row : (d : Divisor) (r : Row) (p : Pair) → Occurrence d r p → 2 ^ co_divisor p * divisor_weight w d ≤ row_weight w r
  part_of-row d r p o =
      let h = pair_inside r p o.pair in
      omega (
        arith,
        ap (λ e. 2 ^ co_divisor p * divisor_weight w e) (sym o.divisor),
        shifted_weight p,
        weight_drop p.first r h.0,
        weight_drop p.second (drop_term p.first r) h.1,
      )

  shifted_up : (k x : ℕ) → x ≤ 2 ^ k * x
  shifted_up k x = omega (arith, mul-le-mul {n₁ = 1} {m₁ = x} {n₂ = 2 ^ k} {m₂ = x} (pow_pos k) (omega arith))

  pub divisor_weight_lem : (bound : ℕ) (d : Divisor) (rows : List Row) → EachRow (λ r. row_weight w r ≤ bound) rows → 1 ≤ score d rows → divisor_weight w d ≤ bound
  divisor_weight_lem bound d rows h s =
      let x = score_occurs d rows s in
      let p : Pair = x.2.0 in
      omega (
        arith,
        part_of-row d x.0 p x.2.1,
        shifted_up (co_divisor p) (divisor_weight w d),
        each_row (λ r. row_weight w r ≤ bound) rows h x.0 x.1,
      )

  bound_after : (bound symbol : ℕ) (d : Divisor) → w symbol ≡ divisor_weight w d → (rows : List Row)
      → EachRow (λ r. row_weight w r ≤ bound) rows → EachRow (λ r. row_weight w r ≤ bound) (rows_after symbol d rows)
  unfolding rows_after
  bound_after bound symbol d e [] h = tt
  bound_after bound symbol d e (r ∷ rows) h = (omega (arith, weight_after symbol d e r, h.0), bound_after bound symbol d e rows h.1)

  -- the weight of each divisor's symbol
  abbrev pub WeightsWithin : ℕ → ℕ → List Divisor → Type 0
  WeightsWithin bound symbol [] = Unit {0}
  WeightsWithin bound symbol (d ∷ ds) = (w symbol ≤ bound) × WeightsWithin bound (suc symbol) ds

  pub steps_weights_within : (bound : ℕ) {symbol : ℕ} {rows : List Row} {ds : List Divisor} {k : ℕ} {after : List Row}
      → Steps symbol rows ds k after → Weights w symbol ds → EachRow (λ r. row_weight w r ≤ bound) rows → WeightsWithin bound symbol ds
  steps_weights_within bound end h b = tt
  steps_weights_within bound {symbol} {rows} (step d s more) h b = (
    omega (arith, h.0, divisor_weight_lem bound d rows b (omega arith)),
    steps_weights_within bound more h.1 (bound_after bound symbol d h.0 rows b),
  )

  pub steps_rows-within : (bound : ℕ) {symbol : ℕ} {rows : List Row} {ds : List Divisor} {k : ℕ} {after : List Row}
      → Steps symbol rows ds k after → Weights w symbol ds → EachRow (λ r. row_weight w r ≤ bound) rows → EachRow (λ r. row_weight w r ≤ bound) after
  steps_rows-within bound end h b = b
  steps_rows-within bound {symbol} {rows} (step d s more) h b = steps_rows-within bound more h.1 (bound_after bound symbol d h.0 rows b)
