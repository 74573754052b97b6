-- A step keeps each row's value, for any values of the symbols under which the new symbol has its divisor's value.
-- Assumes nothing.
use Prim.Native.Nat.{ℕ, suc, ◌-◌, ◌^◌, ◌≤◌}
use mathlib.Core.Path.{◌≡◌, refl, sym, ◌∙◌, ap, ap₂}
use mathlib.Core.Bool.{Bool, true, false, not}
use mathlib.Core.List.{List, [], ◌∷◌, map}
use native.Mathlib.Omega.{arith}
use lib.Pow.{pow-add}
use lib.IntN.{ℤ, pos, neg_ℤ, ◌+ℤ◌, ◌*ℤ◌, +ℤ_comm, neg_ℤ-+ℤ, neg_ℤ-neg_ℤ}
use Rattle.integers.proofs.Ring.{*-+, *-assoc, *-neg}
use Rattle.term.specs.declared.Term.{Term}
use Rattle.elimination_rules.specs.declared.Divisor.{Divisor}
use Rattle.elimination_rules.specs.Rows.{Row, signed, term_value, row_value}
use Rattle.elimination_rules.specs.Divisors.{Pair, co_divisor, lowered, without_co_divisor, precedes, in_order, first_positive, read_off, divisor_of, sign_of, divisor_value}
use Rattle.elimination_rules.specs.Elimination.{new_term, row_after, rows_after}
use Rattle.elimination_rules.specs.Steps.{Steps, end, step}
use Rattle.elimination_rules.proofs.Tests.{by_test}
use Rattle.elimination_rules.proofs.Replaced.{sum-after}

times-signed : (c : ℤ) (n : Bool) (z : ℤ) → c *ℤ signed n z ≡ signed n (c *ℤ z)
times-signed c false z = refl
times-signed c true z = *-neg c z

turned_back : (m : Bool) (z : ℤ) → neg_ℤ (signed (not m) z) ≡ signed m z
turned_back true z = refl
turned_back false z = neg_ℤ-neg_ℤ z

pub power_split : (k e : ℕ) → k ≤ e → pos (2 ^ k) *ℤ pos (2 ^ (e - k)) ≡ pos (2 ^ e)
power_split k e h = ap pos (sym (pow-add 2 k (e - k)) ∙ ap (λ (n : ℕ). 2 ^ n) (omega arith))

module _ (v : ℕ → ℤ) where
  pair_value : Pair → ℤ
  pair_value p = term_value v p.first +ℤ term_value v p.second

  lowered-value : (k : ℕ) (t : Term) → k ≤ t.exponent → pos (2 ^ k) *ℤ term_value v (lowered k t) ≡ term_value v t
  unfolding term_value
  lowered-value k t h =
      times-signed (pos (2 ^ k)) t.negative (pos (2 ^ (t.exponent - k)) *ℤ v t.symbol)
      ∙ ap (signed t.negative) (sym (*-assoc (pos (2 ^ k)) (pos (2 ^ (t.exponent - k))) (v t.symbol)) ∙ ap (λ x. x *ℤ v t.symbol) (power_split k t.exponent h))

  without_value : (p : Pair) → pos (2 ^ co_divisor p) *ℤ pair_value (without_co_divisor p) ≡ pair_value p
  unfolding pair_value without_co_divisor
  without_value p =
      *-+ (pos (2 ^ co_divisor p)) (term_value v (lowered (co_divisor p) p.first)) (term_value v (lowered (co_divisor p) p.second))
      ∙ ap₂ ◌+ℤ◌ (lowered-value (co_divisor p) p.first (omega arith)) (lowered-value (co_divisor p) p.second (omega arith))

  in_order-value : (q : Pair) → pair_value (in_order q) ≡ pair_value q
  unfolding in_order pair_value
  in_order-value q = by_test (precedes q.second q.first) (record { first = q.second; second = q.first }) q (λ o. pair_value o ≡ pair_value q)
      (λ e. +ℤ_comm (term_value v q.second) (term_value v q.first))
      (λ e. refl)

  first_positive_value : (t u : Term) (n : Bool) → t.negative ≡ n
      → signed n (divisor_value v (read_off (first_positive (record { first = t; second = u })))) ≡ term_value v t +ℤ term_value v u
  unfolding first_positive divisor_value term_value
  first_positive_value t u true e = rw (e, first_positive)
      (neg_ℤ-+ℤ (pos (2 ^ t.exponent) *ℤ v t.symbol) (signed (not u.negative) (pos (2 ^ u.exponent) *ℤ v u.symbol))
      ∙ ap (λ x. neg_ℤ (pos (2 ^ t.exponent) *ℤ v t.symbol) +ℤ x) (turned_back u.negative (pos (2 ^ u.exponent) *ℤ v u.symbol)))
  first_positive_value t u false e = rw (e, first_positive)

  -- what a pair becomes has the pair's value
  new_value : (symbol : ℕ) (p : Pair) → v symbol ≡ divisor_value v (divisor_of p)
      → term_value v (new_term symbol p) ≡ term_value v p.first +ℤ term_value v p.second
  unfolding term_value divisor_of sign_of pair_value
  new_value symbol p e =
      let o : Pair = in_order (without_co_divisor p) in
      let k : ℤ = pos (2 ^ co_divisor p) in
      ap (λ x. signed o.first.negative (k *ℤ x)) e
      ∙ sym (times-signed k o.first.negative (divisor_value v (divisor_of p)))
      ∙ ap (λ x. k *ℤ x) (first_positive_value o.first o.second o.first.negative refl ∙ in_order-value (without_co_divisor p))
      ∙ without_value p

  pub value_after : (symbol : ℕ) (d : Divisor) → v symbol ≡ divisor_value v d → (r : Row) → row_value v (row_after symbol d r) ≡ row_value v r
  unfolding row_value
  value_after symbol d e r = sum-after (term_value v) symbol d r (λ p o. new_value symbol p (e ∙ ap (divisor_value v) (sym o.divisor)))

  values-after : (symbol : ℕ) (d : Divisor) → v symbol ≡ divisor_value v d → (rows : List Row) → map (row_value v) (rows_after symbol d rows) ≡ map (row_value v) rows
  unfolding rows_after
  values-after symbol d e [] = refl
  values-after symbol d e (r ∷ rows) = ap₂ ◌∷◌ (value_after symbol d e r) (values-after symbol d e rows)

  -- each divisor's symbol, from the next one on, has its divisor's value
  abbrev pub Values : ℕ → List Divisor → Type 0
  Values symbol [] = Unit {0}
  Values symbol (d ∷ ds) = (v symbol ≡ divisor_value v d) × Values (suc symbol) ds

  pub steps_value : {symbol : ℕ} {rows : List Row} {ds : List Divisor} {k : ℕ} {after : List Row}
      → Steps symbol rows ds k after → Values symbol ds → map (row_value v) after ≡ map (row_value v) rows
  steps_value end h = refl
  steps_value {symbol} {rows} (step d s more) h = steps_value more h.1 ∙ values-after symbol d h.0 rows
