-- What the sign of a symbol and exponent says of a row in its order: which terms, and which occurrences of a divisor, are there.
-- Assumes nothing.
use Prim.Native.Nat.{ℕ, ◌+◌, ◌-◌, ◌≤◌, ◌<◌}
use mathlib.Core.Path.{◌≡◌, refl, sym, ◌∙◌, ap, ap₂}
use mathlib.Core.Logic.{inl, inr, ⊎_elim}
use mathlib.Core.Bool.{Bool, true, false, not}
use mathlib.Core.List.{[], ◌∷◌, Memᴰ}
use native.Mathlib.Omega.{arith}
use lib.Dec.{eqb}
use borrow.Author.Tests.{eqb-true, eqb-false, not-true}
use Rattle.term.specs.declared.Term.{Term}
use Rattle.elimination_rules.specs.declared.Divisor.{Divisor}
use Rattle.elimination_rules.specs.Rows.{Row, Precedes, Ascending}
use Rattle.elimination_rules.specs.Divisors.{Pair, co_divisor, divisor_of, pairs_with, pairs_of, same_place}
use Rattle.elimination_rules.specs.RowOrder.{differ, row_order_divisor}
use Rattle.elimination_rules.specs.Lookup.{ExponentsBelow, Proper, Signs, sign_number, sign_at, occurs_with, occurs_at, term_at, pair_at}
use Rattle.elimination_rules.proofs.Tests.{by_bool, and_left, and_right}
use Rattle.elimination_rules.proofs.Same.{SamePlace, same_place_lem, place_same}
use Rattle.elimination_rules.proofs.RowOrder.{InRowOrder, Placed, Occurrence, occurrence_placed, divisor_in_order, pairs_in_order, pairs_member}

-- ---- the divisors of rows are proper

row-order-proper : (p : Pair) → InRowOrder p → Proper (row_order_divisor p)
row-order-proper p (inl h) = record { lowest = omega arith; ordered = inl h }
row-order-proper p (inr h) = record { lowest = omega arith; ordered = inr (h.0, omega arith) }

pub divisor-proper : (p : Pair) → InRowOrder p → Proper (divisor_of p)
divisor-proper p h = rw (divisor_in_order p h) (row-order-proper p h)

pub pairs_proper : (r : Row) → Ascending r → (p : Pair) → Memᴰ p (pairs_of r) → Proper (divisor_of p)
pairs_proper r a p m = divisor-proper p (pairs_in_order r a p m)

-- ---- the looked-up pair at a co-divisor

module _ (signs : Signs) (d : Divisor) (proper : Proper d) where
  pub pair_in_order : (c : ℕ) → InRowOrder (pair_at signs d c)
  pair_in_order c = ⊎_elim inl (λ h. inr (h.0, omega arith)) proper.ordered

  pub pair_co_divisor : (c : ℕ) → co_divisor (pair_at signs d c) ≡ c
  pair_co_divisor c = omega (arith, proper.lowest)

-- ---- the sign at a place

pub sign_yes : (t : Term) (r : Row) (u : Term) → same_place t u ≡ true → sign_at (t ∷ r) u.symbol u.exponent ≡ sign_number t.negative
unfolding sign_at
sign_yes t r u e = rw (e, sign_at)

pub sign_no : (t : Term) (r : Row) (u : Term) → same_place t u ≡ false → sign_at (t ∷ r) u.symbol u.exponent ≡ sign_at r u.symbol u.exponent
unfolding sign_at
sign_no t r u e = rw (e, sign_at)

-- a term that another precedes stands at another place
pub precedes-apart : (t u : Term) → Precedes t u → SamePlace t u → ⊥
precedes-apart t u (inl h) e = omega arith
precedes-apart t u (inr h) e = omega arith

pub sign-of_term : (r : Row) → Ascending r → (t : Term) → Memᴰ t r → sign_at r t.symbol t.exponent ≡ sign_number t.negative
sign-of_term [] a t m = absurd (mathlib.Core.List.Memᴰ.not-nil m)
sign-of_term (u ∷ r) a t m = ⊎_elim
    (λ e. sign_yes u r t (place_same u t (ap (λ z. z.symbol) (sym e), ap (λ z. z.exponent) (sym e))) ∙ ap (λ z. sign_number z.negative) (sym e))
    (λ k. sign_no u r t (by_bool (same_place u t) (λ e. absurd (precedes-apart u t (a.0 t k) (same_place_lem u t e))) (λ e. e)) ∙ sign-of_term r a.1 t k)
    (mathlib.Core.List.Memᴰ.cases_cons m)

sign_back : (n : Bool) → eqb (sign_number n) 2 ≡ n
sign_back true = refl
sign_back false = refl

-- a term of the row is the looked-up one
pub term_looked_up : (r : Row) → Ascending r → (t : Term) → Memᴰ t r → t ≡ term_at (sign_at r) t.symbol t.exponent
term_looked_up r a t m =
    let n : eqb (sign_at r t.symbol t.exponent) 2 ≡ t.negative = ap (λ x. eqb x 2) (sign-of_term r a t m) ∙ sign_back t.negative in
    λ i. record { symbol = t.symbol; exponent = t.exponent; negative = (sym n) i }

-- where the sign is not 0 there is a term
pub term_there : (r : Row) (symbol exponent : ℕ) → (sign_at r symbol exponent ≡ 0 → ⊥) → (t : Term) × Memᴰ t r × (t.symbol ≡ symbol) × (t.exponent ≡ exponent)
unfolding sign_at
term_there [] symbol exponent h = absurd (h refl)
term_there (t ∷ r) symbol exponent h =
    let u : Term = record { symbol = symbol; exponent = exponent; negative = false } in
    by_bool (same_place t u)
    (λ e. let p = same_place_lem t u e in (t, mathlib.Core.List.Memᴰ.head refl, p.0, p.1))
    (λ e. let k = term_there r symbol exponent (λ z. h (sign_no t r u e ∙ z)) in (k.0, mathlib.Core.List.Memᴰ.tail k.1, k.2, k.3))

-- and it is the looked-up one
pub looked_up_there : (r : Row) → Ascending r → (symbol exponent : ℕ) → (sign_at r symbol exponent ≡ 0 → ⊥) → Memᴰ (term_at (sign_at r) symbol exponent) r
looked_up_there r a symbol exponent h =
    let k = term_there r symbol exponent h in
    let e : k.0 ≡ term_at (sign_at r) symbol exponent = term_looked_up r a k.0 k.1 ∙ ap₂ (term_at (sign_at r)) k.2 k.3 in
    mathlib.Core.List.Memᴰ.cast (sym e) k.1

-- where no term stands the sign is 0
pub none-there : (r : Row) (symbol exponent : ℕ) → ((t : Term) → Memᴰ t r → t.symbol ≡ symbol → t.exponent ≡ exponent → ⊥) → sign_at r symbol exponent ≡ 0
none-there r symbol exponent h = by_bool (eqb (sign_at r symbol exponent) 0)
    (λ e. eqb-true _ _ e)
    (λ e. let k = term_there r symbol exponent (eqb-false _ _ e) in absurd (h k.0 k.1 k.2 k.3))

pub none_past : (positions : ℕ) (r : Row) → ExponentsBelow positions r → (symbol exponent : ℕ) → positions ≤ exponent → sign_at r symbol exponent ≡ 0
none_past positions r b symbol exponent h = none-there r symbol exponent (λ t m s e. omega (arith, b t m))

-- ---- occurrences are looked-up pairs

with_term : (w : Term) (r : Row) (t u : Term) → t ≡ w → Memᴰ u r → Memᴰ (record { first = t; second = u }) (pairs_with w r)
unfolding pairs_with
with_term w [] t u e m = absurd (mathlib.Core.List.Memᴰ.not-nil m)
with_term w (v ∷ r) t u e m = ⊎_elim
    (λ f. mathlib.Core.List.Memᴰ.head (λ i. record { first = e i; second = f i }))
    (λ k. mathlib.Core.List.Memᴰ.tail (with_term w r t u e k))
    (mathlib.Core.List.Memᴰ.cases_cons m)

never_both : (t u : Term) → Precedes t u → Precedes u t → ⊥
never_both t u (inl h) (inl k) = omega arith
never_both t u (inl h) (inr k) = omega arith
never_both t u (inr h) (inl k) = omega arith
never_both t u (inr h) (inr k) = omega arith

precedes-from : (u w t : Term) → u ≡ w → Precedes w t → Precedes u t
precedes-from u w t e h = rw e h

pub pair-of_terms : (r : Row) → Ascending r → (t u : Term) → Memᴰ t r → Memᴰ u r → Precedes t u → Memᴰ (record { first = t; second = u }) (pairs_of r)
unfolding pairs_of
pair-of_terms [] a t u m n h = absurd (mathlib.Core.List.Memᴰ.not-nil m)
pair-of_terms (w ∷ r) a t u m n h = ⊎_elim
    (λ e. ⊎_elim
    (λ f. absurd (precedes-apart t u h (ap (λ z. z.symbol) (e ∙ sym f), ap (λ z. z.exponent) (e ∙ sym f))))
    (λ k. mathlib.Core.List.Memᴰ.append_left (pairs_of r) (with_term w r t u e k))
    (mathlib.Core.List.Memᴰ.cases_cons n))
    (λ k. ⊎_elim
    (λ f. absurd (never_both t u h (precedes-from u w t f (a.0 t k))))
    (λ l. mathlib.Core.List.Memᴰ.append_right (pairs_with w r) (pair-of_terms r a.1 t u k l h))
    (mathlib.Core.List.Memᴰ.cases_cons n))
    (mathlib.Core.List.Memᴰ.cases_cons m)

occurs_signs : (minus m n : Bool) → occurs_with minus (sign_number m) (sign_number n) ≡ true → differ m n ≡ minus
occurs_signs true true true e = e
occurs_signs true true false e = refl
occurs_signs true false true e = refl
occurs_signs true false false e = e
occurs_signs false true true e = refl
occurs_signs false true false e = sym e
occurs_signs false false true e = sym e
occurs_signs false false false e = refl

signs_occur : (m n : Bool) → occurs_with (differ m n) (sign_number m) (sign_number n) ≡ true
signs_occur true true = refl
signs_occur true false = refl
signs_occur false true = refl
signs_occur false false = refl

-- an occurrence at a co-divisor has both its terms
pub occurs_first : (minus : Bool) (x y : ℕ) → occurs_with minus x y ≡ true → x ≡ 0 → ⊥
occurs_first minus x y e = eqb-false x 0 (not-true (eqb x 0) (and_left (not (eqb x 0)) _ e))

pub occurs_second : (minus : Bool) (x y : ℕ) → occurs_with minus x y ≡ true → y ≡ 0 → ⊥
occurs_second minus x y e = eqb-false y 0 (not-true (eqb y 0) (and_left (not (eqb y 0)) _ (and_right (not (eqb x 0)) _ e)))

pub pair_occurs : (d : Divisor) → Proper d → (r : Row) → Ascending r → (c : ℕ) → occurs_at (sign_at r) d c ≡ true → Occurrence d r (pair_at (sign_at r) d c)
pair_occurs d proper r a c e =
    let signs : Signs = sign_at r in
    let p : Pair = pair_at signs d c in
    let x : ℕ = signs d.a (d.ea + c) in
    let y : ℕ = signs d.b (d.eb + c) in
    let o : InRowOrder p = pair_in_order signs d proper c in
    let t : Memᴰ p.first r = looked_up_there r a d.a (d.ea + c) (occurs_first d.minus x y e) in
    let u : Memᴰ p.second r = looked_up_there r a d.b (d.eb + c) (occurs_second d.minus x y e) in
    let f : occurs_with d.minus (sign_number p.first.negative) (sign_number p.second.negative) ≡ true =
    ap₂ (occurs_with d.minus) (sym (sign-of_term r a p.first t)) (sym (sign-of_term r a p.second u)) ∙ e in
    let minus : differ p.first.negative p.second.negative ≡ d.minus = occurs_signs d.minus p.first.negative p.second.negative f in
    let ea : d.ea + c - co_divisor p ≡ d.ea = omega (arith, proper.lowest) in
    let eb : d.eb + c - co_divisor p ≡ d.eb = omega (arith, proper.lowest) in
    record {
      pair = pair-of_terms r a p.first p.second t u o;
      divisor = divisor_in_order p o ∙ (λ i. record { a = d.a; b = d.b; ea = ea i; eb = eb i; minus = minus i });
    }

-- what an occurrence is, by its co-divisor
pub record LookedUp (positions : ℕ) (signs : Signs) (d : Divisor) (x : Pair) : Type 0 where
  pub below : co_divisor x < positions
  pub occurs : occurs_at signs d (co_divisor x) ≡ true
  pub is : x ≡ pair_at signs d (co_divisor x)

pub occurrence_looked_up : (positions : ℕ) (d : Divisor) (r : Row) → Ascending r → ExponentsBelow positions r → (x : Pair) → Occurrence d r x → LookedUp positions (sign_at r) d x
occurrence_looked_up positions d r a b x o =
    let signs : Signs = sign_at r in
    let p : Placed d x = occurrence_placed d r a x o in
    let m = pairs_member r x o.pair in
    let c : ℕ = co_divisor x in
    let s : signs d.a (d.ea + c) ≡ sign_number x.first.negative = ap₂ signs (sym p.first-symbol) (sym p.first-exponent) ∙ sign-of_term r a x.first m.0 in
    let t : signs d.b (d.eb + c) ≡ sign_number x.second.negative = ap₂ signs (sym p.second-symbol) (sym p.second-exponent) ∙ sign-of_term r a x.second m.1 in
    let n : differ x.first.negative x.second.negative ≡ d.minus = ap (λ z. z.minus) (sym (divisor_in_order x (pairs_in_order r a x o.pair)) ∙ o.divisor) in
    let f : x.first ≡ term_at signs d.a (d.ea + c) = term_looked_up r a x.first m.0 ∙ ap₂ (term_at signs) p.first-symbol p.first-exponent in
    let g : x.second ≡ term_at signs d.b (d.eb + c) = term_looked_up r a x.second m.1 ∙ ap₂ (term_at signs) p.second-symbol p.second-exponent in
    record {
      below = omega (arith, b x.first m.0);
      occurs = ap₂ (occurs_with d.minus) s t ∙ ap (λ z. occurs_with z (sign_number x.first.negative) (sign_number x.second.negative)) (sym n) ∙ signs_occur x.first.negative x.second.negative;
      is = λ i. record { first = f i; second = g i };
    }
