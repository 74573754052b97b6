-- Two terms in row order need no ordering; and a row's pairs, as they stand, come by ascending co-divisor for each divisor.
-- Assumes nothing.
use Prim.Native.Nat.{ℕ, ◌+◌, ◌-◌, ◌≤◌, ◌<◌}
use mathlib.Core.Path.{◌≡◌, refl, sym, ◌∙◌, ap, ap₂}
use mathlib.Core.Logic.{◌⊎◌, inl, inr, ⊎_elim}
use mathlib.Core.Bool.{Bool, true, false}
use mathlib.Core.List.Memᴰ
use mathlib.Core.List.{List, [], ◌∷◌, ◌++◌, Memᴰ}
use native.Mathlib.Omega.{arith}
use lib.Dec.{eqb, ltb, leb}
use lib.ListN.{get_or}
use borrow.Author.Tests.{le-ltb, ne_eqb, le-leb, leb-true, leb-false}
use Rattle.term.specs.declared.Term.{Term}
use Rattle.elimination_rules.specs.declared.Divisor.{Divisor}
use Rattle.elimination_rules.specs.Rows.{Row, Precedes, Ascending}
use Rattle.elimination_rules.specs.Divisors.{Pair, co_divisor, lowered, without_co_divisor, precedes, in_order, first_positive, read_off, divisor_of, sign_of, pairs_with, pairs_of, same_divisor, pairs_with_divisor, inserted, by_co_divisor, occurrences}
use Rattle.elimination_rules.specs.RowOrder.{differ, row_order_divisor, row_order_sign, row_order_pairs, row_order_occurrences}
use Rattle.elimination_rules.proofs.Tests.{by_test, by_bool, clash, and_no_left, and_no_right, or_neither}
use Rattle.elimination_rules.proofs.Same.{same-divisor, divisor-same}

-- ---- the divisor and the sign of two terms in row order

abbrev pub InRowOrder : Pair → Type 0
InRowOrder p = Precedes p.first p.second

not-before : (k : ℕ) (t u : Term) → Precedes t u → precedes (lowered k u) (lowered k t) ≡ false
not-before k t u (inl h) = or_neither (ltb u.symbol t.symbol) _ (le-ltb u.symbol t.symbol (omega arith))
    (and_no_left (eqb u.symbol t.symbol) _ (ne_eqb u.symbol t.symbol (λ e. omega arith)))
not-before k t u (inr h) = or_neither (ltb u.symbol t.symbol) _ (le-ltb u.symbol t.symbol (omega arith))
    (and_no_right (eqb u.symbol t.symbol) _ (le-ltb (u.exponent - k) (t.exponent - k) (omega arith)))

stays : (q : Pair) → precedes q.second q.first ≡ false → in_order q ≡ q
unfolding in_order
stays q e = rw (e, in_order)

in_order_lem : (p : Pair) → InRowOrder p → in_order (without_co_divisor p) ≡ without_co_divisor p
unfolding without_co_divisor
in_order_lem p h = stays (without_co_divisor p) (not-before (co_divisor p) p.first p.second h)

read-first_positive : (t u : Term) (n : Bool) → t.negative ≡ n
    → read_off (first_positive (record { first = t; second = u }))
    ≡ record { a = t.symbol; b = u.symbol; ea = t.exponent; eb = u.exponent; minus = differ n u.negative }
unfolding first_positive
read-first_positive t u true e = rw (e, first_positive)
read-first_positive t u false e = rw (e, first_positive)

pub divisor_in_order : (p : Pair) → InRowOrder p → divisor_of p ≡ row_order_divisor p
unfolding divisor_of without_co_divisor
divisor_in_order p h =
    ap (λ q. read_off (first_positive q)) (in_order_lem p h)
    ∙ read-first_positive (lowered (co_divisor p) p.first) (lowered (co_divisor p) p.second) p.first.negative refl

pub sign_in_order : (p : Pair) → InRowOrder p → sign_of p ≡ row_order_sign p
unfolding sign_of without_co_divisor
sign_in_order p h = ap (λ q. q.first.negative) (in_order_lem p h)

-- where the terms of an occurrence stand
pub record Placed (d : Divisor) (p : Pair) : Type 0 where
  pub first-symbol : p.first.symbol ≡ d.a
  pub second-symbol : p.second.symbol ≡ d.b
  pub first-exponent : p.first.exponent ≡ d.ea + co_divisor p
  pub second-exponent : p.second.exponent ≡ d.eb + co_divisor p
  pub rising : d.a ≡ d.b → d.ea < d.eb

pub placed : (d : Divisor) (p : Pair) → InRowOrder p → divisor_of p ≡ d → Placed d p
placed d p h e =
    let f : row_order_divisor p ≡ d = sym (divisor_in_order p h) ∙ e in
    let fa : p.first.symbol ≡ d.a = ap (λ x. x.a) f in
    let fb : p.second.symbol ≡ d.b = ap (λ x. x.b) f in
    let fea : p.first.exponent - co_divisor p ≡ d.ea = ap (λ x. x.ea) f in
    let feb : p.second.exponent - co_divisor p ≡ d.eb = ap (λ x. x.eb) f in
    record {
      first-symbol = fa;
      second-symbol = fb;
      first-exponent = omega arith;
      second-exponent = omega arith;
      rising = λ g. ⊎_elim (λ l. absurd (omega arith)) (λ l. omega arith) h;
    }

-- ---- the members of the lists that the definitions make

module _ (t : Term) where
  pub with_member : (r : Row) (p : Pair) → Memᴰ p (pairs_with t r) → (p.first ≡ t) × Memᴰ p.second r
  unfolding pairs_with
  with_member [] p m = absurd (Memᴰ.not-nil m)
  with_member (u ∷ r) p m = ⊎_elim
      (λ e. (ap (λ z. z.first) e, Memᴰ.head (ap (λ z. z.second) e)))
      (λ k. let h = with_member r p k in (h.0, Memᴰ.tail h.1))
      (Memᴰ.cases_cons m)

pub pairs_member : (r : Row) (p : Pair) → Memᴰ p (pairs_of r) → Memᴰ p.first r × Memᴰ p.second r
unfolding pairs_of
pairs_member [] p m = absurd (Memᴰ.not-nil m)
pairs_member (t ∷ r) p m = ⊎_elim
    (λ k. let h = with_member t r p k in (Memᴰ.head h.0, Memᴰ.tail h.1))
    (λ k. let h = pairs_member r p k in (Memᴰ.tail h.0, Memᴰ.tail h.1))
    (Memᴰ.append_cases (pairs_with t r) m)

precedes_cast : {t u : Term} (w : Term) → t ≡ u → Precedes u w → Precedes t w
precedes_cast w e (inl h) = inl (omega (arith, ap (λ z. z.symbol) e))
precedes_cast w e (inr h) = inr (ap (λ z. z.symbol) e ∙ h.0, omega (arith, ap (λ z. z.exponent) e))

pub pairs_in_order : (r : Row) → Ascending r → (p : Pair) → Memᴰ p (pairs_of r) → InRowOrder p
unfolding pairs_of
pairs_in_order [] a p m = absurd (Memᴰ.not-nil m)
pairs_in_order (t ∷ r) a p m = ⊎_elim
    (λ k. let h = with_member t r p k in precedes_cast p.second h.0 (a.0 p.second h.1))
    (λ k. pairs_in_order r a.1 p k)
    (Memᴰ.append_cases (pairs_with t r) m)

module _ (d : Divisor) where
  pub with_divisor : (ps : List Pair) (x : Pair) → Memᴰ x (pairs_with_divisor d ps) → Memᴰ x ps × (divisor_of x ≡ d)
  unfolding pairs_with_divisor
  with_divisor [] x = λ m. absurd (Memᴰ.not-nil m)
  with_divisor (p ∷ ps) x =
      by_test (same_divisor (divisor_of p) d) (p ∷ pairs_with_divisor d ps) (pairs_with_divisor d ps) (λ z. Memᴰ x z → Memᴰ x (p ∷ ps) × (divisor_of x ≡ d))
      (λ e m. ⊎_elim
      (λ w. (Memᴰ.head w, ap divisor_of w ∙ same-divisor (divisor_of p) d e))
      (λ k. let h = with_divisor ps x k in (Memᴰ.tail h.0, h.1))
      (Memᴰ.cases_cons m))
      (λ e m. let h = with_divisor ps x m in (Memᴰ.tail h.0, h.1))

  pub all_with_divisor : (ps : List Pair) (x : Pair) → Memᴰ x ps → divisor_of x ≡ d → Memᴰ x (pairs_with_divisor d ps)
  unfolding pairs_with_divisor
  all_with_divisor [] x m f = absurd (Memᴰ.not-nil m)
  all_with_divisor (p ∷ ps) x m f =
      by_test (same_divisor (divisor_of p) d) (p ∷ pairs_with_divisor d ps) (pairs_with_divisor d ps) (Memᴰ x)
      (λ e. ⊎_elim (λ w. Memᴰ.head w) (λ k. Memᴰ.tail (all_with_divisor ps x k f)) (Memᴰ.cases_cons m))
      (λ e. ⊎_elim
      (λ w. clash (divisor-same (divisor_of p) d (ap divisor_of (sym w) ∙ f)) e)
      (λ k. all_with_divisor ps x k f)
      (Memᴰ.cases_cons m))

module _ (x : Pair) where
  inserted_member : (p : Pair) (ps : List Pair) → Memᴰ x (inserted p ps) → (x ≡ p) ⊎ Memᴰ x ps
  unfolding inserted
  inserted_member p [] = λ m. Memᴰ.cases_cons m
  inserted_member p (q ∷ qs) =
      by_test (leb (co_divisor p) (co_divisor q)) (p ∷ q ∷ qs) (q ∷ inserted p qs) (λ z. Memᴰ x z → (x ≡ p) ⊎ Memᴰ x (q ∷ qs))
      (λ e m. Memᴰ.cases_cons m)
      (λ e m. ⊎_elim
      (λ w. inr (Memᴰ.head w))
      (λ k. ⊎_elim inl (λ l. inr (Memᴰ.tail l)) (inserted_member p qs k))
      (Memᴰ.cases_cons m))

  member_inserted : (p : Pair) (ps : List Pair) → (x ≡ p) ⊎ Memᴰ x ps → Memᴰ x (inserted p ps)
  unfolding inserted
  member_inserted p [] h = ⊎_elim (λ e. Memᴰ.head e) (λ m. Memᴰ.tail m) h
  member_inserted p (q ∷ qs) h =
      by_test (leb (co_divisor p) (co_divisor q)) (p ∷ q ∷ qs) (q ∷ inserted p qs) (Memᴰ x)
      (λ e. ⊎_elim (λ w. Memᴰ.head w) (λ m. Memᴰ.tail m) h)
      (λ e. ⊎_elim
      (λ w. Memᴰ.tail (member_inserted p qs (inl w)))
      (λ m. ⊎_elim (λ w. Memᴰ.head w) (λ k. Memᴰ.tail (member_inserted p qs (inr k))) (Memᴰ.cases_cons m))
      h)

  pub sorted_member : (ps : List Pair) → Memᴰ x (by_co_divisor ps) → Memᴰ x ps
  unfolding by_co_divisor
  sorted_member [] m = m
  sorted_member (p ∷ ps) m = ⊎_elim (λ e. Memᴰ.head e) (λ k. Memᴰ.tail (sorted_member ps k)) (inserted_member p (by_co_divisor ps) m)

  pub member_sorted : (ps : List Pair) → Memᴰ x ps → Memᴰ x (by_co_divisor ps)
  unfolding by_co_divisor
  member_sorted [] m = m
  member_sorted (p ∷ ps) m = member_inserted p (by_co_divisor ps) (⊎_elim inl (λ k. inr (member_sorted ps k)) (Memᴰ.cases_cons m))

abbrev pub row_at : List Row → ℕ → Row
row_at rows i = get_or rows i []

-- x is an occurrence of d in r: a pair of r whose divisor is d
pub record Occurrence (d : Divisor) (r : Row) (x : Pair) : Type 0 where
  pub pair : Memᴰ x (pairs_of r)
  pub divisor : divisor_of x ≡ d

pub occurrence : (d : Divisor) (r : Row) (x : Pair) → Memᴰ x (occurrences d r) → Occurrence d r x
unfolding occurrences
occurrence d r x m = let h = with_divisor d (pairs_of r) x (sorted_member x (pairs_with_divisor d (pairs_of r)) m) in record { pair = h.0; divisor = h.1 }

pub all-occurrences : (d : Divisor) (r : Row) (x : Pair) → Occurrence d r x → Memᴰ x (occurrences d r)
unfolding occurrences
all-occurrences d r x o = member_sorted x (pairs_with_divisor d (pairs_of r)) (all_with_divisor d (pairs_of r) x o.pair o.divisor)

pub occurrence_placed : (d : Divisor) (r : Row) → Ascending r → (x : Pair) → Occurrence d r x → Placed d x
occurrence_placed d r a x o = placed d x (pairs_in_order r a x o.pair) o.divisor

-- ---- ascending co-divisors

abbrev pub CoDivisorsRise : List Pair → Type 0
CoDivisorsRise [] = Unit {0}
CoDivisorsRise (p ∷ ps) = ((x : Pair) → Memᴰ x ps → co_divisor p ≤ co_divisor x) × CoDivisorsRise ps

inserted_rise : (p : Pair) (ps : List Pair) → CoDivisorsRise ps → CoDivisorsRise (inserted p ps)
unfolding inserted
inserted_rise p [] h = ((λ x m. absurd (Memᴰ.not-nil m)), tt)
inserted_rise p (q ∷ qs) h =
    by_bool (leb (co_divisor p) (co_divisor q))
    (λ e. rw (e, inserted) (
      (λ x m. ⊎_elim
          (λ w. omega (arith, leb-true (co_divisor p) (co_divisor q) e, ap co_divisor w))
          (λ k. omega (arith, leb-true (co_divisor p) (co_divisor q) e, h.0 x k))
          (Memᴰ.cases_cons m)),
      h,
    ))
    (λ e. rw (e, inserted) (
      (λ x m. ⊎_elim
          (λ w. omega (arith, leb-false (co_divisor p) (co_divisor q) e, ap co_divisor w))
          (λ k. h.0 x k)
          (inserted_member x p qs m)),
      inserted_rise p qs h.1,
    ))

pub sorted_rise : (ps : List Pair) → CoDivisorsRise (by_co_divisor ps)
unfolding by_co_divisor
sorted_rise [] = tt
sorted_rise (p ∷ ps) = inserted_rise p (by_co_divisor ps) (sorted_rise ps)

pub occurrences_rise : (d : Divisor) (r : Row) → CoDivisorsRise (occurrences d r)
unfolding occurrences
occurrences_rise d r = sorted_rise (pairs_with_divisor d (pairs_of r))

-- ---- a row's pairs as they stand: of those whose first terms have one symbol, the exponents of the first terms rise

abbrev FirstsRise : List Pair → Type 0
FirstsRise [] = Unit {0}
FirstsRise (p ∷ ps) = ((x : Pair) → Memᴰ x ps → p.first.symbol ≡ x.first.symbol → p.first.exponent ≤ x.first.exponent) × FirstsRise ps

firsts_append : (ps qs : List Pair) → FirstsRise ps → FirstsRise qs
    → ((p q : Pair) → Memᴰ p ps → Memᴰ q qs → p.first.symbol ≡ q.first.symbol → p.first.exponent ≤ q.first.exponent) → FirstsRise (ps ++ qs)
firsts_append [] qs a b c = b
firsts_append (p ∷ ps) qs a b c = (
  (λ x m. ⊎_elim (λ k. a.0 x k) (λ k. c p x (Memᴰ.head refl) k) (Memᴰ.append_cases ps m)),
  firsts_append ps qs a.1 b (λ x y m n. c x y (Memᴰ.tail m) n),
)

firsts_with : (t : Term) (r : Row) → FirstsRise (pairs_with t r)
unfolding pairs_with
firsts_with t [] = tt
firsts_with t (u ∷ r) = ((λ x m e. omega (arith, ap (λ z. z.exponent) (with_member t r x m).0)), firsts_with t r)

firsts_rise : (r : Row) → Ascending r → FirstsRise (pairs_of r)
unfolding pairs_of
firsts_rise [] a = tt
firsts_rise (t ∷ r) a = firsts_append (pairs_with t r) (pairs_of r) (firsts_with t r) (firsts_rise r a.1)
    (λ p q m n e. let f : p.first ≡ t = (with_member t r p m).0 in ⊎_elim
    (λ l. absurd (omega (arith, ap (λ z. z.symbol) f)))
    (λ l. omega (arith, ap (λ z. z.exponent) f))
    (a.0 q.first (pairs_member r q n).0))

pairs_rise : (d : Divisor) (ps : List Pair) → FirstsRise ps → ((x : Pair) → Memᴰ x ps → InRowOrder x) → CoDivisorsRise (pairs_with_divisor d ps)
unfolding pairs_with_divisor
pairs_rise d [] a o = tt
pairs_rise d (p ∷ ps) a o =
    by_test (same_divisor (divisor_of p) d) (p ∷ pairs_with_divisor d ps) (pairs_with_divisor d ps) CoDivisorsRise
    (λ e. (
      (λ x m.
          let h = with_divisor d ps x m in
          let f : Placed d p = placed d p (o p (Memᴰ.head refl)) (same-divisor (divisor_of p) d e) in
          let g : Placed d x = placed d x (o x (Memᴰ.tail h.0)) h.1 in
          omega (arith, a.0 x h.0 (f.first-symbol ∙ sym g.first-symbol), f.first-exponent, g.first-exponent)),
      pairs_rise d ps a.1 (λ x m. o x (Memᴰ.tail m)),
    ))
    (λ e. pairs_rise d ps a.1 (λ x m. o x (Memᴰ.tail m)))

inserted-first : (p : Pair) (ps : List Pair) → ((x : Pair) → Memᴰ x ps → co_divisor p ≤ co_divisor x) → inserted p ps ≡ p ∷ ps
unfolding inserted
inserted-first p [] h = refl
inserted-first p (q ∷ qs) h = rw (le-leb (co_divisor p) (co_divisor q) (h q (Memᴰ.head refl)), inserted)

sorted_already : (ps : List Pair) → CoDivisorsRise ps → by_co_divisor ps ≡ ps
unfolding by_co_divisor
sorted_already [] h = refl
sorted_already (p ∷ ps) h = ap (inserted p) (sorted_already ps h.1) ∙ inserted-first p ps h.0

same_pairs : (d : Divisor) (ps : List Pair) → ((x : Pair) → Memᴰ x ps → InRowOrder x) → pairs_with_divisor d ps ≡ row_order_pairs d ps
unfolding pairs_with_divisor row_order_pairs
same_pairs d [] o = refl
same_pairs d (p ∷ ps) o =
    ap₂ {C = List Pair} (λ x qs. elim (same_divisor x d) [ true ↦ p ∷ qs | false ↦ qs ]) (divisor_in_order p (o p (Memᴰ.head refl))) (same_pairs d ps (λ x m. o x (Memᴰ.tail m)))

-- visiting a row's pairs as they stand visits a divisor's occurrences by ascending co-divisor
pub occurrences_in_order : (d : Divisor) (r : Row) → Ascending r → occurrences d r ≡ row_order_occurrences d r
unfolding occurrences row_order_occurrences
occurrences_in_order d r a =
    sorted_already (pairs_with_divisor d (pairs_of r)) (pairs_rise d (pairs_of r) (firsts_rise r a) (pairs_in_order r a))
    ∙ same_pairs d (pairs_of r) (pairs_in_order r a)
