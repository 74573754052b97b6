-- The row after a step, worked out by look-up, is the row after the step.
-- Assumes nothing.
use Prim.Native.Nat.{ℕ, zero, suc, ◌+◌, ◌-◌}
use mathlib.Core.Path.{◌≡◌, refl, sym, ◌∙◌, ap, ap₂}
use mathlib.Core.Logic.{⊎_elim}
use mathlib.Core.Bool.{Bool, true, false, ◌&&◌, ◌||◌, false≢true}
use mathlib.Core.List.Memᴰ
use mathlib.Core.List.{List, [], ◌∷◌, ◌++◌, Memᴰ}
use native.Mathlib.Omega.{arith}
use lib.Dec.{eqb, leb}
use lib.ListN.{get_or}
use borrow.Author.Tests.{eqb-true, eq-eqb, leb-true, le-leb}
use Rattle.integers.proofs.Truth.{same_truth}
use Rattle.term.specs.declared.Term.{Term}
use Rattle.elimination_rules.specs.declared.Divisor.{Divisor}
use Rattle.elimination_rules.specs.Rows.{Row, Ascending}
use Rattle.elimination_rules.specs.Divisors.{Pair, co_divisor, sign_of}
use Rattle.elimination_rules.specs.Elimination.{same_term, drop_term, without_pairs, new_terms, row_after}
use Rattle.elimination_rules.specs.Lookup.{ExponentsBelow, Proper, Signs, sign_at, taken_flags, term_at, pair_at, pairs_from, part_as, part_of_taken, kept_terms, lookup_terms_from, lookup_row_after}
use Rattle.elimination_rules.proofs.Tests.{by_bool, by_test, and_left, and_right, and_both, or_left, or_right, or_cases, or_neither}
use Rattle.elimination_rules.proofs.Same.{same_term_lem, term_same}
use Rattle.elimination_rules.proofs.RowOrder.{sign_in_order}
use Rattle.elimination_rules.proofs.Replaced.{drop_yes, drop_no}
use Rattle.elimination_rules.proofs.LookupSigns.{precedes-apart, term_looked_up, pair_in_order, pair_co_divisor}
use Rattle.elimination_rules.proofs.LookupTaken.{taken_looked_up}

-- ---- taking terms out by a test

-- a row without the terms that a test says
without : (Term → Bool) → Row → Row
without f [] = []
without f (t ∷ r) = elim (f t) [ true ↦ without f r | false ↦ t ∷ without f r ]

without_yes : (f : Term → Bool) (t : Term) (r : Row) → f t ≡ true → without f (t ∷ r) ≡ without f r
unfolding without
without_yes f t r e = rw (e, without)

without_no : (f : Term → Bool) (t : Term) (r : Row) → f t ≡ false → without f (t ∷ r) ≡ t ∷ without f r
unfolding without
without_no f t r e = rw (e, without)

-- tests that agree on the row take the same terms out
without_same : (f g : Term → Bool) (r : Row) → ((t : Term) → Memᴰ t r → f t ≡ g t) → without f r ≡ without g r
unfolding without
without_same f g [] h = refl
without_same f g (t ∷ r) h = ap₂ {C = Row} (λ b s. elim b [ true ↦ s | false ↦ t ∷ s ]) (h t (Memᴰ.head refl)) (without_same f g r (λ u m. h u (Memᴰ.tail m)))

without_none : (f : Term → Bool) (r : Row) → ((t : Term) → Memᴰ t r → f t ≡ false) → without f r ≡ r
unfolding without
without_none f [] h = refl
without_none f (t ∷ r) h = without_no f t r (h t (Memᴰ.head refl)) ∙ ap (λ z. t ∷ z) (without_none f r (λ u m. h u (Memᴰ.tail m)))

-- one test after another
without_both : (f g : Term → Bool) (r : Row) → without f (without g r) ≡ without (λ t. g t || f t) r
unfolding without
without_both f g [] = refl
without_both f g (t ∷ r) =
    let h : Term → Bool = λ u. g u || f u in
    by_bool (g t)
    (λ e. ap (without f) (without_yes g t r e) ∙ without_both f g r ∙ sym (without_yes h t r (or_left (g t) (f t) e)))
    (λ e. ap (without f) (without_no g t r e) ∙ by_bool (f t)
    (λ k. without_yes f t (without g r) k ∙ without_both f g r ∙ sym (without_yes h t r (or_right (g t) (f t) k)))
    (λ k. without_no f t (without g r) k ∙ ap (λ z. t ∷ z) (without_both f g r) ∙ sym (without_no h t r (or_neither (g t) (f t) e k))))

without_member : (f : Term → Bool) (r : Row) (x : Term) → Memᴰ x (without f r) → Memᴰ x r
unfolding without
without_member f [] x = λ m. m
without_member f (t ∷ r) x = by_test (f t) (without f r) (t ∷ without f r) (λ z. Memᴰ x z → Memᴰ x (t ∷ r))
    (λ e m. Memᴰ.tail (without_member f r x m))
    (λ e m. ⊎_elim (λ w. Memᴰ.head w) (λ k. Memᴰ.tail (without_member f r x k)) (Memᴰ.cases_cons m))

without_ascending : (f : Term → Bool) (r : Row) → Ascending r → Ascending (without f r)
unfolding without
without_ascending f [] a = tt
without_ascending f (t ∷ r) a = by_test (f t) (without f r) (t ∷ without f r) Ascending
    (λ e. without_ascending f r a.1)
    (λ e. ((λ u m. a.0 u (without_member f r u m)), without_ascending f r a.1))

-- ---- the terms of pairs

drop-is : (t : Term) (r : Row) → Ascending r → drop_term t r ≡ without (λ u. same_term u t) r
unfolding drop_term without
drop-is t [] a = refl
drop-is t (u ∷ r) a = by_bool (same_term u t)
    (λ e. drop_yes t u r e ∙ sym (without_yes (λ x. same_term x t) u r e ∙ without_none (λ x. same_term x t) r (λ x m. by_bool (same_term x t)
    (λ f. absurd (precedes-apart u x (a.0 x m) (ap (λ z. z.symbol) (same_term_lem u t e ∙ sym (same_term_lem x t f)), ap (λ z. z.exponent) (same_term_lem u t e ∙ sym (same_term_lem x t f)))))
    (λ f. f))))
    (λ e. drop_no t u r e ∙ ap (λ z. u ∷ z) (drop-is t r a.1) ∙ sym (without_no (λ x. same_term x t) u r e))

-- a term is one of a pair, or of one of pairs
abbrev of_pair : Pair → Term → Bool
of_pair p t = same_term t p.first || same_term t p.second

of_pairs : List Pair → Term → Bool
of_pairs [] t = false
of_pairs (p ∷ ps) t = of_pair p t || of_pairs ps t

without_pairs_is : (ps : List Pair) (r : Row) → Ascending r → without_pairs ps r ≡ without (of_pairs ps) r
unfolding without_pairs of_pairs
without_pairs_is [] r a = sym (without_none (of_pairs []) r (λ t m. refl))
without_pairs_is (p ∷ ps) r a =
    let f : Term → Bool = λ u. same_term u p.first in
    let g : Term → Bool = λ u. same_term u p.second in
    let one : drop_term p.first r ≡ without f r = drop-is p.first r a in
    let two : drop_term p.second (drop_term p.first r) ≡ without (of_pair p) r =
    ap (drop_term p.second) one ∙ drop-is p.second (without f r) (without_ascending f r a) ∙ without_both g f r in
    ap (without_pairs ps) two
    ∙ without_pairs_is ps (without (of_pair p) r) (without_ascending (of_pair p) r a)
    ∙ without_both (of_pairs ps) (of_pair p) r

-- ---- the terms of the pairs at the flagged co-divisors

kept-is : (d : Divisor) (flags : List Bool) (r : Row) → kept_terms d flags r ≡ without (part_of_taken d flags) r
unfolding kept_terms without
kept-is d flags [] = refl
kept-is d flags (t ∷ r) = ap {B = Row} (λ s. elim (part_of_taken d flags t) [ true ↦ s | false ↦ t ∷ s ]) (kept-is d flags r)

of_pairs_yes : (ps : List Pair) (p : Pair) (t : Term) → Memᴰ p ps → of_pair p t ≡ true → of_pairs ps t ≡ true
unfolding of_pairs
of_pairs_yes [] p t m e = absurd (Memᴰ.not-nil m)
of_pairs_yes (q ∷ ps) p t m e = ⊎_elim
    (λ w. or_left (of_pair q t) (of_pairs ps t) (ap (λ z. of_pair z t) (sym w) ∙ e))
    (λ k. or_right (of_pair q t) (of_pairs ps t) (of_pairs_yes ps p t k e))
    (Memᴰ.cases_cons m)

of_pairs_one : (ps : List Pair) (t : Term) → of_pairs ps t ≡ true → (p : Pair) × Memᴰ p ps × (of_pair p t ≡ true)
unfolding of_pairs
of_pairs_one [] t e = absurd (false≢true e)
of_pairs_one (q ∷ ps) t e = ⊎_elim
    (λ h. (q, Memᴰ.head refl, h))
    (λ h. let k = of_pairs_one ps t h in (k.0, Memᴰ.tail k.1, k.2))
    (or_cases (of_pair q t) (of_pairs ps t) e)

module _ (signs : Signs) (d : Divisor) where
  from_flag : (c : ℕ) (flags : List Bool) (i k : ℕ) → k ≡ c + i → get_or flags i false ≡ true → Memᴰ (pair_at signs d k) (pairs_from signs d c flags)
  unfolding pairs_from
  from_flag c [] i k h e = absurd (false≢true e)
  from_flag c (true ∷ flags) zero k h e = let here : k ≡ c = omega arith in Memᴰ.head (ap (pair_at signs d) here)
  from_flag c (true ∷ flags) (suc i) k h e = Memᴰ.tail (from_flag (suc c) flags i k (omega arith) e)
  from_flag c (false ∷ flags) zero k h e = absurd (false≢true e)
  from_flag c (false ∷ flags) (suc i) k h e = from_flag (suc c) flags i k (omega arith) e

  -- one of the pairs at the flagged co-divisors
  record Flagged (c : ℕ) (flags : List Bool) (p : Pair) : Type 0 where
    index : ℕ
    flagged : get_or flags index false ≡ true
    co_divisor : ℕ
    at : co_divisor ≡ c + index
    is : p ≡ pair_at signs d co_divisor

  flag_from : (c : ℕ) (flags : List Bool) (p : Pair) → Memᴰ p (pairs_from signs d c flags) → Flagged c flags p
  unfolding pairs_from
  flag_from c [] p m = absurd (Memᴰ.not-nil m)
  flag_from c (true ∷ flags) p m = ⊎_elim
      (λ e. record { index = 0; flagged = refl; co_divisor = c; at = omega arith; is = e })
      (λ k. let h = flag_from (suc c) flags p k in record { index = suc h.index; flagged = h.flagged; co_divisor = h.co_divisor; at = omega (arith, h.at); is = h.is })
      (Memᴰ.cases_cons m)
  flag_from c (false ∷ flags) p m =
      let h = flag_from (suc c) flags p m in record { index = suc h.index; flagged = h.flagged; co_divisor = h.co_divisor; at = omega (arith, h.at); is = h.is }

part_yes : (symbol exponent : ℕ) (flags : List Bool) (t : Term) (i : ℕ) → t.symbol ≡ symbol → t.exponent ≡ exponent + i → get_or flags i false ≡ true → part_as symbol exponent flags t ≡ true
part_yes symbol exponent flags t i s e f =
    let index : t.exponent - exponent ≡ i = omega arith in
    and_both (eqb t.symbol symbol) (leb exponent t.exponent && get_or flags (t.exponent - exponent) false) (eq-eqb t.symbol symbol s)
    (and_both (leb exponent t.exponent) (get_or flags (t.exponent - exponent) false) (le-leb exponent t.exponent (omega arith)) (ap (λ z. get_or flags z false) index ∙ f))

part_is : (symbol exponent : ℕ) (flags : List Bool) (t : Term) → part_as symbol exponent flags t ≡ true
    → (t.symbol ≡ symbol) × (t.exponent ≡ exponent + (t.exponent - exponent)) × (get_or flags (t.exponent - exponent) false ≡ true)
part_is symbol exponent flags t e =
    let l : Bool = leb exponent t.exponent in
    let g : Bool = get_or flags (t.exponent - exponent) false in
    let r : l && g ≡ true = and_right (eqb t.symbol symbol) (l && g) e in (
      eqb-true t.symbol symbol (and_left (eqb t.symbol symbol) (l && g) e),
      omega (arith, leb-true exponent t.exponent (and_left l g r)),
      and_right l g r,
    )

module _ (d : Divisor) (flags : List Bool) (r : Row) (a : Ascending r) (t : Term) (m : Memᴰ t r) where
  part_of-pair : of_pairs (pairs_from (sign_at r) d 0 flags) t ≡ true → part_of_taken d flags t ≡ true
  part_of-pair e =
      let x = of_pairs_one (pairs_from (sign_at r) d 0 flags) t e in
      let p : Pair = x.0 in
      let f : Flagged (sign_at r) d 0 flags p = flag_from (sign_at r) d 0 flags p x.1 in
      let as_first : Bool = part_as d.a d.ea flags t in
      let as_second : Bool = part_as d.b d.eb flags t in
      ⊎_elim
      (λ h. let g : t ≡ (pair_at (sign_at r) d f.co_divisor).first = same_term_lem t p.first h ∙ ap (λ z. z.first) f.is in
      or_left as_first as_second (part_yes d.a d.ea flags t f.index (ap (λ z. z.symbol) g) (omega (arith, ap (λ z. z.exponent) g, f.at)) f.flagged))
      (λ h. let g : t ≡ (pair_at (sign_at r) d f.co_divisor).second = same_term_lem t p.second h ∙ ap (λ z. z.second) f.is in
      or_right as_first as_second (part_yes d.b d.eb flags t f.index (ap (λ z. z.symbol) g) (omega (arith, ap (λ z. z.exponent) g, f.at)) f.flagged))
      (or_cases (same_term t p.first) (same_term t p.second) x.2)

  pair-of_part : part_of_taken d flags t ≡ true → of_pairs (pairs_from (sign_at r) d 0 flags) t ≡ true
  pair-of_part e = ⊎_elim
      (λ h.
      let x = part_is d.a d.ea flags t h in
      let c : ℕ = t.exponent - d.ea in
      let p : Pair = pair_at (sign_at r) d c in
      let g : t ≡ p.first = term_looked_up r a t m ∙ ap₂ (term_at (sign_at r)) x.0 x.1 in
      of_pairs_yes (pairs_from (sign_at r) d 0 flags) p t (from_flag (sign_at r) d 0 flags c c (omega arith) x.2) (or_left (same_term t p.first) (same_term t p.second) (term_same t p.first g)))
      (λ h.
      let x = part_is d.b d.eb flags t h in
      let c : ℕ = t.exponent - d.eb in
      let p : Pair = pair_at (sign_at r) d c in
      let g : t ≡ p.second = term_looked_up r a t m ∙ ap₂ (term_at (sign_at r)) x.0 x.1 in
      of_pairs_yes (pairs_from (sign_at r) d 0 flags) p t (from_flag (sign_at r) d 0 flags c c (omega arith) x.2) (or_right (same_term t p.first) (same_term t p.second) (term_same t p.second g)))
      (or_cases (part_as d.a d.ea flags t) (part_as d.b d.eb flags t) e)

-- the terms that are left are those of no flagged pair
pub kept_terms_lem : (d : Divisor) (flags : List Bool) (r : Row) → Ascending r → without_pairs (pairs_from (sign_at r) d 0 flags) r ≡ kept_terms d flags r
kept_terms_lem d flags r a =
    let ps : List Pair = pairs_from (sign_at r) d 0 flags in
    without_pairs_is ps r a
    ∙ without_same (of_pairs ps) (part_of_taken d flags) r (λ t m. same_truth (of_pairs ps t) (part_of_taken d flags t) (part_of-pair d flags r a t m) (pair-of_part d flags r a t m))
    ∙ sym (kept-is d flags r)

-- ---- the new terms

pub new_terms_lem : (symbol : ℕ) (signs : Signs) (d : Divisor) → Proper d → (c : ℕ) (flags : List Bool) → new_terms symbol (pairs_from signs d c flags) ≡ lookup_terms_from symbol signs d c flags
unfolding new_terms pairs_from lookup_terms_from
new_terms_lem symbol signs d proper c [] = refl
new_terms_lem symbol signs d proper c (true ∷ flags) =
    let e : co_divisor (pair_at signs d c) ≡ c = pair_co_divisor signs d proper c in
    let n : sign_of (pair_at signs d c) ≡ eqb (signs d.a (d.ea + c)) 2 = sign_in_order (pair_at signs d c) (pair_in_order signs d proper c) in
    ap₂ ◌∷◌ (λ i. record { symbol = symbol; exponent = e i; negative = n i }) (new_terms_lem symbol signs d proper (suc c) flags)
new_terms_lem symbol signs d proper c (false ∷ flags) = new_terms_lem symbol signs d proper (suc c) flags

-- ---- the row after a step

pub row-after_looked_up : (positions symbol : ℕ) (d : Divisor) → Proper d → (r : Row) → Ascending r → ExponentsBelow positions r
    → lookup_row_after positions symbol d r ≡ row_after symbol d r
unfolding lookup_row_after row_after
row-after_looked_up positions symbol d proper r a b =
    let flags : List Bool = taken_flags (sign_at r) d positions in
    sym (ap (λ ps. without_pairs ps r ++ new_terms symbol ps) (taken_looked_up positions d proper r a b) ∙ ap₂ ◌++◌ (kept_terms_lem d flags r a) (new_terms_lem symbol (sign_at r) d proper 0 flags))
