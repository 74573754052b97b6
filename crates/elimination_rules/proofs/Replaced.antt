-- What a step does to a row: it takes both terms of each taken pair out, each once, and adds one term for each pair. So a sum over
-- the row stays as it was if each new term has the sum of its pair.
-- Assumes nothing.
use Prim.Native.Nat.{ℕ, suc, ◌+◌, ◌*◌, pred}
use mathlib.Core.Path.{◌≡◌, refl, sym, ◌∙◌, ap, ap₂}
use mathlib.Core.Logic.{⊎_elim}
use mathlib.Core.Bool.{true, false}
use mathlib.Core.List.Memᴰ
use mathlib.Core.List.{List, [], ◌∷◌, ◌++◌, Memᴰ}
use native.Mathlib.Omega.{arith}
use lib.IntN.{ℤ, pos, ◌+ℤ◌, +ℤ_assoc, +ℤ_comm, +ℤ_idl}
use lib.ListN.{length, length-append}
use Rattle.integers.proofs.Ring.{+-left_comm}
use Rattle.term.specs.declared.Term.{Term}
use Rattle.elimination_rules.specs.declared.Divisor.{Divisor}
use Rattle.elimination_rules.specs.Rows.{Row, row_sum}
use Rattle.elimination_rules.specs.Divisors.{Pair, overlap, pairs_with, pairs_of, taken}
use Rattle.elimination_rules.specs.Elimination.{same_term, drop_term, without_pairs, new_term, new_terms, row_after}
use Rattle.elimination_rules.proofs.Tests.{by_bool, by_test, clash}
use Rattle.elimination_rules.proofs.Same.{same_term_lem, term_same, other_place}
use Rattle.elimination_rules.proofs.RowOrder.{Occurrence, with_member}
use Rattle.elimination_rules.proofs.Taken.{NoOverlap, no_overlap, taken-apart, taken_occurrence}

-- ---- taking one term out

pub drop_yes : (t u : Term) (r : Row) → same_term u t ≡ true → drop_term t (u ∷ r) ≡ r
unfolding drop_term
drop_yes t u r e = rw (e, drop_term)

pub drop_no : (t u : Term) (r : Row) → same_term u t ≡ false → drop_term t (u ∷ r) ≡ u ∷ drop_term t r
unfolding drop_term
drop_no t u r e = rw (e, drop_term)

-- what is left was there
pub drop_member : (t : Term) (r : Row) (x : Term) → Memᴰ x (drop_term t r) → Memᴰ x r
unfolding drop_term
drop_member t [] x = λ m. m
drop_member t (u ∷ r) x = by_test (same_term u t) r (u ∷ drop_term t r) (λ z. Memᴰ x z → Memᴰ x (u ∷ r))
    (λ e m. Memᴰ.tail m)
    (λ e m. ⊎_elim (λ w. Memᴰ.head w) (λ k. Memᴰ.tail (drop_member t r x k)) (Memᴰ.cases_cons m))

-- and another term is left
drop_other : (t u : Term) (r : Row) → same_term u t ≡ false → Memᴰ u r → Memᴰ u (drop_term t r)
drop_other t u [] n m = absurd (Memᴰ.not-nil m)
drop_other t u (w ∷ r) n m = by_bool (same_term w t)
    (λ e. rw (drop_yes t w r e) (⊎_elim
    (λ f. clash (ap (λ x. same_term x t) f ∙ e) n)
    (λ k. k)
    (Memᴰ.cases_cons m)))
    (λ e. rw (drop_no t w r e) (⊎_elim (λ f. Memᴰ.head f) (λ k. Memᴰ.tail (drop_other t u r n k)) (Memᴰ.cases_cons m)))

drop_either_first : (a b : Term) (r : Row) → same_term a b ≡ false → drop_term a (drop_term b r) ≡ drop_term b (drop_term a r)
unfolding drop_term
drop_either_first a b [] n = refl
drop_either_first a b (w ∷ r) n = by_bool (same_term w a)
    (λ e. by_bool (same_term w b)
    (λ f. clash (ap (λ x. same_term x b) (sym (same_term_lem w a e)) ∙ f) n)
    (λ f. rw (drop_no b w r f, drop_yes a w r e, drop_yes a w (drop_term b r) e)))
    (λ e. by_bool (same_term w b)
    (λ f. rw (drop_yes b w r f, drop_no a w r e, drop_yes b w (drop_term a r) f))
    (λ f. rw (drop_no b w r f, drop_no a w r e, drop_no a w (drop_term b r) e, drop_no b w (drop_term a r) f) (ap (λ x. w ∷ x) (drop_either_first a b r n))))

-- ---- taking pairs out

-- both terms of p are in r, the second beside the first
abbrev pub Inside : Row → Pair → Type 0
Inside r p = Memᴰ p.first r × Memᴰ p.second (drop_term p.first r)

abbrev pub both_out : Pair → Row → Row
both_out p r = drop_term p.second (drop_term p.first r)

-- each pair is still there when its turn comes
abbrev pub Fit : Row → List Pair → Type 0
Fit r [] = Unit {0}
Fit r (p ∷ ps) = Inside r p × Fit (both_out p r) ps

inside-more : (t : Term) (r : Row) (p : Pair) → Inside r p → Inside (t ∷ r) p
inside-more t r p h = (
  Memᴰ.tail h.0,
  by_bool (same_term t p.first)
      (λ e. rw (drop_yes p.first t r e) (drop_member p.first r p.second h.1))
      (λ e. rw (drop_no p.first t r e) (Memᴰ.tail h.1)),
)

pub pair_inside : (r : Row) (p : Pair) → Memᴰ p (pairs_of r) → Inside r p
unfolding pairs_of
pair_inside [] p m = absurd (Memᴰ.not-nil m)
pair_inside (t ∷ r) p m = ⊎_elim
    (λ k. let h = with_member t r p k in
    (Memᴰ.head h.0, rw (drop_yes p.first t r (term_same t p.first (sym h.0))) h.1))
    (λ k. inside-more t r p (pair_inside r p k))
    (Memᴰ.append_cases (pairs_with t r) m)

-- a pair that does not overlap p stays inside when p is taken out
inside_still : (r : Row) (p q : Pair) → overlap q p ≡ false → Inside r q → Inside (both_out p r) q
inside_still r p q c h =
    let o = no_overlap q p c in
    let ff = other_place q.first p.first o.0 in
    let fs = other_place q.first p.second o.1 in
    let sf = other_place q.second p.first o.2 in
    let ss = other_place q.second p.second o.3 in (
      drop_other p.second q.first (drop_term p.first r) fs (drop_other p.first q.first r ff h.0),
      rw (drop_either_first q.first p.second (drop_term p.first r) fs, drop_either_first q.first p.first r ff)
          (drop_other p.second q.second (drop_term p.first (drop_term q.first r)) ss (drop_other p.first q.second (drop_term q.first r) sf h.1)),
    )

fit : (r : Row) (ps : List Pair) → NoOverlap ps → ((p : Pair) → Memᴰ p ps → Inside r p) → Fit r ps
fit r [] a h = tt
fit r (p ∷ ps) a h = (
  h p (Memᴰ.head refl),
  fit (both_out p r) ps a.1 (λ q m. inside_still r p q (a.0 q m) (h q (Memᴰ.tail m))),
)

pub taken-fit : (d : Divisor) (r : Row) → Fit r (taken d r)
taken-fit d r = fit r (taken d r) (taken-apart d r) (λ p m. pair_inside r p (taken_occurrence d r p m).pair)

-- ---- sums over the row

module _ (f : Term → ℤ) where
  pub sum-append : (r s : Row) → row_sum f (r ++ s) ≡ row_sum f r +ℤ row_sum f s
  unfolding row_sum
  sum-append [] s = sym (+ℤ_idl (row_sum f s))
  sum-append (t ∷ r) s = ap (λ x. f t +ℤ x) (sum-append r s) ∙ sym (+ℤ_assoc (f t) (row_sum f r) (row_sum f s))

  sum_drop : (t : Term) (r : Row) → Memᴰ t r → f t +ℤ row_sum f (drop_term t r) ≡ row_sum f r
  unfolding row_sum
  sum_drop t [] m = absurd (Memᴰ.not-nil m)
  sum_drop t (u ∷ r) m = by_bool (same_term u t)
      (λ e. rw (drop_yes t u r e) (ap (λ x. f x +ℤ row_sum f r) (sym (same_term_lem u t e))))
      (λ e. rw (drop_no t u r e) (+-left_comm (f t) (f u) (row_sum f (drop_term t r)) ∙ ap (λ x. f u +ℤ x) (sum_drop t r (⊎_elim
      (λ w. clash (term_same u t (sym w)) e)
      (λ k. k)
      (Memᴰ.cases_cons m)))))

  pairs_sum : List Pair → ℤ
  pairs_sum [] = pos 0
  pairs_sum (p ∷ ps) = f p.first +ℤ f p.second +ℤ pairs_sum ps

  sum_without : (ps : List Pair) (r : Row) → Fit r ps → pairs_sum ps +ℤ row_sum f (without_pairs ps r) ≡ row_sum f r
  unfolding pairs_sum without_pairs
  sum_without [] r h = +ℤ_idl (row_sum f r)
  sum_without (p ∷ ps) r h =
      let e₁ : f p.first +ℤ row_sum f (drop_term p.first r) ≡ row_sum f r = sum_drop p.first r h.0.0 in
      let e₂ : f p.second +ℤ row_sum f (both_out p r) ≡ row_sum f (drop_term p.first r) = sum_drop p.second (drop_term p.first r) h.0.1 in
      let e₃ : pairs_sum ps +ℤ row_sum f (without_pairs ps (both_out p r)) ≡ row_sum f (both_out p r) = sum_without ps (both_out p r) h.1 in
      rw (← e₁, ← e₂, ← e₃) (simp (+ℤ_assoc))

  sum_new : (symbol : ℕ) (ps : List Pair) → ((p : Pair) → Memᴰ p ps → f (new_term symbol p) ≡ f p.first +ℤ f p.second) → row_sum f (new_terms symbol ps) ≡ pairs_sum ps
  unfolding row_sum new_terms pairs_sum
  sum_new symbol [] h = refl
  sum_new symbol (p ∷ ps) h = ap₂ ◌+ℤ◌ (h p (Memᴰ.head refl)) (sum_new symbol ps (λ q m. h q (Memᴰ.tail m)))

  pub sum-after : (symbol : ℕ) (d : Divisor) (r : Row) → ((p : Pair) → Occurrence d r p → f (new_term symbol p) ≡ f p.first +ℤ f p.second)
      → row_sum f (row_after symbol d r) ≡ row_sum f r
  unfolding row_after
  sum-after symbol d r h =
      let ps : List Pair = taken d r in
      sum-append (without_pairs ps r) (new_terms symbol ps)
      ∙ ap (λ x. row_sum f (without_pairs ps r) +ℤ x) (sum_new symbol ps (λ p m. h p (taken_occurrence d r p m)))
      ∙ +ℤ_comm (row_sum f (without_pairs ps r)) (pairs_sum ps)
      ∙ sum_without ps r (taken-fit d r)

-- ---- the number of terms: each pair takes one away

length-drop : (t : Term) (r : Row) → Memᴰ t r → suc (length (drop_term t r)) ≡ length r
length-drop t [] m = absurd (Memᴰ.not-nil m)
length-drop t (u ∷ r) m = by_bool (same_term u t)
    (λ e. rw (drop_yes t u r e))
    (λ e. rw (drop_no t u r e) (ap suc (length-drop t r (⊎_elim
    (λ w. clash (term_same u t (sym w)) e)
    (λ k. k)
    (Memᴰ.cases_cons m)))))

length_without : (ps : List Pair) (r : Row) → Fit r ps → length (without_pairs ps r) + 2 * length ps ≡ length r
unfolding without_pairs
length_without [] r h = omega arith
length_without (p ∷ ps) r h =
    omega (arith, length-drop p.first r h.0.0, length-drop p.second (drop_term p.first r) h.0.1, length_without ps (both_out p r) h.1)

length_new : (symbol : ℕ) (ps : List Pair) → length (new_terms symbol ps) ≡ length ps
unfolding new_terms
length_new symbol [] = refl
length_new symbol (p ∷ ps) = ap suc (length_new symbol ps)

pub length-after : (symbol : ℕ) (d : Divisor) (r : Row)
    → (length (row_after symbol d r) + length (taken d r) ≡ length r) × (pred (length (row_after symbol d r)) + length (taken d r) ≡ pred (length r))
unfolding row_after
length-after symbol d r =
    let ps : List Pair = taken d r in
    let w : length (without_pairs ps r) + 2 * length ps ≡ length r = length_without ps r (taken-fit d r) in
    let n : length (new_terms symbol ps) ≡ length ps = length_new symbol ps in
    let s : length (without_pairs ps r ++ new_terms symbol ps) ≡ length (without_pairs ps r) + length (new_terms symbol ps) = length-append (without_pairs ps r) (new_terms symbol ps) in
    (omega arith, omega arith)
