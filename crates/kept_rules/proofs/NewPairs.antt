-- Which pairs of rows are visited for new entries: those whose second term has the symbol or a later one, each once.
-- Assumes nothing.
use Prim.Native.Nat.{ℕ, zero, suc, ◌+◌, ◌≤◌, ◌<◌}
use mathlib.Core.Path.{◌≡◌, refl, sym, ap, subst}
use mathlib.Core.Logic.{◌⊎◌, inl, inr, ⊎_elim}
use mathlib.Core.List.{List, [], ◌∷◌, ◌++◌, map, append_assoc, Memᴰ}
use native.Mathlib.Omega.{arith}
use lib.Dec.{leb}
use lib.ListN.{length, get_or}
use borrow.Author.Tests.{leb-true, le-leb}
use Rattle.term.specs.declared.Term.{Term}
use Rattle.elimination_rules.specs.Rows.{Row, Ascending, WellFormed, EachRow}
use Rattle.elimination_rules.specs.Divisors.{Pair, pairs_with, pairs_of}
use Rattle.elimination_rules.specs.Visit.{InRow, all_in_row}
use Rattle.elimination_rules.proofs.Tests.{by_test, clash}
use Rattle.elimination_rules.proofs.RowOrder.{with_member, pairs_member}
use Rattle.elimination_rules.proofs.LookupSigns.{precedes-apart}
use Rattle.kept_rules.specs.Kept.{pairs_before, new_pairs, new_pairs_from}

-- ---- lists without repetition

-- no member stands twice
abbrev pub Distinct : {A : Type 0} → List A → Type 0
Distinct [] = Unit {0}
Distinct (x ∷ xs) = (Memᴰ x xs → ⊥) × Distinct xs

distinct_append : {A : Type 0} (xs ys : List A) → Distinct xs → Distinct ys → ((x : A) → Memᴰ x xs → Memᴰ x ys → ⊥) → Distinct (xs ++ ys)
distinct_append [] ys a b c = b
distinct_append (x ∷ xs) ys a b c = (
  (λ m. ⊎_elim a.0 (c x (mathlib.Core.List.Memᴰ.head refl)) (mathlib.Core.List.Memᴰ.append_cases xs m)),
  distinct_append xs ys a.1 b (λ z m n. c z (mathlib.Core.List.Memᴰ.tail m) n),
)

-- so are the two parts of one
distinct_left : {A : Type 0} (xs ys : List A) → Distinct (xs ++ ys) → Distinct xs
distinct_left [] ys a = tt
distinct_left (x ∷ xs) ys a = ((λ m. a.0 (mathlib.Core.List.Memᴰ.append_left ys m)), distinct_left xs ys a.1)

distinct_right : {A : Type 0} (xs ys : List A) → Distinct (xs ++ ys) → Distinct ys
distinct_right [] ys a = a
distinct_right (x ∷ xs) ys a = distinct_right xs ys a.1

distinct_map : {A B : Type 0} (f : A → B) → ((x y : A) → f x ≡ f y → x ≡ y) → (xs : List A) → Distinct xs → Distinct (map f xs)
distinct_map f injective [] a = tt
distinct_map f injective (x ∷ xs) a = (
  (λ m. let h = mathlib.Core.List.Memᴰ.of_map f xs m in a.0 (mathlib.Core.List.Memᴰ.cast (injective x h.0 (sym h.2)) h.1)),
  distinct_map f injective xs a.1,
)

ascending_distinct : (r : Row) → Ascending r → Distinct r
ascending_distinct [] a = tt
ascending_distinct (t ∷ r) a = ((λ m. precedes-apart t t (a.0 t m) (refl, refl)), ascending_distinct r a.1)

-- ---- the pairs of a row

before_member : (r : Row) (u : Term) (p : Pair) → Memᴰ p (pairs_before r u) → Memᴰ p.first r × (p.second ≡ u)
unfolding pairs_before
before_member [] u p m = absurd (mathlib.Core.List.Memᴰ.not-nil m)
before_member (t ∷ r) u p m = ⊎_elim
    (λ e. (mathlib.Core.List.Memᴰ.head (ap (λ z. z.first) e), ap (λ z. z.second) e))
    (λ k. let h = before_member r u p k in (mathlib.Core.List.Memᴰ.tail h.0, h.1))
    (mathlib.Core.List.Memᴰ.cases_cons m)

member_before : (r : Row) (u : Term) (p : Pair) → Memᴰ p.first r → p.second ≡ u → Memᴰ p (pairs_before r u)
unfolding pairs_before
member_before [] u p m e = absurd (mathlib.Core.List.Memᴰ.not-nil m)
member_before (t ∷ r) u p m e = ⊎_elim
    (λ f. mathlib.Core.List.Memᴰ.head (λ i. record { first = f i; second = e i }))
    (λ k. mathlib.Core.List.Memᴰ.tail (member_before r u p k e))
    (mathlib.Core.List.Memᴰ.cases_cons m)

before_distinct : (r : Row) (u : Term) → Distinct r → Distinct (pairs_before r u)
unfolding pairs_before
before_distinct [] u a = tt
before_distinct (t ∷ r) u a = ((λ m. a.0 (before_member r u (record { first = t; second = u }) m).0), before_distinct r u a.1)

member_with : (t : Term) (r : Row) (p : Pair) → p.first ≡ t → Memᴰ p.second r → Memᴰ p (pairs_with t r)
unfolding pairs_with
member_with t [] p e m = absurd (mathlib.Core.List.Memᴰ.not-nil m)
member_with t (u ∷ r) p e m = ⊎_elim
    (λ f. mathlib.Core.List.Memᴰ.head (λ i. record { first = e i; second = f i }))
    (λ k. mathlib.Core.List.Memᴰ.tail (member_with t r p e k))
    (mathlib.Core.List.Memᴰ.cases_cons m)

-- what is visited with a part of the row in front: a pair of a term there and a later one, or of two later ones
abbrev PairBehind : Row → Row → Pair → Type 0
PairBehind front r p = (Memᴰ p.first front × Memᴰ p.second r) ⊎ Memᴰ p (pairs_of r)

-- with one term more in front only the pairs of which that term is the second are gone
front_grows : (front : Row) (u : Term) (r : Row) (p : Pair) → PairBehind front (u ∷ r) p → (Memᴰ p.first front × (p.second ≡ u)) ⊎ PairBehind (front ++ (u ∷ [])) r p
unfolding pairs_of
front_grows front u r p (inl m) = ⊎_elim
    (λ e. inl (m.0, e))
    (λ k. inr (inl (mathlib.Core.List.Memᴰ.append_left (u ∷ []) m.0, k)))
    (mathlib.Core.List.Memᴰ.cases_cons m.1)
front_grows front u r p (inr m) = ⊎_elim
    (λ k. let h = with_member u r p k in inr (inl (mathlib.Core.List.Memᴰ.append_right front (mathlib.Core.List.Memᴰ.head h.0), h.1)))
    (λ k. inr (inr k))
    (mathlib.Core.List.Memᴰ.append_cases (pairs_with u r) m)

front_shrinks : (front : Row) (u : Term) (r : Row) (p : Pair) → PairBehind (front ++ (u ∷ [])) r p → PairBehind front (u ∷ r) p
unfolding pairs_of
front_shrinks front u r p (inl m) = ⊎_elim
    (λ k. inl (k, mathlib.Core.List.Memᴰ.tail m.1))
    (λ k. inr (mathlib.Core.List.Memᴰ.append_left (pairs_of r) (member_with u r p (mathlib.Core.List.Memᴰ.eq_of_singleton k) m.1)))
    (mathlib.Core.List.Memᴰ.append_cases front m.0)
front_shrinks front u r p (inr m) = inr (mathlib.Core.List.Memᴰ.append_right (pairs_with u r) m)

second-behind : (front r : Row) (p : Pair) → PairBehind front r p → Memᴰ p.second r
second-behind front r p b = ⊎_elim (λ m. m.1) (λ m. (pairs_member r p m).1) b

module _ (symbol : ℕ) where
  behind_new : (front r : Row) (p : Pair) → PairBehind front r p → symbol ≤ p.second.symbol → Memᴰ p (new_pairs symbol front r)
  unfolding new_pairs pairs_of
  behind_new front [] p (inl m) h = absurd (mathlib.Core.List.Memᴰ.not-nil m.1)
  behind_new front [] p (inr m) h = absurd (mathlib.Core.List.Memᴰ.not-nil m)
  behind_new front (u ∷ r) p b h =
      let rest : List Pair = new_pairs symbol (front ++ (u ∷ [])) r in
      by_test (leb symbol u.symbol) (pairs_before front u ++ rest) rest (Memᴰ p)
      (λ e. ⊎_elim
      (λ m. mathlib.Core.List.Memᴰ.append_left rest (member_before front u p m.0 m.1))
      (λ k. mathlib.Core.List.Memᴰ.append_right (pairs_before front u) (behind_new (front ++ (u ∷ [])) r p k h))
      (front_grows front u r p b))
      (λ e. ⊎_elim
      (λ m. clash (le-leb symbol u.symbol (omega (arith, ap (λ z. z.symbol) m.1))) e)
      (λ k. behind_new (front ++ (u ∷ [])) r p k h)
      (front_grows front u r p b))

  new_behind : (front r : Row) (p : Pair) → Memᴰ p (new_pairs symbol front r) → PairBehind front r p × (symbol ≤ p.second.symbol)
  unfolding new_pairs
  new_behind front [] p = λ m. absurd (mathlib.Core.List.Memᴰ.not-nil m)
  new_behind front (u ∷ r) p =
      let rest : List Pair = new_pairs symbol (front ++ (u ∷ [])) r in
      let later : Memᴰ p rest → PairBehind front (u ∷ r) p × (symbol ≤ p.second.symbol) =
      λ m. let h = new_behind (front ++ (u ∷ [])) r p m in (front_shrinks front u r p h.0, h.1) in
      by_test (leb symbol u.symbol) (pairs_before front u ++ rest) rest (λ z. Memᴰ p z → PairBehind front (u ∷ r) p × (symbol ≤ p.second.symbol))
      (λ e m. ⊎_elim
      (λ k. let h = before_member front u p k in (inl (h.0, mathlib.Core.List.Memᴰ.head h.1), omega (arith, leb-true symbol u.symbol e, ap (λ z. z.symbol) h.1)))
      later
      (mathlib.Core.List.Memᴰ.append_cases (pairs_before front u) m))
      (λ e m. later m)

  -- a pair of a row whose second term has the symbol or a later one is visited, and no other
  pub new_pair : (r : Row) (p : Pair) → Memᴰ p (pairs_of r) → symbol ≤ p.second.symbol → Memᴰ p (new_pairs symbol [] r)
  new_pair r p m h = behind_new [] r p (inr m) h

  pub is_new_pair : (r : Row) (p : Pair) → Memᴰ p (new_pairs symbol [] r) → Memᴰ p (pairs_of r) × (symbol ≤ p.second.symbol)
  is_new_pair r p m = let h = new_behind [] r p m in (⊎_elim (λ k. absurd (mathlib.Core.List.Memᴰ.not-nil k.0)) (λ k. k) h.0, h.1)

  -- and none twice: pairs of different second terms differ, and so do those of one second term with different first terms
  new_distinct : (front r : Row) → Distinct (front ++ r) → Distinct (new_pairs symbol front r)
  unfolding new_pairs
  new_distinct front [] a = tt
  new_distinct front (u ∷ r) a =
      let rest : List Pair = new_pairs symbol (front ++ (u ∷ [])) r in
      let later : Distinct rest = new_distinct (front ++ (u ∷ [])) r (subst Distinct (sym (append_assoc front (u ∷ []) r)) a) in
      by_test (leb symbol u.symbol) (pairs_before front u ++ rest) rest Distinct
      (λ e. distinct_append (pairs_before front u) rest (before_distinct front u (distinct_left front (u ∷ r) a)) later
      (λ p m n. (distinct_right front (u ∷ r) a).0
      (mathlib.Core.List.Memᴰ.cast (sym (before_member front u p m).1) (second-behind (front ++ (u ∷ [])) r p (new_behind (front ++ (u ∷ [])) r p n).0))))
      (λ e. later)

  -- ---- over all rows

  abbrev in_row : ℕ → Pair → InRow
  in_row i p = record { row = i; pair = p }

  visited_from : (i : ℕ) (rows : List Row) (x : InRow) → Memᴰ x (new_pairs_from symbol i rows)
      → (k : ℕ) × (x.row ≡ i + k) × (k < length rows) × Memᴰ x.pair (new_pairs symbol [] (get_or rows k []))
  unfolding new_pairs_from
  visited_from i [] x m = absurd (mathlib.Core.List.Memᴰ.not-nil m)
  visited_from i (r ∷ rows) x m = ⊎_elim
      (λ k. let h = mathlib.Core.List.Memᴰ.of_map (in_row i) (new_pairs symbol [] r) k in
      (0, omega (arith, ap (λ z. z.row) h.2), omega arith, mathlib.Core.List.Memᴰ.cast (ap (λ z. z.pair) (sym h.2)) h.1))
      (λ k. let h = visited_from (suc i) rows x k in (suc h.0, omega (arith, h.1), omega (arith, h.2), h.3))
      (mathlib.Core.List.Memᴰ.append_cases (all_in_row i (new_pairs symbol [] r)) m)

  visits_from : (i : ℕ) (rows : List Row) (x : InRow) (k : ℕ) → x.row ≡ i + k → k < length rows → Memᴰ x.pair (new_pairs symbol [] (get_or rows k []))
      → Memᴰ x (new_pairs_from symbol i rows)
  unfolding new_pairs_from
  visits_from i [] x k e l m = absurd (omega arith)
  visits_from i (r ∷ rows) x zero e l m =
      let f : x.row ≡ i = omega arith in
      mathlib.Core.List.Memᴰ.append_left (new_pairs_from symbol (suc i) rows) (mathlib.Core.List.Memᴰ.cast (λ j. record { row = f j; pair = x.pair }) (mathlib.Core.List.Memᴰ.map (in_row i) m))
  visits_from i (r ∷ rows) x (suc k) e l m =
      mathlib.Core.List.Memᴰ.append_right (all_in_row i (new_pairs symbol [] r)) (visits_from (suc i) rows x k (omega arith) (omega arith) m)

  -- a pair is visited if it is such a pair of its row, and no other is
  pub visited : (rows : List Row) (x : InRow) → Memᴰ x (new_pairs_from symbol 0 rows)
      → (x.row < length rows) × Memᴰ x.pair (pairs_of (get_or rows x.row [])) × (symbol ≤ x.pair.second.symbol)
  visited rows x m =
      let h = visited_from 0 rows x m in
      let e : h.0 ≡ x.row = omega (arith, h.1) in
      let k = is_new_pair (get_or rows h.0 []) x.pair h.3 in
      (omega (arith, h.1, h.2), subst (λ (i : ℕ). Memᴰ x.pair (pairs_of (get_or rows i []))) e k.0, k.1)

  pub visits : (rows : List Row) (x : InRow) → x.row < length rows → Memᴰ x.pair (pairs_of (get_or rows x.row [])) → symbol ≤ x.pair.second.symbol
      → Memᴰ x (new_pairs_from symbol 0 rows)
  visits rows x l m h = visits_from 0 rows x x.row (omega arith) l (new_pair (get_or rows x.row []) x.pair m h)

  visited_distinct_from : (positions next i : ℕ) (rows : List Row) → EachRow (WellFormed positions next) rows → Distinct (new_pairs_from symbol i rows)
  unfolding new_pairs_from
  visited_distinct_from positions next i [] w = tt
  visited_distinct_from positions next i (r ∷ rows) w = distinct_append (all_in_row i (new_pairs symbol [] r)) (new_pairs_from symbol (suc i) rows)
      (distinct_map (in_row i) (λ p q e. ap (λ x. x.pair) e) (new_pairs symbol [] r) (new_distinct [] r (ascending_distinct r w.0.ascending)))
      (visited_distinct_from positions next (suc i) rows w.1)
      (λ x m n. omega (arith, ap (λ z. z.row) (mathlib.Core.List.Memᴰ.of_map (in_row i) (new_pairs symbol [] r) m).2, (visited_from (suc i) rows x n).1))

  -- no pair is visited twice
  pub visited_distinct : (positions next : ℕ) (rows : List Row) → EachRow (WellFormed positions next) rows → Distinct (new_pairs_from symbol 0 rows)
  visited_distinct positions next rows w = visited_distinct_from positions next 0 rows w
