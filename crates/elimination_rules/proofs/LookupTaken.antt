-- What is taken of a row in its order is what the flags say: the looked-up pairs at the flagged co-divisors. So are the scores.
-- Assumes nothing.
use Prim.Native.Nat.{ℕ, zero, suc, ◌+◌, ◌-◌, ◌≤◌, ◌<◌}
use mathlib.Core.Path.{◌≡◌, refl, sym, ◌∙◌, ap, ap₂}
use mathlib.Core.Logic.{◌⊎◌, inl, inr, ⊎_elim}
use mathlib.Core.Bool.{Bool, true, false, not, ◌&&◌, and-false, false≢true, true≢false}
use mathlib.Core.List.Memᴰ
use mathlib.Core.List.{List, [], ◌∷◌, ◌++◌, append_assoc, append-nil, Memᴰ}
use native.Mathlib.Omega.{arith}
use lib.Dec.{eqb, leb}
use lib.ListN.{length, length-append, get_or}
use lib.Seq.{get_or_at}
use borrow.Author.Tests.{eqb-true, eqb-false, eq-eqb, leb-true, le-leb}
use Rattle.term.specs.declared.Term.{Term}
use Rattle.elimination_rules.specs.declared.Divisor.{Divisor}
use Rattle.elimination_rules.specs.Rows.{Row, Precedes, Ascending}
use Rattle.elimination_rules.specs.Divisors.{Pair, co_divisor, pairs_with, pairs_of, same_divisor, overlap, overlaps_any, occurrences, taking, taken}
use Rattle.elimination_rules.specs.RowOrder.{row_order_divisor, row_order_pairs, row_order_occurrences}
use Rattle.elimination_rules.specs.Lookup.{ExponentsBelow, Proper, Signs, sign_at, occurs_at, overlaps_taken, taken_flags, pair_at, pairs_from, count_true}
use Rattle.elimination_rules.proofs.Tests.{by_bool, by_test, clash}
use Rattle.elimination_rules.proofs.Same.{same-divisor}
use Rattle.elimination_rules.proofs.RowOrder.{InRowOrder, Placed, placed, occurrence, all-occurrences, divisor_in_order, with_member, pairs_member, pairs_in_order, occurrences_in_order}
use Rattle.elimination_rules.proofs.Taken.{Shares, first-first, first-second, second-first, second-second, shares, sharing, any_yes, any_no, taking_yes, taking_no}
use Rattle.elimination_rules.proofs.LookupSigns.{pair_co_divisor, pair_occurs, occurrence_looked_up}

-- ---- the pairs of a row in its order ascend by first term, then second

PairBefore : Pair → Pair → Type 0
PairBefore p x = Precedes p.first x.first ⊎ ((p.first ≡ x.first) × Precedes p.second x.second)

abbrev PairsAscend : List Pair → Type 0
PairsAscend [] = Unit {0}
PairsAscend (p ∷ ps) = ((x : Pair) → Memᴰ x ps → PairBefore p x) × PairsAscend ps

ascend_append : (ps qs : List Pair) → PairsAscend ps → PairsAscend qs → ((p q : Pair) → Memᴰ p ps → Memᴰ q qs → PairBefore p q) → PairsAscend (ps ++ qs)
ascend_append [] qs a b c = b
ascend_append (p ∷ ps) qs a b c = (
  (λ x m. ⊎_elim (λ k. a.0 x k) (λ k. c p x (Memᴰ.head refl) k) (Memᴰ.append_cases ps m)),
  ascend_append ps qs a.1 b (λ x y m n. c x y (Memᴰ.tail m) n),
)

ascend_with : (t : Term) (r : Row) → Ascending r → PairsAscend (pairs_with t r)
unfolding pairs_with PairBefore
ascend_with t [] a = tt
ascend_with t (u ∷ r) a = (
  (λ x m. let h = with_member t r x m in inr (sym h.0, a.0 x.second h.1)),
  ascend_with t r a.1,
)

pairs_ascend : (r : Row) → Ascending r → PairsAscend (pairs_of r)
unfolding pairs_of PairBefore
pairs_ascend [] a = tt
pairs_ascend (t ∷ r) a = ascend_append (pairs_with t r) (pairs_of r) (ascend_with t r a.1) (pairs_ascend r a.1)
    (λ p q m n. inl (rw (with_member t r p m).0 (a.0 q.first (pairs_member r q n).0)))

-- ---- so the co-divisors of a divisor's occurrences ascend

abbrev pub CoDivisorsAscend : List Pair → Type 0
CoDivisorsAscend [] = Unit {0}
CoDivisorsAscend (p ∷ ps) = ((x : Pair) → Memᴰ x ps → co_divisor p < co_divisor x) × CoDivisorsAscend ps

row-order_member : (d : Divisor) (ps : List Pair) (x : Pair) → Memᴰ x (row_order_pairs d ps) → Memᴰ x ps × (row_order_divisor x ≡ d)
unfolding row_order_pairs
row-order_member d [] x = λ m. absurd (Memᴰ.not-nil m)
row-order_member d (p ∷ ps) x =
    by_test (same_divisor (row_order_divisor p) d) (p ∷ row_order_pairs d ps) (row_order_pairs d ps) (λ z. Memᴰ x z → Memᴰ x (p ∷ ps) × (row_order_divisor x ≡ d))
    (λ e m. ⊎_elim
    (λ w. (Memᴰ.head w, ap row_order_divisor w ∙ same-divisor (row_order_divisor p) d e))
    (λ k. let h = row-order_member d ps x k in (Memᴰ.tail h.0, h.1))
    (Memᴰ.cases_cons m))
    (λ e m. let h = row-order_member d ps x m in (Memᴰ.tail h.0, h.1))

-- of two pairs with one divisor, the one before the other has the smaller co-divisor
before-smaller : (d : Divisor) (p x : Pair) → Placed d p → Placed d x → PairBefore p x → co_divisor p < co_divisor x
unfolding PairBefore
before-smaller d p x f g (inl (inl h)) = omega (arith, f.first-symbol, g.first-symbol)
before-smaller d p x f g (inl (inr h)) = omega (arith, f.first-exponent, g.first-exponent)
before-smaller d p x f g (inr (e, inl h)) = omega (arith, f.second-symbol, g.second-symbol)
before-smaller d p x f g (inr (e, inr h)) = omega (arith, f.second-exponent, g.second-exponent)

ascend_filtered : (d : Divisor) (ps : List Pair) → PairsAscend ps → ((x : Pair) → Memᴰ x ps → InRowOrder x) → CoDivisorsAscend (row_order_pairs d ps)
unfolding row_order_pairs
ascend_filtered d [] a o = tt
ascend_filtered d (p ∷ ps) a o =
    let at : (x : Pair) → InRowOrder x → row_order_divisor x ≡ d → Placed d x = λ x h e. placed d x h (divisor_in_order x h ∙ e) in
    by_test (same_divisor (row_order_divisor p) d) (p ∷ row_order_pairs d ps) (row_order_pairs d ps) CoDivisorsAscend
    (λ e. (
      (λ x m.
          let h = row-order_member d ps x m in
          before-smaller d p x (at p (o p (Memᴰ.head refl)) (same-divisor (row_order_divisor p) d e)) (at x (o x (Memᴰ.tail h.0)) h.1) (a.0 x h.0)),
      ascend_filtered d ps a.1 (λ x m. o x (Memᴰ.tail m)),
    ))
    (λ e. ascend_filtered d ps a.1 (λ x m. o x (Memᴰ.tail m)))

pub occurrences_ascend : (d : Divisor) (r : Row) → Ascending r → CoDivisorsAscend (occurrences d r)
unfolding row_order_occurrences
occurrences_ascend d r a = rw (occurrences_in_order d r a) (ascend_filtered d (pairs_of r) (pairs_ascend r a) (pairs_in_order r a))

-- ---- so a divisor's occurrences are the looked-up pairs at the co-divisors where it occurs

-- whether it occurs at a co-divisor, from one on, for so many
occurs_from : Signs → Divisor → ℕ → ℕ → List Bool
occurs_from signs d c zero = []
occurs_from signs d c (suc n) = occurs_at signs d c ∷ occurs_from signs d (suc c) n

module _ (signs : Signs) (d : Divisor) where
  from_yes : (c : ℕ) (flag : Bool) (flags : List Bool) → flag ≡ true → pairs_from signs d c (flag ∷ flags) ≡ pair_at signs d c ∷ pairs_from signs d (suc c) flags
  unfolding pairs_from
  from_yes c true flags e = refl
  from_yes c false flags e = absurd (false≢true e)

  from_no : (c : ℕ) (flag : Bool) (flags : List Bool) → flag ≡ false → pairs_from signs d c (flag ∷ flags) ≡ pairs_from signs d (suc c) flags
  unfolding pairs_from
  from_no c true flags e = absurd (true≢false e)
  from_no c false flags e = refl

  -- an occurrence whose co-divisor is one of n from c on
  record Within (c n : ℕ) (x : Pair) : Type 0 where
    from : c ≤ co_divisor x
    to : co_divisor x < c + n
    occurs : occurs_at signs d (co_divisor x) ≡ true

  listed : Proper d → (n c : ℕ) (ps : List Pair) → CoDivisorsAscend ps → ((x : Pair) → Memᴰ x ps → Within c n x)
      → ((k : ℕ) → c ≤ k → k < c + n → occurs_at signs d k ≡ true → Memᴰ (pair_at signs d k) ps)
      → ps ≡ pairs_from signs d c (occurs_from signs d c n)
  unfolding pairs_from occurs_from
  listed proper zero c [] a w all = refl
  listed proper zero c (p ∷ ps) a w all = let h = w p (Memᴰ.head refl) in absurd (omega (arith, h.from, h.to))
  listed proper (suc n) c [] a w all = by_bool (occurs_at signs d c)
      (λ e. absurd (Memᴰ.not-nil (all c (omega arith) (omega arith) e)))
      (λ e. listed proper n (suc c) [] tt (λ x m. absurd (Memᴰ.not-nil m)) (λ k l u. all k (omega arith) (omega arith))
      ∙ sym (from_no c (occurs_at signs d c) (occurs_from signs d (suc c) n) e))
  listed proper (suc n) c (p ∷ ps) a w all =
      let at : (k : ℕ) → co_divisor (pair_at signs d k) ≡ k = pair_co_divisor signs d proper in
      by_bool (occurs_at signs d c)
      (λ e. ⊎_elim
      (λ h.
      let here : co_divisor p ≡ c = ap co_divisor (sym h) ∙ at c in
      ap₂ ◌∷◌ (sym h) (listed proper n (suc c) ps a.1
      (λ x m. let v = w x (Memᴰ.tail m) in record { from = omega (arith, a.0 x m); to = omega (arith, v.to); occurs = v.occurs })
      (λ k l u f. ⊎_elim
      (λ g. absurd (omega (arith, at k, ap co_divisor g)))
      (λ m. m)
      (Memᴰ.cases_cons (all k (omega arith) (omega arith) f))))
      ∙ sym (from_yes c (occurs_at signs d c) (occurs_from signs d (suc c) n) e))
      (λ m. absurd (omega (arith, a.0 (pair_at signs d c) m, at c, (w p (Memᴰ.head refl)).from)))
      (Memᴰ.cases_cons (all c (omega arith) (omega arith) e)))
      (λ e. listed proper n (suc c) (p ∷ ps) a
      (λ x m. let v = w x m in record {
        from = by_bool (eqb (co_divisor x) c)
            (λ f. clash v.occurs (ap (occurs_at signs d) (eqb-true (co_divisor x) c f) ∙ e))
            (λ f. omega (arith, v.from, eqb-false (co_divisor x) c f));
        to = omega (arith, v.to);
        occurs = v.occurs;
      })
      (λ k l u. all k (omega arith) (omega arith))
      ∙ sym (from_no c (occurs_at signs d c) (occurs_from signs d (suc c) n) e))

occurrences_listed : (positions : ℕ) (d : Divisor) → Proper d → (r : Row) → Ascending r → ExponentsBelow positions r
    → occurrences d r ≡ pairs_from (sign_at r) d 0 (occurs_from (sign_at r) d 0 positions)
occurrences_listed positions d proper r a b = listed (sign_at r) d proper positions 0 (occurrences d r) (occurrences_ascend d r a)
    (λ x m. let h = occurrence_looked_up positions d r a b x (occurrence d r x m) in record { from = omega arith; to = omega (arith, h.below); occurs = h.occurs })
    (λ k l u e. all-occurrences d r (pair_at (sign_at r) d k) (pair_occurs d proper r a k e))

-- ---- lists of flags

module _ (signs : Signs) (d : Divisor) where
  pub flags-length : (c : ℕ) → length (taken_flags signs d c) ≡ c
  unfolding taken_flags
  flags-length zero = refl
  flags-length (suc c) = omega (arith, length-append (taken_flags signs d c) ((occurs_at signs d c && not (overlaps_taken d (taken_flags signs d c) c)) ∷ []), flags-length c)

  from-append : (c : ℕ) (flags others : List Bool) → pairs_from signs d c (flags ++ others) ≡ pairs_from signs d c flags ++ pairs_from signs d (c + length flags) others
  unfolding pairs_from
  from-append c [] others = ap (λ z. pairs_from signs d z others) (omega arith)
  from-append c (true ∷ flags) others = ap (λ z. pair_at signs d c ∷ z) (from-append (suc c) flags others ∙ ap (λ z. pairs_from signs d (suc c) flags ++ pairs_from signs d z others) (omega arith))
  from-append c (false ∷ flags) others = from-append (suc c) flags others ∙ ap (λ z. pairs_from signs d (suc c) flags ++ pairs_from signs d z others) (omega arith)

-- one more flag changes none of those before it, and past it there is none
pub one_more : (flags : List Bool) (flag : Bool) (i : ℕ) → (i ≡ length flags → ⊥) → get_or (flags ++ (flag ∷ [])) i false ≡ get_or flags i false
one_more [] flag zero h = absurd (h refl)
one_more [] flag (suc i) h = refl
one_more (f ∷ flags) flag zero h = refl
one_more (f ∷ flags) flag (suc i) h = one_more flags flag i (λ e. h (ap suc e))

pub one-more-false : (flags : List Bool) (i : ℕ) → get_or (flags ++ (false ∷ [])) i false ≡ get_or flags i false
one-more-false [] zero = refl
one-more-false [] (suc i) = refl
one-more-false (f ∷ flags) zero = refl
one-more-false (f ∷ flags) (suc i) = one-more-false flags i

-- ---- taking along the flags

overlaps_false : (d : Divisor) (flags : List Bool) (k : ℕ) → overlaps_taken d (flags ++ (false ∷ [])) k ≡ overlaps_taken d flags k
overlaps_false d flags k = rw one-more-false

module _ (signs : Signs) (d : Divisor) (proper : Proper d) where
  -- a later pair overlaps an earlier one exactly if it begins where that one ends
  abbrev Follows : ℕ → ℕ → Type 0
  Follows c k = (d.a ≡ d.b) × (k ≡ d.eb + c)

  overlap_follows : (c k : ℕ) → c < k → Shares (pair_at signs d k) (pair_at signs d c) → Follows c k
  overlap_follows c k l (first-first e) = absurd (omega arith)
  overlap_follows c k l (first-second e) = (e.0, ⊎_elim (λ h. absurd (omega arith)) (λ h. omega (arith, proper.lowest)) proper.ordered)
  overlap_follows c k l (second-first e) = ⊎_elim (λ h. absurd (omega arith)) (λ h. absurd (omega arith)) proper.ordered
  overlap_follows c k l (second-second e) = absurd (omega arith)

  follows_overlap : (c k : ℕ) → Follows c k → overlap (pair_at signs d k) (pair_at signs d c) ≡ true
  follows_overlap c k e = sharing (pair_at signs d k) (pair_at signs d c)
      (first-second (e.0, ⊎_elim (λ h. absurd (omega arith)) (λ h. omega (arith, proper.lowest)) proper.ordered))

  overlaps_true : (c k : ℕ) (flags : List Bool) → length flags ≡ c → Follows c k → overlaps_taken d (flags ++ (true ∷ [])) k ≡ true
  overlaps_true c k flags l e =
      let i : k - d.eb ≡ c = omega arith in
      rw (eq-eqb d.a d.b e.0, le-leb d.eb k (omega arith)) (ap (λ z. get_or (flags ++ (true ∷ [])) z false) i ∙ get_or_at flags true [] false c l)

  overlaps_other : (c k : ℕ) (flags : List Bool) → length flags ≡ c → (Follows c k → ⊥) → overlaps_taken d (flags ++ (true ∷ [])) k ≡ overlaps_taken d flags k
  overlaps_other c k flags l n = by_bool (eqb d.a d.b)
      (λ e. by_bool (leb d.eb k)
      (λ f. ap (λ z. eqb d.a d.b && (leb d.eb k && z)) (one_more flags true (k - d.eb)
      (λ i. n (eqb-true d.a d.b e, omega (arith, leb-true d.eb k f)))))
      (λ f. rw f))
      (λ e. rw e)

  -- the pairs taken before a co-divisor are known by its flags
  abbrev Known : ℕ → List Pair → Type 0
  Known c before = (k : ℕ) → c ≤ k → overlaps_any (pair_at signs d k) before ≡ overlaps_taken d (taken_flags signs d c) k

  flag : ℕ → Bool
  flag c = occurs_at signs d c && not (overlaps_taken d (taken_flags signs d c) c)

  flags-suc : (c : ℕ) (b : Bool) → flag c ≡ b → taken_flags signs d (suc c) ≡ taken_flags signs d c ++ (b ∷ [])
  unfolding taken_flags flag
  flags-suc c b e = ap (λ z. taken_flags signs d c ++ (z ∷ [])) e

  known_false : (c : ℕ) (before : List Pair) → flag c ≡ false → Known c before → Known (suc c) before
  known_false c before e known k l = known k (omega arith) ∙ sym (overlaps_false d (taken_flags signs d c) k) ∙ ap (λ z. overlaps_taken d z k) (sym (flags-suc c false e))

  known_true : (c : ℕ) (before : List Pair) → flag c ≡ true → Known c before → Known (suc c) (pair_at signs d c ∷ before)
  known_true c before e known k l = rw (flags-suc c true e) (by_bool (overlap (pair_at signs d k) (pair_at signs d c))
      (λ f. any_yes (pair_at signs d k) (pair_at signs d c) before f
      ∙ sym (overlaps_true c k (taken_flags signs d c) (flags-length signs d c) (overlap_follows c k l (shares (pair_at signs d k) (pair_at signs d c) f))))
      (λ f. any_no (pair_at signs d k) (pair_at signs d c) before f
      ∙ known k (omega arith)
      ∙ sym (overlaps_other c k (taken_flags signs d c) (flags-length signs d c) (λ g. clash (follows_overlap c k g) f))))

  from_suc : (c : ℕ) (b : Bool) → flag c ≡ b → pairs_from signs d 0 (taken_flags signs d (suc c)) ≡ pairs_from signs d 0 (taken_flags signs d c) ++ pairs_from signs d c (b ∷ [])
  from_suc c b e =
      ap (pairs_from signs d 0) (flags-suc c b e)
      ∙ from-append signs d 0 (taken_flags signs d c) (b ∷ [])
      ∙ ap (λ z. pairs_from signs d 0 (taken_flags signs d c) ++ pairs_from signs d z (b ∷ [])) (omega (arith, flags-length signs d c))

  not_flagged : (c : ℕ) (ps : List Pair) → flag c ≡ false → pairs_from signs d 0 (taken_flags signs d (suc c)) ++ ps ≡ pairs_from signs d 0 (taken_flags signs d c) ++ ps
  unfolding pairs_from
  not_flagged c ps e = ap (λ z. z ++ ps) (from_suc c false e ∙ append-nil (pairs_from signs d 0 (taken_flags signs d c)))

  flagged : (c : ℕ) (ps : List Pair) → flag c ≡ true → pairs_from signs d 0 (taken_flags signs d (suc c)) ++ ps ≡ pairs_from signs d 0 (taken_flags signs d c) ++ pair_at signs d c ∷ ps
  unfolding pairs_from
  flagged c ps e = ap (λ z. z ++ ps) (from_suc c true e) ∙ append_assoc (pairs_from signs d 0 (taken_flags signs d c)) (pair_at signs d c ∷ []) ps

  taking_along : (n c last : ℕ) → c + n ≡ last → (before : List Pair) → Known c before
      → pairs_from signs d 0 (taken_flags signs d last) ≡ pairs_from signs d 0 (taken_flags signs d c) ++ taking before (pairs_from signs d c (occurs_from signs d c n))
  unfolding taking pairs_from occurs_from flag
  taking_along zero c last l before known =
      let same : last ≡ c = omega arith in
      ap (λ z. pairs_from signs d 0 (taken_flags signs d z)) same ∙ sym (append-nil (pairs_from signs d 0 (taken_flags signs d c)))
  taking_along (suc n) c last l before known =
      let rest : List Pair = pairs_from signs d (suc c) (occurs_from signs d (suc c) n) in
      let occurs : Bool = occurs_at signs d c in
      let overlaps : Bool = overlaps_taken d (taken_flags signs d c) c in
      let here : List Pair = pairs_from signs d 0 (taken_flags signs d c) in
      let skipped : flag c ≡ false → taking before rest ≡ taking before (pairs_from signs d c (occurs ∷ occurs_from signs d (suc c) n))
      → pairs_from signs d 0 (taken_flags signs d last) ≡ here ++ taking before (pairs_from signs d c (occurs ∷ occurs_from signs d (suc c) n)) =
      λ e f. taking_along n (suc c) last (omega arith) before (known_false c before e known) ∙ not_flagged c (taking before rest) e ∙ ap (λ z. here ++ z) f in
      by_bool occurs
      (λ e. by_bool overlaps
      (λ f. skipped (rw (e, f)) (sym (ap (taking before) (from_yes signs d c occurs (occurs_from signs d (suc c) n) e) ∙ taking_yes before (pair_at signs d c) rest (known c (omega arith) ∙ f))))
      (λ f.
      let g : flag c ≡ true = rw (e, f) in
      taking_along n (suc c) last (omega arith) (pair_at signs d c ∷ before) (known_true c before g known)
      ∙ flagged c (taking (pair_at signs d c ∷ before) rest) g
      ∙ ap (λ z. here ++ z) (sym (ap (taking before) (from_yes signs d c occurs (occurs_from signs d (suc c) n) e) ∙ taking_no before (pair_at signs d c) rest (known c (omega arith) ∙ f)))))
      (λ e. skipped (rw e) (ap (taking before) (sym (from_no signs d c occurs (occurs_from signs d (suc c) n) e))))

  nothing_known : Known 0 []
  unfolding overlaps_any taken_flags
  nothing_known k l = sym (ap (λ z. eqb d.a d.b && z) (and-false (leb d.eb k)) ∙ and-false (eqb d.a d.b))

-- what is taken of a row: the looked-up pairs at the flagged co-divisors, in ascending order
pub taken_looked_up : (positions : ℕ) (d : Divisor) → Proper d → (r : Row) → Ascending r → ExponentsBelow positions r
    → taken d r ≡ pairs_from (sign_at r) d 0 (taken_flags (sign_at r) d positions)
unfolding taken pairs_from taken_flags
taken_looked_up positions d proper r a b =
    ap (taking []) (occurrences_listed positions d proper r a b)
    ∙ sym (taking_along (sign_at r) d proper positions 0 positions (omega arith) [] (nothing_known (sign_at r) d proper))

-- ---- scores

count-from : (signs : Signs) (d : Divisor) (c : ℕ) (flags : List Bool) → length (pairs_from signs d c flags) ≡ count_true flags
unfolding pairs_from count_true
count-from signs d c [] = refl
count-from signs d c (true ∷ flags) = ap suc (count-from signs d (suc c) flags)
count-from signs d c (false ∷ flags) = count-from signs d (suc c) flags

pub taken-count : (positions : ℕ) (d : Divisor) → Proper d → (r : Row) → Ascending r → ExponentsBelow positions r
    → length (taken d r) ≡ count_true (taken_flags (sign_at r) d positions)
taken-count positions d proper r a b = ap length (taken_looked_up positions d proper r a b) ∙ count-from (sign_at r) d 0 (taken_flags (sign_at r) d positions)
