-- The order among equal scores. By a strict total order the pick is the first of those with the highest score, and nothing else is
-- the pick, whatever the order in which pairs are visited. The order of elimination is such an order, whatever divisors were made.
-- Assumes nothing.
use Prim.Native.Nat.{ℕ, ◌≤◌, ◌<◌}
use mathlib.Core.Path.{◌≡◌, refl, sym, ◌∙◌, ap}
use mathlib.Core.Logic.{◌⊎◌, inl, inr, ⊎_elim, ◌↔◌}
use mathlib.Core.Bool.{Bool, true, false, not, ◌&&◌, true≢false, false≢true}
use mathlib.Core.List.Memᴰ
use mathlib.Core.List.{List, [], ◌∷◌, Memᴰ}
use native.Mathlib.Omega.{arith}
use lib.Dec.{ltb}
use borrow.Author.Tests.{ltb-true, ltb-false, not-true}
use Rattle.elimination_rules.specs.declared.Divisor.{Divisor}
use Rattle.elimination_rules.specs.Rows.{Row}
use Rattle.elimination_rules.specs.Divisors.{Pair, divisor_of, score}
use Rattle.elimination_rules.specs.Elimination.{divisor_depth, symbol_depths, before, shallower, shallowest_first, Scored, scored, better, best_from, all_pairs, no_pairs, best_of, pick}
use Rattle.elimination_rules.proofs.Tests.{by_bool, clash, and_left, and_right, and_both}
use Rattle.elimination_rules.proofs.Smaller.{Smaller, smaller_as, as_smaller, smaller_self, smaller_transitive, smaller-total}
use Rattle.elimination_rules.proofs.Order.{score_occurs}
use Rattle.elimination_rules.proofs.Pick.{all_pairs_lem, better_yes, better_no, NotWorse, best-is, pick_is}

pub record StrictTotal (first : Divisor → Divisor → Bool) : Type 0 where
  pub irreflexive : (d : Divisor) → first d d ≡ false
  pub transitive : (d e f : Divisor) → first d e ≡ true → first e f ≡ true → first d f ≡ true
  pub total : (d e : Divisor) → first d e ≡ false → (d ≡ e) ⊎ (first e d ≡ true)

module _ (first : Divisor → Divisor → Bool) (order : StrictTotal first) where
  not_worse_self : (s : Scored) → NotWorse first s s
  not_worse_self s = inr (refl, order.irreflexive s.divisor)

  -- what is not before e, which is not before f, is not before f
  not-before : (d e f : Divisor) → first d e ≡ false → first e f ≡ false → first d f ≡ false
  not-before d e f h k = by_bool (first d f)
      (λ t. ⊎_elim
      (λ w. clash (ap (λ x. first x f) (sym w) ∙ t) k)
      (λ r. clash (order.transitive e d f r t) k)
      (order.total d e h))
      (λ t. t)

  not_worse : (b s t : Scored) → NotWorse first b s → (t.score < s.score) ⊎ ((t.score ≡ s.score) × (first t.divisor s.divisor ≡ false)) → NotWorse first b t
  not_worse b s t (inl h) (inl k) = inl (omega arith)
  not_worse b s t (inl h) (inr k) = inl (omega arith)
  not_worse b s t (inr h) (inl k) = inl (omega arith)
  not_worse b s t (inr h) (inr k) = inr (k.0 ∙ h.0, not-before t.divisor s.divisor b.divisor k.1 h.1)

  -- what the better one beats
  beaten : (s t : Scored) → better first t s ≡ true → (s.score < t.score) ⊎ ((s.score ≡ t.score) × (first s.divisor t.divisor ≡ false))
  beaten s t e = ⊎_elim
      inl
      (λ h. inr (
        sym h.0,
        by_bool (first s.divisor t.divisor)
            (λ k. clash (order.transitive s.divisor t.divisor s.divisor k h.1) (order.irreflexive s.divisor))
            (λ k. k),
      ))
      (better_yes first t s e)

  kept : (s t : Scored) → better first t s ≡ false → (t.score < s.score) ⊎ ((t.score ≡ s.score) × (first t.divisor s.divisor ≡ false))
  kept s t e = let h = better_no first t s e in by_bool (ltb t.score s.score)
      (λ k. inl (ltb-true t.score s.score k))
      (λ k. let q : t.score ≡ s.score = omega (arith, h.0, ltb-false t.score s.score k) in inr (q, h.1 q))

  module _ (rows : List Row) where
    best-from-first : (s : Scored) (ps : List Pair) → NotWorse first (best_from first rows s ps) s × ((p : Pair) → Memᴰ p ps → NotWorse first (best_from first rows s ps) (scored rows p))
    unfolding best_from
    best-from-first s [] = (not_worse_self s, λ p m. absurd (Memᴰ.not-nil m))
    best-from-first s (q ∷ ps) = by_bool (better first (scored rows q) s)
        (λ e. rw (e, best_from) (
        let b : Scored = best_from first rows (scored rows q) ps in
        let h = best-from-first (scored rows q) ps in (
          not_worse b (scored rows q) s h.0 (beaten s (scored rows q) e),
          λ p m. ⊎_elim (λ w. rw w h.0) (λ k. h.1 p k) (Memᴰ.cases_cons m),
        )
        ))
        (λ e. rw (e, best_from) (
        let b : Scored = best_from first rows s ps in
        let h = best-from-first s ps in (
          h.0,
          λ p m. ⊎_elim (λ w. rw w (not_worse b s (scored rows q) h.0 (kept s (scored rows q) e))) (λ k. h.1 p k) (Memᴰ.cases_cons m),
        )
        ))

    best-first : (ps : List Pair) (p : Pair) → Memᴰ p ps → NotWorse first (best_of first rows ps) (scored rows p)
    unfolding best_of
    best-first [] p m = absurd (Memᴰ.not-nil m)
    best-first (q ∷ ps) p m = let h = best-from-first (scored rows q) ps in ⊎_elim (λ w. rw w h.0) (λ k. h.1 p k) (Memᴰ.cases_cons m)

    -- the highest score, and of equal scores the first
    pub pick_first : (p : Pair) → Memᴰ p (all_pairs rows) → NotWorse first (pick first rows) (scored rows p)
    unfolding pick
    pick_first p m = best-first (all_pairs rows) p m

    -- and nothing else is that
    same-divisors : (s t : Scored) → NotWorse first s t → NotWorse first t s → s ≡ t
    same-divisors s t (inl h) (inl k) = absurd (omega arith)
    same-divisors s t (inl h) (inr k) = absurd (omega arith)
    same-divisors s t (inr h) (inl k) = absurd (omega arith)
    same-divisors s t (inr h) (inr k) = ⊎_elim
        (λ (w : s.divisor ≡ t.divisor). λ i. record { divisor = w i; score = k.0 i })
        (λ r. clash r h.1)
        (order.total s.divisor t.divisor k.1)

    pub only-pick : (q : Pair) → Memᴰ q (all_pairs rows) → ((p : Pair) → Memᴰ p (all_pairs rows) → NotWorse first (scored rows q) (scored rows p)) → pick first rows ≡ scored rows q
    only-pick q m h = ⊎_elim
        (λ e. absurd (Memᴰ.not-nil (rw e.0 at m)))
        (λ e. e.2 ∙ same-divisors (scored rows e.0) (scored rows q) (rw e.2 at (pick_first q m)) (h e.0 e.1))
        (pick_is first rows)

    -- whatever the order in which pairs are visited
    pub visited_any_way : (ps : List Pair) → ((p : Pair) → Memᴰ p ps → Memᴰ p (all_pairs rows)) → ((p : Pair) → Memᴰ p (all_pairs rows) → Memᴰ p ps)
        → best_of first rows ps ≡ pick first rows
    visited_any_way ps within all = ⊎_elim
        (λ e. e.1 ∙ none e.0)
        (λ e. e.2 ∙ sym (only-pick e.0 (within e.0 e.1) (λ p m. rw e.2 at (best-first ps p (all p m)))))
        (best-is first rows ps)
      where
        none : ps ≡ [] → no_pairs ≡ pick first rows
        none e = ⊎_elim (λ h. sym h.1) (λ h. absurd (Memᴰ.not-nil (rw e at (all h.0 h.1)))) (pick_is first rows)

    -- every other divisor that occurs has a lower score, or the same and goes behind the pick
    pub pick-only : (d : Divisor) → 1 ≤ score d rows
        → (d ≡ (pick first rows).divisor) ⊎ ((score d rows < (pick first rows).score) ⊎ ((score d rows ≡ (pick first rows).score) × (first (pick first rows).divisor d ≡ true)))
    pick-only d h =
        let x = score_occurs d rows h in
        let p : Pair = x.2.0 in
        let e : divisor_of p ≡ d = x.2.1.divisor in
        rw (← e) (⊎_elim
        (λ l. inr (inl l))
        (λ l. ⊎_elim inl (λ r. inr (inr (l.0, r))) (order.total (divisor_of p) (pick first rows).divisor l.1))
        (pick_first p (all_pairs_lem x.0 rows x.1 p x.2.1.pair)))

-- ---- the smallest a, then b, then ea, then eb, then plus before minus

abbrev pub Before : Divisor → Divisor → Type 0
Before d e = Smaller d.a e.a (Smaller d.b e.b (Smaller d.ea e.ea (Smaller d.eb e.eb ((d.minus ≡ false) × (e.minus ≡ true)))))

pub before-is : (d e : Divisor) → (before d e ≡ true) ↔ Before d e
before-is d e = (
  smaller_as d.a e.a _ (smaller_as d.b e.b _ (smaller_as d.ea e.ea _ (smaller_as d.eb e.eb _
      (λ h. (not-true d.minus (and_left (not d.minus) e.minus h), and_right (not d.minus) e.minus h))))),
  as_smaller d.a e.a _ (as_smaller d.b e.b _ (as_smaller d.ea e.ea _ (as_smaller d.eb e.eb _
      (λ h. and_both (not d.minus) e.minus (ap not h.0) h.1)))),
)

plus_first_self : (m : Bool) → not m && m ≡ false
plus_first_self true = refl
plus_first_self false = refl

plus_first_transitive : (l m n : Bool) → not l && m ≡ true → not m && n ≡ true → not l && n ≡ true
plus_first_transitive true m n h k = h
plus_first_transitive false true n h k = absurd (false≢true k)
plus_first_transitive false false n h k = k

plus_first-total : (m n : Bool) → not m && n ≡ false → (m ≡ n) ⊎ (not n && m ≡ true)
plus_first-total true true h = inl refl
plus_first-total true false h = inr refl
plus_first-total false true h = absurd (true≢false h)
plus_first-total false false h = inl refl

pub before-order : StrictTotal before
before-order = record {
  irreflexive = λ d. smaller_self d.a _ (smaller_self d.b _ (smaller_self d.ea _ (smaller_self d.eb _ (plus_first_self d.minus))));
  transitive = λ d e f.
      smaller_transitive d.a e.a f.a _ _ _
      (smaller_transitive d.b e.b f.b _ _ _
      (smaller_transitive d.ea e.ea f.ea _ _ _
      (smaller_transitive d.eb e.eb f.eb _ _ _ (plus_first_transitive d.minus e.minus f.minus))));
  total = λ d e h. ⊎_elim
      (λ w. inl (λ i. record { a = w.0 i; b = w.1.0 i; ea = w.1.1.0 i; eb = w.1.1.1.0 i; minus = w.1.1.1.1 i }))
      inr
      (smaller-total d.a e.a _ _
      (smaller-total d.b e.b _ _
      (smaller-total d.ea e.ea _ _
      (smaller-total d.eb e.eb _ _ (plus_first-total d.minus e.minus)))) h);
}

-- ---- the order of elimination: the smallest depth, then the smallest a, and so on

module _ (depths : List ℕ) where
  abbrev pub Shallower : Divisor → Divisor → Type 0
  Shallower d e = Smaller (divisor_depth depths d) (divisor_depth depths e) (Before d e)

  pub shallower-is : (d e : Divisor) → (shallower depths d e ≡ true) ↔ Shallower d e
  shallower-is d e = (
    smaller_as (divisor_depth depths d) (divisor_depth depths e) _ (before-is d e).0,
    as_smaller (divisor_depth depths d) (divisor_depth depths e) _ (before-is d e).1,
  )

  pub shallower-order : StrictTotal (shallower depths)
  shallower-order = record {
    irreflexive = λ d. smaller_self (divisor_depth depths d) _ (before-order.irreflexive d);
    transitive = λ d e f. smaller_transitive (divisor_depth depths d) (divisor_depth depths e) (divisor_depth depths f) _ _ _ (before-order.transitive d e f);
    total = λ d e h. ⊎_elim (λ w. inl w.1) inr (smaller-total (divisor_depth depths d) (divisor_depth depths e) _ _ (before-order.total d e) h);
  }

  -- what is picked: nothing where there is no pair, else the divisor of a pair with its score, such that every other divisor that occurs has a
  -- lower score, or the same and a larger depth, or the same of both and goes behind it by a, b, ea, eb and sign
  pub record Picked (rows : List Row) (best : Scored) : Type 0 where
    pub of-a-pair : ((all_pairs rows ≡ []) × (best ≡ no_pairs)) ⊎ ((p : Pair) × Memᴰ p (all_pairs rows) × (best ≡ scored rows p))
    pub goes_first : (d : Divisor) → 1 ≤ score d rows
        → (d ≡ best.divisor) ⊎ ((score d rows < best.score) ⊎ ((score d rows ≡ best.score) × Shallower best.divisor d))

module _ (inputs : ℕ) (made : List Divisor) where
  pub shallowest_first-order : StrictTotal (shallowest_first inputs made)
  unfolding shallowest_first
  shallowest_first-order = shallower-order (symbol_depths inputs made)

  pub shallowest_pick : (rows : List Row) → Picked (symbol_depths inputs made) rows (pick (shallowest_first inputs made) rows)
  unfolding shallowest_first
  shallowest_pick rows =
      let depths : List ℕ = symbol_depths inputs made in
      record {
        of-a-pair = pick_is (shallower depths) rows;
        goes_first = λ d h. ⊎_elim
            inl
            (λ r. inr (⊎_elim inl (λ l. inr (l.0, (shallower-is depths (pick (shallower depths) rows).divisor d).0 l.1)) r))
            (pick-only (shallower depths) (shallower-order depths) rows d h);
      }

  -- whatever the order in which pairs are visited
  pub shallowest_visited : (rows : List Row) (ps : List Pair)
      → ((p : Pair) → Memᴰ p ps → Memᴰ p (all_pairs rows)) → ((p : Pair) → Memᴰ p (all_pairs rows) → Memᴰ p ps)
      → best_of (shallowest_first inputs made) rows ps ≡ pick (shallowest_first inputs made) rows
  shallowest_visited = visited_any_way (shallowest_first inputs made) shallowest_first-order
