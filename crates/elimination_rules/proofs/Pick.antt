-- The pick's score is that of its divisor, and no divisor has a higher one, by any order. Orders that agree on the divisors of the rows'
-- pairs have the same pick.
-- Assumes nothing.
use Prim.Native.Nat.{◌≤◌, ◌<◌}
use mathlib.Core.Path.{◌≡◌, refl, sym, ◌∙◌, ap, ap₂}
use mathlib.Core.Logic.{◌⊎◌, inl, inr, ⊎_elim}
use mathlib.Core.Bool.{Bool, true, false, ◌&&◌, ◌||◌}
use mathlib.Core.List.{List, [], ◌∷◌, Memᴰ}
use native.Mathlib.Omega.{arith}
use lib.Dec.{eqb, ltb}
use borrow.Author.Tests.{eqb-true, eq-eqb, ltb-true, ltb-false}
use Rattle.elimination_rules.specs.declared.Divisor.{Divisor}
use Rattle.elimination_rules.specs.Rows.{Row}
use Rattle.elimination_rules.specs.Divisors.{Pair, divisor_of, pairs_of, score}
use Rattle.elimination_rules.specs.Elimination.{Scored, scored, better, best_from, best_of, all_pairs, no_pairs, pick}
use Rattle.elimination_rules.proofs.Tests.{by_bool, clash, and_left, and_both, or_right, or_no_left, or_cases, and_right}
use Rattle.elimination_rules.proofs.Order.{score_occurs}

pub all_pairs_lem : (r : Row) (rows : List Row) → Memᴰ r rows → (p : Pair) → Memᴰ p (pairs_of r) → Memᴰ p (all_pairs rows)
unfolding all_pairs
all_pairs_lem r [] m p k = absurd (mathlib.Core.List.Memᴰ.not-nil m)
all_pairs_lem r (q ∷ rows) m p k = ⊎_elim
    (λ w. mathlib.Core.List.Memᴰ.append_left (all_pairs rows) (rw w at k))
    (λ l. mathlib.Core.List.Memᴰ.append_right (pairs_of q) (all_pairs_lem r rows l p k))
    (mathlib.Core.List.Memᴰ.cases_cons m)

module _ (first : Divisor → Divisor → Bool) where
  pub better_yes : (s t : Scored) → better first s t ≡ true → (t.score < s.score) ⊎ ((s.score ≡ t.score) × (first s.divisor t.divisor ≡ true))
  better_yes s t h = ⊎_elim
      (λ l. inl (ltb-true t.score s.score l))
      (λ r. inr (
        eqb-true s.score t.score (and_left _ (first s.divisor t.divisor) r),
        and_right (eqb s.score t.score) (first s.divisor t.divisor) r,
      ))
      (or_cases (ltb t.score s.score) (eqb s.score t.score && first s.divisor t.divisor) h)

  pub better_no : (s t : Scored) → better first s t ≡ false → (s.score ≤ t.score) × (s.score ≡ t.score → first s.divisor t.divisor ≡ false)
  better_no s t h = (
    ltb-false t.score s.score (or_no_left _ (eqb s.score t.score && first s.divisor t.divisor) h),
    λ e. by_bool (first s.divisor t.divisor)
        (λ f. clash
        (or_right (ltb t.score s.score) (eqb s.score t.score && first s.divisor t.divisor) (and_both (eqb s.score t.score) (first s.divisor t.divisor) (eq-eqb s.score t.score e) f)) h)
        (λ f. f),
  )

  -- x is not worse than s: it has a higher score, or the same and s is not before it
  abbrev pub NotWorse : Scored → Scored → Type 0
  NotWorse x s = (s.score < x.score) ⊎ ((s.score ≡ x.score) × (first s.divisor x.divisor ≡ false))

  module _ (rows : List Row) where
    -- the best is one of those looked at
    best-from-is : (s : Scored) (ps : List Pair) → (best_from first rows s ps ≡ s) ⊎ ((p : Pair) × Memᴰ p ps × (best_from first rows s ps ≡ scored rows p))
    unfolding best_from
    best-from-is s [] = inl refl
    best-from-is s (p ∷ ps) = by_bool (better first (scored rows p) s)
        (λ e. rw (e, best_from) (⊎_elim
        (λ h. inr (p, mathlib.Core.List.Memᴰ.head refl, h))
        (λ h. inr (h.0, mathlib.Core.List.Memᴰ.tail h.1, h.2))
        (best-from-is (scored rows p) ps)))
        (λ e. rw (e, best_from) (⊎_elim inl (λ h. inr (h.0, mathlib.Core.List.Memᴰ.tail h.1, h.2)) (best-from-is s ps)))

    best-from-highest : (s : Scored) (ps : List Pair) → (s.score ≤ (best_from first rows s ps).score) × ((p : Pair) → Memᴰ p ps → score (divisor_of p) rows ≤ (best_from first rows s ps).score)
    unfolding best_from
    best-from-highest s [] = (omega arith, λ p m. absurd (mathlib.Core.List.Memᴰ.not-nil m))
    best-from-highest s (q ∷ ps) = by_bool (better first (scored rows q) s)
        (λ e. rw (e, best_from) (
        let h = best-from-highest (scored rows q) ps in (
          ⊎_elim (λ l. omega (arith, h.0)) (λ l. omega (arith, h.0)) (better_yes (scored rows q) s e),
          λ p m. ⊎_elim (λ w. omega (arith, ap (λ x. score (divisor_of x) rows) w, h.0)) (λ k. h.1 p k) (mathlib.Core.List.Memᴰ.cases_cons m),
        )
        ))
        (λ e. rw (e, best_from) (
        let h = best-from-highest s ps in (
          h.0,
          λ p m. ⊎_elim
              (λ w. omega (arith, ap (λ x. score (divisor_of x) rows) w, (better_no (scored rows q) s e).0, h.0)) (λ k. h.1 p k) (mathlib.Core.List.Memᴰ.cases_cons m),
        )
        ))

    -- the pick is the scored divisor of one of the pairs, unless there is none
    pub best-is : (ps : List Pair) → ((ps ≡ []) × (best_of first rows ps ≡ no_pairs)) ⊎ ((p : Pair) × Memᴰ p ps × (best_of first rows ps ≡ scored rows p))
    unfolding best_of
    best-is [] = inl (refl, refl)
    best-is (p ∷ ps) = inr (⊎_elim
        (λ h. (p, mathlib.Core.List.Memᴰ.head refl, h))
        (λ h. (h.0, mathlib.Core.List.Memᴰ.tail h.1, h.2))
        (best-from-is (scored rows p) ps))

    best-highest : (ps : List Pair) (p : Pair) → Memᴰ p ps → score (divisor_of p) rows ≤ (best_of first rows ps).score
    unfolding best_of
    best-highest [] p m = absurd (mathlib.Core.List.Memᴰ.not-nil m)
    best-highest (q ∷ ps) p m = let h = best-from-highest (scored rows q) ps in ⊎_elim
        (λ w. omega (arith, ap (λ x. score (divisor_of x) rows) w, h.0))
        (λ k. h.1 p k)
        (mathlib.Core.List.Memᴰ.cases_cons m)

    pub pick_is : ((all_pairs rows ≡ []) × (pick first rows ≡ no_pairs)) ⊎ ((p : Pair) × Memᴰ p (all_pairs rows) × (pick first rows ≡ scored rows p))
    unfolding pick
    pick_is = best-is (all_pairs rows)

    -- no divisor's score is above the pick's
    pub pick-highest : (d : Divisor) → score d rows ≤ (pick first rows).score
    unfolding pick
    pick-highest d = by_bool (ltb (score d rows) 1)
        (λ e. omega (arith, ltb-true (score d rows) 1 e))
        (λ e. let x = score_occurs d rows (ltb-false (score d rows) 1 e) in
        let p : Pair = x.2.0 in
        omega (
          arith,
          ap (λ y. score y rows) x.2.1.divisor,
          best-highest (all_pairs rows) p (all_pairs_lem x.0 rows x.1 p x.2.1.pair),
        ))

    -- a pick that is carried out has the score of its divisor
    pub pick-score : 2 ≤ (pick first rows).score → (pick first rows).score ≡ score (pick first rows).divisor rows
    unfolding no_pairs
    pick-score h = ⊎_elim
        (λ e. absurd (omega (arith, ap (λ x. x.score) e.1)))
        (λ e. ap (λ x. x.score) e.2 ∙ ap (λ x. score x.divisor rows) (sym e.2))
        pick_is

-- ---- two orders that agree on the divisors of the rows' pairs

module _ (first second : Divisor → Divisor → Bool) (rows : List Row)
    (agree : (p q : Pair) → Memᴰ p (all_pairs rows) → Memᴰ q (all_pairs rows) → first (divisor_of p) (divisor_of q) ≡ second (divisor_of p) (divisor_of q)) where
  best-from_agrees : (q : Pair) (ps : List Pair) → Memᴰ q (all_pairs rows) → ((p : Pair) → Memᴰ p ps → Memᴰ p (all_pairs rows))
      → best_from first rows (scored rows q) ps ≡ best_from second rows (scored rows q) ps
  unfolding best_from
  best-from_agrees q [] m within = refl
  best-from_agrees q (p ∷ ps) m within =
      let s : Scored = scored rows q in
      let t : Scored = scored rows p in
      let k : Memᴰ p (all_pairs rows) = within p (mathlib.Core.List.Memᴰ.head refl) in
      let rest : (x : Pair) → Memᴰ x ps → Memᴰ x (all_pairs rows) = λ x l. within x (mathlib.Core.List.Memᴰ.tail l) in
      ap {B = Scored} (λ (b : Bool). elim (ltb s.score t.score || (eqb t.score s.score && b)) [ true ↦ best_from first rows t ps | false ↦ best_from first rows s ps ]) (agree p q k m)
      ∙ ap₂ {C = Scored} (λ x y. elim (better second t s) [ true ↦ x | false ↦ y ]) (best-from_agrees p ps k rest) (best-from_agrees q ps m rest)

  best_agrees : (ps : List Pair) → ((p : Pair) → Memᴰ p ps → Memᴰ p (all_pairs rows)) → best_of first rows ps ≡ best_of second rows ps
  unfolding best_of
  best_agrees [] within = refl
  best_agrees (p ∷ ps) within = best-from_agrees p ps (within p (mathlib.Core.List.Memᴰ.head refl)) (λ x l. within x (mathlib.Core.List.Memᴰ.tail l))

  pub pick_agrees : pick first rows ≡ pick second rows
  unfolding pick
  pick_agrees = best_agrees (all_pairs rows) (λ p m. m)
