-- What the claim's sentence on the remaining rows says of scores: every divisor's is below 2, whether it became an operation or not.
-- It is drawn from that sentence alone: one that spoke of fewer divisors would not give it.
-- Assumes nothing.
use Prim.Native.Nat.{ℕ, suc, ◌<◌}
use mathlib.Core.Path.{◌≡◌, refl, sym, ap, subst}
use mathlib.Core.List.{List, [], ◌∷◌, Memᴰ}
use native.Mathlib.Omega.{arith}
use native.Mathlib.Decide.{dec_lt}
use lib.IntN.{ℤ}
use lib.ListN.{length, get_or}
use Rattle.elimination_rules.specs.declared.Divisor.{Divisor}
use Rattle.elimination_rules.specs.Rows.{Row}
use Rattle.elimination_rules.specs.Divisors.{Pair, occurrences, taken, score}
use Rattle.elimination_rules.proofs.Tests.{clash}
use Rattle.elimination_rules.proofs.RowOrder.{all-occurrences}
use Rattle.elimination_rules.proofs.Taken.{NoOverlap, taken-apart, taken_occurrence}
use Rattle.bank_rules.specs.declared.Answers.{Answers}
use Rattle.bank_rules.specs.Claim.{Overlap, Claim}

module _ (d : Divisor) where
  abbrev OccurIn : List Row → ℕ → Pair → Type 0
  OccurIn rows i p = Memᴰ p (occurrences d (get_or rows i []))

  abbrev AllOverlap : List Row → Type 0
  AllOverlap rows = (i j : ℕ) (p q : Pair) → OccurIn rows i p → OccurIn rows j q → Overlap i p j q

  first_taken : (r : Row) (p : Pair) (ps : List Pair) → taken d r ≡ p ∷ ps → Memᴰ p (occurrences d r)
  first_taken r p ps e = all-occurrences d r p (taken_occurrence d r p (subst (λ (qs : List Pair). Memᴰ p qs) (sym e) (Memᴰ.head refl)))

  second-taken : (r : Row) (p q : Pair) (ps : List Pair) → taken d r ≡ p ∷ q ∷ ps → Memᴰ q (occurrences d r)
  second-taken r p q ps e = all-occurrences d r q (taken_occurrence d r q (subst (λ (qs : List Pair). Memᴰ q qs) (sym e) (Memᴰ.tail (Memᴰ.head refl))))

  -- where the score is not 0, there is an occurrence
  some_occur : (rows : List Row) → 0 < score d rows → (j : ℕ) × (q : Pair) × OccurIn rows j q
  unfolding score
  some_occur [] h = absurd (omega arith)
  some_occur (r ∷ rows) h = go (taken d r) refl (some_occur rows)
    where
      go : (ps : List Pair) → taken d r ≡ ps → (0 < score d rows → (j : ℕ) × (q : Pair) × OccurIn rows j q) → (j : ℕ) × (q : Pair) × OccurIn (r ∷ rows) j q
      go [] e rest = let m = rest (omega (arith, ap length e)) in (suc m.0, m.1, m.2)
      go (p ∷ ps) e rest = (0, p, first_taken r p ps e)

  below_two : (rows : List Row) → AllOverlap rows → score d rows < 2
  unfolding score
  below_two [] all = omega arith
  below_two (r ∷ rows) all = go (taken d r) refl (below_two rows (λ i j p q m k. let o = all (suc i) (suc j) p q m k in (omega (arith, o.0), o.1)))
    where
      go : (ps : List Pair) → taken d r ≡ ps → score d rows < 2 → score d (r ∷ rows) < 2
      go [] e rest = omega (arith, ap length e)
      go (p ∷ []) e rest = others (dec_lt 0 (score d rows))
        where
          others : Dec (0 < score d rows) → score d (r ∷ rows) < 2
          others (yes h) = let m = some_occur rows h in absurd (omega (arith, (all 0 (suc m.0) p m.1 (first_taken r p [] e) m.2).0))
          others (no h) = omega (arith, ap length e)
      go (p ∷ q ∷ ps) e rest =
          let apart = subst NoOverlap e (taken-apart d r) in
          clash (all 0 0 q p (second-taken r p q ps e) (first_taken r p (q ∷ ps) e)).1 (apart.0 q (Memᴰ.head refl))

pub scores-below_two : (s : ℕ) (matrix_bytes buffer : List ℕ) (samples outputs : List ℤ) (answers : Answers)
    → (claim : Claim s matrix_bytes buffer samples outputs answers) (d : Divisor) → score d claim.elimination.remaining_rows < 2
scores-below_two s matrix_bytes buffer samples outputs answers claim d =
    below_two d claim.elimination.remaining_rows (λ i j p q first second. claim.occurrences-overlap d i j p q first second)
