-- A table of rows is no longer than the list of the rows' pairs, and rows of limited length have few pairs.
-- Assumes nothing.
use Prim.Native.Nat.{ℕ, zero, suc, ◌+◌, ◌*◌, ◌-◌, ◌/◌, ◌≤◌}
use mathlib.Core.Path.{◌≡◌, refl, sym, ◌∙◌, ap}
use mathlib.Core.Logic.{◌⊎◌, inl, inr, ⊎_elim}
use mathlib.Core.List.Memᴰ
use mathlib.Core.List.{List, [], ◌∷◌, ◌++◌, Memᴰ}
use native.Mathlib.Nat.{suc-mul, mul-suc, mul-le-mul, le-div_iff_mul-le}
use native.Mathlib.Omega.{arith}
use lib.ListN.{length, length-append}
use Rattle.term.specs.declared.Term.{Term}
use Rattle.elimination_rules.specs.Rows.{Row, EachRow}
use Rattle.elimination_rules.specs.Divisors.{Pair, divisor_of, pairs_with, pairs_of}
use Rattle.elimination_rules.specs.Elimination.{Scored, all_pairs}
use Rattle.kept_rules.specs.Kept.{Once, Kept}
use Rattle.kept_rules.proofs.Table.{entry_pair}

-- ---- no more entries than pairs

-- a list without one of its members
removed : (p : Pair) (ps : List Pair) → Memᴰ p ps
    → (rest : List Pair) × (length ps ≡ suc (length rest)) × ((q : Pair) → Memᴰ q ps → (q ≡ p) ⊎ Memᴰ q rest)
removed p [] m = absurd (Memᴰ.not-nil m)
removed p (x ∷ ps) m = ⊎_elim
    (λ w. (ps, refl, λ q k. ⊎_elim (λ v. inl (v ∙ sym w)) inr (Memᴰ.cases_cons k)))
    (λ l.
    let h = removed p ps l in (
      x ∷ h.0,
      ap suc h.1,
      λ q k. ⊎_elim (λ v. inr (Memᴰ.head v)) (λ n. ⊎_elim inl (λ y. inr (Memᴰ.tail y)) (h.2 q n)) (Memᴰ.cases_cons k),
    ))
    (Memᴰ.cases_cons m)

-- entries for different divisors, each the divisor of one of the pairs
entries-few : (table : List Scored) → Once table → (ps : List Pair) → ((s : Scored) → Memᴰ s table → (p : Pair) × Memᴰ p ps × (divisor_of p ≡ s.divisor))
    → length table ≤ length ps
entries-few [] once ps h = omega arith
entries-few (s ∷ table) once ps h =
    let x = h s (Memᴰ.head refl) in
    let y = removed x.0 ps x.1 in
    let few : length table ≤ length y.0 = entries-few table once.1 y.0 (λ t m.
    let z = h t (Memᴰ.tail m) in
    ⊎_elim
    (λ w. absurd (once.0 t m (sym x.2 ∙ ap divisor_of (sym w) ∙ z.2)))
    (λ k. (z.0, k, z.2))
    (y.2 z.0 z.1)) in
    omega (arith, few, y.1)

pub table-few : (rows : List Row) (table : List Scored) → Kept rows table → length table ≤ length (all_pairs rows)
table-few rows table kept = entries-few table kept.once (all_pairs rows) (entry_pair rows table kept)

-- ---- few pairs

with_length : (t : Term) (r : Row) → length (pairs_with t r) ≡ length r
unfolding pairs_with
with_length t [] = refl
with_length t (u ∷ r) = ap suc (with_length t r)

-- half the product of a row's length and the one below it
pairs_length : (r : Row) → length (pairs_of r) * 2 ≡ length r * (length r - 1)
unfolding pairs_of
pairs_length [] = refl
pairs_length (t ∷ r) =
    let both : length (pairs_with t r ++ pairs_of r) ≡ length (pairs_with t r) + length (pairs_of r) = length-append (pairs_with t r) (pairs_of r) in
    omega (arith, both, with_length t r, pairs_length r, next_product (length r))
  where
    one_below : (n : ℕ) → suc n * (suc n - 1) ≡ suc n * n
    one_below n = let same : suc n - 1 ≡ n = omega arith in ap (λ (k : ℕ). suc n * k) same

    next_product : (n : ℕ) → suc n * (suc n - 1) ≡ n * (n - 1) + n * 2
    next_product zero = refl
    next_product (suc n) = omega (arith, one_below (suc n), one_below n, suc-mul (suc n) (suc n), mul-suc (suc n) n)

row_pairs_few : (most : ℕ) (r : Row) → length r ≤ most → length (pairs_of r) ≤ most * (most - 1) / 2
row_pairs_few most r h =
    let below : length r - 1 ≤ most - 1 = omega arith in
    let product : length r * (length r - 1) ≤ most * (most - 1) = mul-le-mul h below in
    let twice : length (pairs_of r) * 2 ≤ most * (most - 1) = omega (arith, product, pairs_length r) in
    (le-div_iff_mul-le {k = 2} {x = length (pairs_of r)} {y = most * (most - 1)} (omega arith)).1 twice

pub pairs_few : (most : ℕ) (rows : List Row) → EachRow (λ r. length r ≤ most) rows → length (all_pairs rows) ≤ length rows * (most * (most - 1) / 2)
unfolding all_pairs
pairs_few most [] h = omega arith
pairs_few most (r ∷ rows) h =
    let each : ℕ = most * (most - 1) / 2 in
    let both : length (pairs_of r ++ all_pairs rows) ≡ length (pairs_of r) + length (all_pairs rows) = length-append (pairs_of r) (all_pairs rows) in
    let product : suc (length rows) * each ≡ length rows * each + each = suc-mul (length rows) each in
    omega (arith, both, row_pairs_few most r h.0, pairs_few most rows h.1, product)
