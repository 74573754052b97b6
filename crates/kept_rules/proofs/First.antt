-- The first occurrence of a divisor, by row, then by co-divisor: a divisor with a score has one, and no two.
-- Assumes nothing.
use Prim.Native.Nat.{ℕ, zero, suc, ◌≤◌, ◌<◌}
use mathlib.Core.Path.{◌≡◌, refl, sym, ◌∙◌, ap}
use mathlib.Core.Logic.{⊎_elim}
use mathlib.Core.Bool.{Bool, true, false, not, ◌&&◌}
use mathlib.Core.List.Memᴰ
use mathlib.Core.List.{List, [], ◌∷◌, Memᴰ}
use native.Mathlib.Omega.{arith}
use lib.Dec.{eqb}
use lib.ListN.{length}
use borrow.Author.Tests.{eqb-true, eqb-false, not-true, not-false}
use Rattle.elimination_rules.specs.declared.Divisor.{Divisor}
use Rattle.elimination_rules.specs.Rows.{Row, WellFormed, EachRow}
use Rattle.elimination_rules.specs.Divisors.{Pair, co_divisor, divisor_of, score}
use Rattle.elimination_rules.specs.Visit.{InRow}
use Rattle.elimination_rules.specs.Lookup.{Proper, Signs, occurs_at, pair_at}
use Rattle.elimination_rules.proofs.Tests.{by_bool, clash, and_left, and_right, and_both}
use Rattle.elimination_rules.proofs.RowOrder.{row_at, Occurrence}
use Rattle.elimination_rules.proofs.Order.{score_occurs, each_row}
use Rattle.elimination_rules.proofs.LookupSigns.{pair_co_divisor, pair_occurs, LookedUp, occurrence_looked_up}
use Rattle.elimination_rules.proofs.PairScores.{scored-proper}
use Rattle.kept_rules.specs.Kept.{signs_in, occurs_nowhere, occurs_in_none, is_first}

-- ---- a test of each of the first numbers: all pass, or there is a first one that fails

-- where a conjunction fails and its right side holds, its left side fails
left_fails : (a b : Bool) → a && b ≡ false → b ≡ true → a ≡ false
left_fails true b e f = clash f e
left_fails false b e f = refl

module _ (test all : ℕ → Bool) (at_first : all 0 ≡ true) (next : (n : ℕ) → all (suc n) ≡ test n && all n) where
  each-passes : (n c : ℕ) → all n ≡ true → c < n → test c ≡ true
  each-passes zero c e l = absurd (omega arith)
  each-passes (suc n) c e l =
      let both : test n && all n ≡ true = sym (next n) ∙ e in
      by_bool (eqb c n)
      (λ f. ap test (eqb-true c n f) ∙ and_left (test n) (all n) both)
      (λ f. each-passes n c (and_right (test n) (all n) both) (omega (arith, eqb-false c n f)))

  first-that_fails : (n : ℕ) → all n ≡ false → (c : ℕ) × (c < n) × (test c ≡ false) × (all c ≡ true)
  first-that_fails zero e = clash at_first e
  first-that_fails (suc n) e = by_bool (all n)
      (λ f. (n, omega arith, left_fails (test n) (all n) (sym (next n) ∙ e) f, f))
      (λ f. let h = first-that_fails n f in (h.0, omega (arith, h.1), h.2, h.3))

module _ (d : Divisor) where
  module _ (signs : Signs) where
    abbrev absent_at : ℕ → Bool
    absent_at c = not (occurs_at signs d c)

    none_before : occurs_nowhere signs d 0 ≡ true
    unfolding occurs_nowhere
    none_before = refl

    nowhere_next : (n : ℕ) → occurs_nowhere signs d (suc n) ≡ absent_at n && occurs_nowhere signs d n
    unfolding occurs_nowhere
    nowhere_next n = refl

    nowhere : (n c : ℕ) → occurs_nowhere signs d n ≡ true → c < n → occurs_at signs d c ≡ false
    nowhere n c e l = not-true (occurs_at signs d c) (each-passes absent_at (occurs_nowhere signs d) none_before nowhere_next n c e l)

    -- the first co-divisor at which the divisor occurs
    first_co_divisor : (n : ℕ) → occurs_nowhere signs d n ≡ false → (c : ℕ) × (c < n) × (occurs_at signs d c ≡ true) × (occurs_nowhere signs d c ≡ true)
    first_co_divisor n e =
        let h = first-that_fails absent_at (occurs_nowhere signs d) none_before nowhere_next n e in
        (h.0, h.1, not-false (occurs_at signs d h.0) h.2, h.3)

  module _ (positions : ℕ) (signs : ℕ → Signs) where
    abbrev absent_in : ℕ → Bool
    absent_in i = occurs_nowhere (signs i) d positions

    no_rows : occurs_in_none positions signs d 0 ≡ true
    unfolding occurs_in_none
    no_rows = refl

    none_next : (n : ℕ) → occurs_in_none positions signs d (suc n) ≡ absent_in n && occurs_in_none positions signs d n
    unfolding occurs_in_none
    none_next n = refl

    in_none : (n i : ℕ) → occurs_in_none positions signs d n ≡ true → i < n → occurs_nowhere (signs i) d positions ≡ true
    in_none = each-passes absent_in (occurs_in_none positions signs d) no_rows none_next

    -- the first row in which it occurs
    first-row : (n : ℕ) → occurs_in_none positions signs d n ≡ false → (i : ℕ) × (i < n) × (occurs_nowhere (signs i) d positions ≡ false) × (occurs_in_none positions signs d i ≡ true)
    first-row = first-that_fails absent_in (occurs_in_none positions signs d) no_rows none_next

-- ---- what `is_first` says

first-is : (positions : ℕ) (signs : ℕ → Signs) (x : InRow) (d : Divisor) → divisor_of x.pair ≡ d
    → is_first positions signs x ≡ occurs_nowhere (signs x.row) d (co_divisor x.pair) && occurs_in_none positions signs d x.row
unfolding is_first
first-is positions signs x d same = ap (λ e. occurs_nowhere (signs x.row) e (co_divisor x.pair) && occurs_in_none positions signs e x.row) same

-- ---- rows by their numbers

pub row-there : (rows : List Row) (i : ℕ) → i < length rows → Memᴰ (row_at rows i) rows
row-there [] i l = absurd (omega arith)
row-there (r ∷ rows) zero l = Memᴰ.head refl
row-there (r ∷ rows) (suc i) l = Memᴰ.tail (row-there rows i (omega arith))

row_number : (r : Row) (rows : List Row) → Memᴰ r rows → (i : ℕ) × (i < length rows) × (r ≡ row_at rows i)
row_number r [] m = absurd (Memᴰ.not-nil m)
row_number r (q ∷ rows) m = ⊎_elim
    (λ e. (0, omega arith, e))
    (λ k. let h = row_number r rows k in (suc h.0, omega (arith, h.1), h.2))
    (Memᴰ.cases_cons m)

-- ---- the first occurrence of a divisor in rows

pub record FirstOccurrence (positions : ℕ) (rows : List Row) (d : Divisor) (x : InRow) : Type 0 where
  pub there : x.row < length rows
  pub occurrence : Occurrence d (row_at rows x.row) x.pair
  pub first : is_first positions (signs_in rows) x ≡ true

module _ (positions symbol : ℕ) (rows : List Row) (w : EachRow (WellFormed positions symbol) rows) where
  pub well_formed_at : (i : ℕ) → i < length rows → WellFormed positions symbol (row_at rows i)
  well_formed_at i l = each_row (WellFormed positions symbol) rows w (row_at rows i) (row-there rows i l)

  looked_up : (d : Divisor) (i : ℕ) → i < length rows → (p : Pair) → Occurrence d (row_at rows i) p → LookedUp positions (signs_in rows i) d p
  looked_up d i l p o = let f = well_formed_at i l in occurrence_looked_up positions d (row_at rows i) f.ascending f.exponents p o

  -- a divisor that is taken occurs in one of the rows
  occurs_somewhere : (d : Divisor) → 1 ≤ score d rows → occurs_in_none positions (signs_in rows) d (length rows) ≡ false
  occurs_somewhere d h =
      let x = score_occurs d rows h in
      let n = row_number x.0 rows x.1 in
      let p : Pair = x.2.0 in
      let o : Occurrence d (row_at rows n.0) p = rw (← n.2) x.2.1 in
      let u : LookedUp positions (signs_in rows n.0) d p = looked_up d n.0 n.1 p o in
      by_bool (occurs_in_none positions (signs_in rows) d (length rows))
      (λ e. clash u.occurs (nowhere d (signs_in rows n.0) positions (co_divisor p) (in_none d positions (signs_in rows) (length rows) n.0 e n.1) u.below))
      (λ e. e)

  -- so there is a first one
  pub first_occurrence : (d : Divisor) → 1 ≤ score d rows → (x : InRow) × FirstOccurrence positions rows d x
  first_occurrence d h =
      let f = first-row d positions (signs_in rows) (length rows) (occurs_somewhere d h) in
      let i : ℕ = f.0 in
      let g = first_co_divisor d (signs_in rows i) positions f.2 in
      let c : ℕ = g.0 in
      let proper : Proper d = scored-proper positions symbol d rows w h in
      let p : Pair = pair_at (signs_in rows i) d c in
      let x : InRow = record { row = i; pair = p } in
      let o : Occurrence d (row_at rows i) p = pair_occurs d proper (row_at rows i) (well_formed_at i f.1).ascending c g.2 in
      let e : co_divisor p ≡ c = pair_co_divisor (signs_in rows i) d proper c in (
        x,
        record {
          there = f.1;
          occurrence = o;
          first = first-is positions (signs_in rows) x d o.divisor
              ∙ and_both (occurs_nowhere (signs_in rows i) d (co_divisor p)) _ (ap (occurs_nowhere (signs_in rows i) d) e ∙ g.3) f.3;
        },
      )

  module _ (d : Divisor) where
    abbrev IsFirst : InRow → Type 0
    IsFirst x = FirstOccurrence positions rows d x

    found : (x : InRow) → IsFirst x → LookedUp positions (signs_in rows x.row) d x.pair
    found x a = looked_up d x.row a.there x.pair a.occurrence

    both-tests : (x : InRow) → IsFirst x → occurs_nowhere (signs_in rows x.row) d (co_divisor x.pair) && occurs_in_none positions (signs_in rows) d x.row ≡ true
    both-tests x a = sym (first-is positions (signs_in rows) x d a.occurrence.divisor) ∙ a.first

    -- none is in a row before that of another
    none_in_earlier : (x y : InRow) → IsFirst x → IsFirst y → x.row < y.row → ⊥
    none_in_earlier x y a b l =
        let absent : occurs_nowhere (signs_in rows x.row) d positions ≡ true =
        in_none d positions (signs_in rows) y.row x.row (and_right (occurs_nowhere (signs_in rows y.row) d (co_divisor y.pair)) _ (both-tests y b)) l in
        clash (found x a).occurs (nowhere d (signs_in rows x.row) positions (co_divisor x.pair) absent (found x a).below)

    -- nor at a smaller co-divisor in its row
    none_at_smaller : (x y : InRow) → IsFirst x → IsFirst y → x.row ≡ y.row → co_divisor x.pair < co_divisor y.pair → ⊥
    none_at_smaller x y a b e l =
        let c : ℕ = co_divisor x.pair in
        let absent : occurs_at (signs_in rows y.row) d c ≡ false =
        nowhere d (signs_in rows y.row) (co_divisor y.pair) c (and_left (occurs_nowhere (signs_in rows y.row) d (co_divisor y.pair)) _ (both-tests y b)) l in
        clash (found x a).occurs (ap (λ i. occurs_at (signs_in rows i) d c) e ∙ absent)

    -- so there are no two
    pub first_alone : (x y : InRow) → IsFirst x → IsFirst y → x ≡ y
    first_alone x y a b =
        let row : x.row ≡ y.row = neither_smaller (none_in_earlier x y a b) (none_in_earlier y x b a) in
        let co_divisors : co_divisor x.pair ≡ co_divisor y.pair = neither_smaller (none_at_smaller x y a b row) (none_at_smaller y x b a (sym row)) in
        let pair : x.pair ≡ y.pair =
        (found x a).is ∙ ap (λ i. pair_at (signs_in rows i) d (co_divisor x.pair)) row ∙ ap (pair_at (signs_in rows y.row) d) co_divisors ∙ sym (found y b).is in
        λ i. record { row = row i; pair = pair i }
      where
        neither_smaller : {m n : ℕ} → (m < n → ⊥) → (n < m → ⊥) → m ≡ n
        neither_smaller h k = omega arith
