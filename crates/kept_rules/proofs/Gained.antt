-- The entries that rows gain: one for each divisor of the rows whose b is the symbol or a later one, with its score, and no others.
-- Assumes nothing.
use Prim.Native.Nat.{ℕ, ◌≤◌}
use mathlib.Core.Path.{◌≡◌, refl, sym, ◌∙◌, ap}
use mathlib.Core.Logic.{⊎_elim}
use mathlib.Core.Bool.{Bool, true}
use mathlib.Core.List.{List, [], ◌∷◌, Memᴰ}
use native.Mathlib.Omega.{arith}
use Rattle.elimination_rules.specs.declared.Divisor.{Divisor}
use Rattle.elimination_rules.specs.Rows.{Row, WellFormed, EachRow}
use Rattle.elimination_rules.specs.Divisors.{Pair, divisor_of, score}
use Rattle.elimination_rules.specs.Visit.{InRow}
use Rattle.elimination_rules.specs.Elimination.{Scored}
use Rattle.elimination_rules.proofs.Tests.{by_test, clash}
use Rattle.elimination_rules.proofs.RowOrder.{row_at, Placed, occurrence_placed}
use Rattle.elimination_rules.proofs.Pick.{all_pairs_lem}
use Rattle.elimination_rules.proofs.PairScores.{pair-scores}
use Rattle.kept_rules.specs.Kept.{Once, new_pairs_from, signs_in, is_first, gained, gained_table}
use Rattle.kept_rules.proofs.NewPairs.{Distinct, visited, visits, visited_distinct}
use Rattle.kept_rules.proofs.First.{row-there, FirstOccurrence, well_formed_at, first_occurrence, first_alone}

-- ---- the entries of visited pairs

module _ (first : InRow → Bool) (scores : Divisor → ℕ) where
  abbrev entry : InRow → Scored
  entry x = record { divisor = divisor_of x.pair; score = scores (divisor_of x.pair) }

  gained_member : (xs : List InRow) (s : Scored) → Memᴰ s (gained first scores xs) → (x : InRow) × Memᴰ x xs × (first x ≡ true) × (s ≡ entry x)
  unfolding gained
  gained_member [] s = λ m. absurd (mathlib.Core.List.Memᴰ.not-nil m)
  gained_member (x ∷ xs) s =
      let later : Memᴰ s (gained first scores xs) → (y : InRow) × Memᴰ y (x ∷ xs) × (first y ≡ true) × (s ≡ entry y) =
      λ m. let h = gained_member xs s m in (h.0, mathlib.Core.List.Memᴰ.tail h.1, h.2, h.3) in
      by_test (first x) (entry x ∷ gained first scores xs) (gained first scores xs) (λ z. Memᴰ s z → (y : InRow) × Memᴰ y (x ∷ xs) × (first y ≡ true) × (s ≡ entry y))
      (λ e m. ⊎_elim (λ w. (x, mathlib.Core.List.Memᴰ.head refl, e, w)) later (mathlib.Core.List.Memᴰ.cases_cons m))
      (λ e m. later m)

  member_gained : (xs : List InRow) (x : InRow) → Memᴰ x xs → first x ≡ true → Memᴰ (entry x) (gained first scores xs)
  unfolding gained
  member_gained [] x m f = absurd (mathlib.Core.List.Memᴰ.not-nil m)
  member_gained (y ∷ xs) x m f =
      by_test (first y) (entry y ∷ gained first scores xs) (gained first scores xs) (Memᴰ (entry x))
      (λ e. ⊎_elim (λ w. mathlib.Core.List.Memᴰ.head (ap entry w)) (λ k. mathlib.Core.List.Memᴰ.tail (member_gained xs x k f)) (mathlib.Core.List.Memᴰ.cases_cons m))
      (λ e. ⊎_elim (λ w. clash (ap first (sym w) ∙ f) e) (λ k. member_gained xs x k f) (mathlib.Core.List.Memᴰ.cases_cons m))

  -- where no pair is visited twice and no divisor has two first ones, no divisor gets two entries
  once-gained : (xs : List InRow) → Distinct xs
      → ((x y : InRow) → Memᴰ x xs → Memᴰ y xs → first x ≡ true → first y ≡ true → divisor_of x.pair ≡ divisor_of y.pair → x ≡ y)
      → Once (gained first scores xs)
  unfolding gained
  once-gained [] a alone = tt
  once-gained (x ∷ xs) a alone =
      let later : Once (gained first scores xs) = once-gained xs a.1 (λ y z m n. alone y z (mathlib.Core.List.Memᴰ.tail m) (mathlib.Core.List.Memᴰ.tail n)) in
      by_test (first x) (entry x ∷ gained first scores xs) (gained first scores xs) Once
      (λ e. (
        (λ t m same.
            let h = gained_member xs t m in
            a.0 (mathlib.Core.List.Memᴰ.cast (alone x h.0 (mathlib.Core.List.Memᴰ.head refl) (mathlib.Core.List.Memᴰ.tail h.1) e h.2 (same ∙ ap (λ z. z.divisor) h.3)) h.1)),
        later,
      ))
      (λ e. later)

-- ---- in rows in order

module _ (positions next symbol : ℕ) (rows : List Row) (w : EachRow (WellFormed positions next) rows) where
  -- the pairs that get an entry are first occurrences
  visited_first : (x : InRow) → Memᴰ x (new_pairs_from symbol 0 rows) → is_first positions (signs_in rows) x ≡ true → (d : Divisor) → divisor_of x.pair ≡ d
      → FirstOccurrence positions rows d x
  visited_first x m f d e =
      let h = visited symbol rows x m in
      record { there = h.0; occurrence = record { pair = h.1; divisor = e }; first = f }

  placed_at : (d : Divisor) (x : InRow) → FirstOccurrence positions rows d x → Placed d x.pair
  placed_at d x f = occurrence_placed d (row_at rows x.row) (well_formed_at positions next rows w x.row f.there).ascending x.pair f.occurrence

  -- each divisor of the rows whose b is the symbol or a later one gets an entry, with its score
  pub gained-all : (d : Divisor) → 1 ≤ score d rows → symbol ≤ d.b → Memᴰ (record { divisor = d; score = score d rows }) (gained_table positions symbol rows)
  gained-all d h l =
      let k = first_occurrence positions next rows w d h in
      let x : InRow = k.0 in
      let f : FirstOccurrence positions rows d x = k.1 in
      let v : Memᴰ x (new_pairs_from symbol 0 rows) = visits symbol rows x f.there f.occurrence.pair (omega (arith, (placed_at d x f).second-symbol)) in
      mathlib.Core.List.Memᴰ.cast (ap (λ e. record { divisor = e; score = score e rows }) (sym f.occurrence.divisor))
      (member_gained (is_first positions (signs_in rows)) (λ e. score e rows) (new_pairs_from symbol 0 rows) x v f.first)

  -- and nothing else does
  pub gained-only : (s : Scored) → Memᴰ s (gained_table positions symbol rows) → (symbol ≤ s.divisor.b) × (s.score ≡ score s.divisor rows) × (1 ≤ s.score)
  gained-only s m =
      let h = gained_member (is_first positions (signs_in rows)) (λ e. score e rows) (new_pairs_from symbol 0 rows) s m in
      let x : InRow = h.0 in
      let p : Pair = x.pair in
      let f : FirstOccurrence positions rows (divisor_of p) x = visited_first x h.1 h.2 (divisor_of p) refl in
      let v = visited symbol rows x h.1 in
      let divisor : s.divisor ≡ divisor_of p = ap (λ z. z.divisor) h.3 in
      let one : 1 ≤ score (divisor_of p) rows = pair-scores positions next rows w p (all_pairs_lem (row_at rows x.row) rows (row-there rows x.row v.0) p v.1) in (
        omega (arith, v.2, (placed_at (divisor_of p) x f).second-symbol, ap (λ z. z.b) divisor),
        ap (λ z. z.score) h.3 ∙ ap (λ e. score e rows) (sym divisor),
        omega (arith, one, ap (λ z. z.score) h.3),
      )

  -- no divisor gets two
  pub gained-once : Once (gained_table positions symbol rows)
  gained-once =
      once-gained (is_first positions (signs_in rows)) (λ e. score e rows) (new_pairs_from symbol 0 rows) (visited_distinct symbol positions next rows w)
      (λ x y m n a b e. let d : Divisor = divisor_of y.pair in
      first_alone positions next rows w d x y (visited_first x m a d e) (visited_first y n b d refl))
