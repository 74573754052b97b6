-- Entries added one pair after another: the table so far and the entries of what is left to visit come to the table afterwards.
-- Assumes nothing.
use Prim.Native.Nat.{ℕ, ◌≤◌}
use mathlib.Core.Path.{◌≡◌, refl, sym, ap, ◌∙◌}
use mathlib.Core.Bool.{Bool, true, false}
use mathlib.Core.List.{List, [], ◌∷◌, ◌++◌, append_assoc, append-nil}
use native.Mathlib.Omega.{arith}
use lib.ListN.{length, length-append}
use Rattle.limits.specs.Limits.{max_pairs}
use Rattle.elimination_rules.specs.declared.Divisor.{Divisor}
use Rattle.elimination_rules.specs.Divisors.{divisor_of}
use Rattle.elimination_rules.specs.Visit.{InRow}
use Rattle.elimination_rules.specs.Elimination.{Scored}
use Rattle.elimination_rules.proofs.Tests.{by_test, by_bool, clash}
use Rattle.kept_rules.specs.Kept.{gained}
use Rattle.elimination_masks.specs.Columns.{columns_score, columns_first}
use Rattle.elimination_gained.specs.Gained.{columns_gained, RoomFor}

module _ (first : InRow → Bool) (counts : Divisor → ℕ) where
  gained-none : gained first counts [] ≡ []
  unfolding gained
  gained-none = refl

  module _ (x : InRow) (xs : List InRow) where
    abbrev entry : Scored
    entry = record { divisor = divisor_of x.pair; score = counts (divisor_of x.pair) }

    gained-first : first x ≡ true → gained first counts (x ∷ xs) ≡ entry ∷ gained first counts xs
    unfolding gained
    gained-first h =
        by_test (first x) (entry ∷ gained first counts xs) (gained first counts xs) (λ (t : List Scored). t ≡ entry ∷ gained first counts xs) (λ _. refl) (λ f. clash h f)

    gained-later : first x ≡ false → gained first counts (x ∷ xs) ≡ gained first counts xs
    unfolding gained
    gained-later h =
        by_test (first x) (entry ∷ gained first counts xs) (gained first counts xs) (λ (t : List Scored). t ≡ gained first counts xs) (λ f. clash f h) (λ _. refl)

  gained-append : (xs ys : List InRow) → gained first counts (xs ++ ys) ≡ gained first counts xs ++ gained first counts ys
  unfolding gained
  gained-append [] ys = refl
  gained-append (x ∷ xs) ys = by_bool (first x)
      (λ h.
      gained-first x (xs ++ ys) h
      ∙ ap (λ (t : List Scored). entry x xs ∷ t) (gained-append xs ys)
      ∙ sym (ap (λ (t : List Scored). t ++ gained first counts ys) (gained-first x xs h)))
      (λ h. gained-later x (xs ++ ys) h ∙ gained-append xs ys ∙ sym (ap (λ (t : List Scored). t ++ gained first counts ys) (gained-later x xs h)))

  pub one-first : (x : InRow) → first x ≡ true → gained first counts (x ∷ []) ≡ record { divisor = divisor_of x.pair; score = counts (divisor_of x.pair) } ∷ []
  one-first x h = gained-first x [] h ∙ ap (λ (t : List Scored). entry x [] ∷ t) gained-none

  pub one_later : (x : InRow) → first x ≡ false → gained first counts (x ∷ []) ≡ []
  one_later x h = gained-later x [] h ∙ gained-none

-- the table so far, and what is left to visit
abbrev pub Adding : List (List ℕ) → List Scored → List InRow → List Scored → List InRow → Type 0
Adding columns table visits now rest = now ++ columns_gained columns rest ≡ table ++ columns_gained columns visits

module _ (columns : List (List ℕ)) (table : List Scored) (visits : List InRow) (now : List Scored) (left : List InRow) (so : Adding columns table visits now left) where
  pub adding_end : left ≡ [] → now ≡ table ++ columns_gained columns visits
  adding_end is =
      sym (append-nil now) ∙ sym (ap (λ (t : List Scored). now ++ t) (ap (columns_gained columns) is ∙ gained-none (columns_first columns) (columns_score columns))) ∙ so

  pub adding_left : (other : List InRow) → left ≡ other → Adding columns table visits now other
  adding_left other is = rw (sym is) so

  module _ (some rest : List InRow) (is : left ≡ some ++ rest) where
    all : now ++ (columns_gained columns some ++ columns_gained columns rest) ≡ table ++ columns_gained columns visits
    all =
        sym (ap (λ (t : List Scored). now ++ t) (ap (columns_gained columns) is ∙ gained-append (columns_first columns) (columns_score columns) some rest)) ∙ so

    -- there is room for what comes next
    pub adding_room : RoomFor table (columns_gained columns visits) → RoomFor now (columns_gained columns some)
    adding_room h =
        let whole : length (now ++ (columns_gained columns some ++ columns_gained columns rest)) ≤ max_pairs = rw all h in
        omega (
          arith,
          whole,
          length-append now (columns_gained columns some ++ columns_gained columns rest),
          length-append (columns_gained columns some) (columns_gained columns rest),
          length-append now (columns_gained columns some),
        )

    pub adding_next : (next : List Scored) → next ≡ now ++ columns_gained columns some → Adding columns table visits next rest
    adding_next next has =
        ap (λ (t : List Scored). t ++ columns_gained columns rest) has ∙ append_assoc now (columns_gained columns some) (columns_gained columns rest) ∙ all
