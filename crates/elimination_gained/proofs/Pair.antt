-- One pair of terms: its divisor gets an entry at its first occurrence, and none at a later one.
-- Assumes nothing.
use Prim.Native.Nat.{ℕ, ◌<◌}
use mathlib.Core.Path.{◌≡◌, sym, ap, ap₂, ◌∙◌}
use mathlib.Core.Bool.{true, false}
use mathlib.Core.List.{List, [], ◌∷◌, ◌++◌, append-nil}
use native.Mathlib.Omega.{arith}
use lib.ListN.{length, get_or, length-append}
use Rattle.limits.specs.Limits.{max_rows, max_pairs}
use Rattle.term.specs.declared.Term.{Term}
use Rattle.elimination_rules.specs.declared.Divisor.{Divisor}
use Rattle.elimination_rules.specs.Divisors.{co_divisor, divisor_of}
use Rattle.elimination_rules.specs.Visit.{InRow}
use Rattle.elimination_rules.specs.Elimination.{Scored}
use Rattle.elimination_rules.specs.Rank.{divisor_key, key_divisor}
use Rattle.elimination_rules.proofs.Rank.{key-divisor}
use Rattle.elimination_masks.specs.Masks.{mask_score, none_among, none_among_from, earlier_mask}
use Rattle.elimination_masks.specs.Columns.{columns_score, columns_first}
use Rattle.elimination_kept.specs.Table.{entry_of, Fits}
use Rattle.elimination_gained.specs.Gained.{Earlier, columns_gained, RoomFor}
use Rattle.elimination_gained.proofs.Adding.{one-first, one_later}
use Rattle.elimination_gained.proofs.Pairs.{none_earlier}

module _ (columns : List (List ℕ)) (i : ℕ) (t u : Term) (d : Divisor) (is : d ≡ divisor_of (record { first = t; second = u }))
    (masks : List ℕ) (asked : Earlier i (co_divisor (record { first = t; second = u })) masks) where
  abbrev visit : InRow
  visit = record { row = i; pair = record { first = t; second = u } }

  abbrev x : List ℕ
  x = get_or columns d.a []

  abbrev y : List ℕ
  y = get_or columns d.b []

  first-is : none_among d x y (λ j. get_or masks j 0) ≡ columns_first columns visit
  unfolding columns_first
  first-is =
      let c : ℕ = co_divisor (record { first = t; second = u }) in
      none_earlier d x y i c masks asked
      ∙ ap (λ (e : Divisor). none_among_from e (get_or columns e.a []) (get_or columns e.b []) (earlier_mask i c) 0 max_rows) is

  module _ (kept : List Scored) where
    module _ (h : none_among d x y (λ j. get_or masks j 0) ≡ true) where
      abbrev new : Scored
      new = record { divisor = divisor_of visit.pair; score = columns_score columns (divisor_of visit.pair) }

      one : columns_gained columns (visit ∷ []) ≡ new ∷ []
      one = one-first (columns_first columns) (columns_score columns) visit (sym first-is ∙ h)

      -- there is room for its entry
      pub pair-room : RoomFor kept (columns_gained columns (visit ∷ [])) → length kept < max_pairs
      pair-room l = omega (arith, length-append kept (new ∷ []), rw one at l)

      pub pair-added : Fits d → (key score : ℕ) → key ≡ divisor_key d → score ≡ mask_score d x y → kept ++ (entry_of key score ∷ []) ≡ kept ++ columns_gained columns (visit ∷ [])
      unfolding columns_score
      pair-added fits key score ek es =
          let entry : entry_of key score ≡ new =
          ap₂ (λ (e : Divisor) (n : ℕ). record { divisor = e; score = n })
          (ap key_divisor ek ∙ key-divisor d (omega (arith, fits.1)) (omega (arith, fits.2)) (omega (arith, fits.3)) ∙ is)
          (es ∙ ap (columns_score columns) is) in
          ap (λ (s : Scored). kept ++ (s ∷ [])) entry ∙ sym (ap (λ (t : List Scored). kept ++ t) one)

    pub pair-not-added : none_among d x y (λ j. get_or masks j 0) ≡ false → kept ≡ kept ++ columns_gained columns (visit ∷ [])
    pair-not-added h =
        sym (append-nil kept)
        ∙ sym (ap (λ (t : List Scored). kept ++ t) (one_later (columns_first columns) (columns_score columns) visit (sym first-is ∙ h)))
