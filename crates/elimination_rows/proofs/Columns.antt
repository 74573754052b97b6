-- The terms of a column's digits, one digit after the other.
-- Assumes nothing.
use Prim.Native.Nat.{ℕ, zero, suc, ◌+◌, ◌-◌, ◌≤◌, ◌<◌}
use mathlib.Core.Path.{◌≡◌, refl, sym, ap, ◌∙◌}
use mathlib.Core.Bool.{Bool}
use mathlib.Core.List.{List, [], ◌∷◌, ◌++◌, append-nil, append_assoc}
use native.Mathlib.Omega.{arith}
use native.Mathlib.Numerals.{add-one}
use lib.Dec.{lit<, leb-suc-zero}
use lib.IntN.{ℤ, pos, negsuc}
use lib.Signed.{lt_z}
use lib.ListN.{length, get_or, drop, length-append}
use mir.Syntax.{w8}
use mir.Val.{SFits, to_z, of_z}
use mir.Facts.{to_z-of_z}
use Rattle.limits.specs.Limits.{positions, max_digits, max_terms}
use Rattle.term.specs.declared.Term.{Term}
use Rattle.digits.specs.Digits.{IsDigit, minus_one, none, one, digits}
use Rattle.digits.proofs.Canonic.{digits-length, digits_are}
use Rattle.elimination_rules.proofs.Counts.{column-few}
use Rattle.elimination_rules.specs.Rows.{Row, column_terms}
use Rattle.elimination_rows.proofs.Members.{left_next, left_none}

digit-fits : (d : ℤ) → IsDigit d → SFits w8 d
digit-fits d minus_one = record { sfits = lit< tt }
digit-fits d none = record { sfits = lit< tt }
digit-fits d one = record { sfits = lit< tt }

module _ (column position : ℕ) where
  pub no_term_lem : (d : ℤ) → d ≡ pos 0 → column_terms column position (d ∷ []) ≡ []
  unfolding column_terms
  no_term_lem d e = ap (λ (x : ℤ). column_terms column position (x ∷ [])) e

  pub one_term : (d : ℤ) (negative : Bool) → (d ≡ pos 0 → ⊥) → negative ≡ lt_z d (pos 0)
      → column_terms column position (d ∷ []) ≡ record { symbol = column; exponent = position; negative = negative } ∷ []
  unfolding column_terms
  one_term (pos zero) n h e = absurd (h refl)
  one_term (pos (suc d)) n h e = ap (λ (x : Bool). record { symbol = column; exponent = position; negative = x } ∷ []) (sym (e ∙ leb-suc-zero (suc d)))
  one_term (negsuc d) n h e = ap (λ (x : Bool). record { symbol = column; exponent = position; negative = x } ∷ []) (sym e)

  column-cons : (d : ℤ) (ds : List ℤ) → column_terms column position (d ∷ ds) ≡ column_terms column position (d ∷ []) ++ column_terms column (suc position) ds
  unfolding column_terms
  column-cons (pos zero) ds = refl
  column-cons (pos (suc d)) ds = refl
  column-cons (negsuc d) ds = refl

module _ (column : ℕ) (ds : List ℤ) (i : ℕ) (done : Row) where
  pub column_next : i < length ds
      → done ++ column_terms column i (drop i ds) ≡ (done ++ column_terms column i (get_or ds i (pos 0) ∷ [])) ++ column_terms column (i + 1) (drop (i + 1) ds)
  column_next h =
      let d : ℤ = get_or ds i (pos 0) in
      ap (λ (l : List ℤ). done ++ column_terms column i l) (left_next ds i (pos 0) h)
      ∙ ap (λ (l : Row). done ++ l) (column-cons column i d (drop (i + 1) ds))
      ∙ sym (append_assoc done (column_terms column i (d ∷ [])) (column_terms column (suc i) (drop (i + 1) ds)))
      ∙ ap (λ (n : ℕ). (done ++ column_terms column i (d ∷ [])) ++ column_terms column n (drop (i + 1) ds)) (sym (add-one i))

  pub column-end : length ds ≤ i → done ++ column_terms column i (drop i ds) ≡ done
  unfolding column_terms
  column-end h = ap (λ (l : List ℤ). done ++ column_terms column i l) (left_none ds i h) ∙ append-nil done

-- ---- the digits that code works out, each in 8 bits

module _ (z : ℤ) (ds : List ℤ) (worked : ds ≡ digits positions z) where
  pub digits-long : length ds ≡ positions
  digits-long = rw worked (digits-length positions z)

  pub digit_held : (i : ℕ) → to_z w8 (of_z w8 (get_or ds i (pos 0))) ≡ get_or ds i (pos 0)
  digit_held i = rw worked (to_z-of_z (digit-fits (get_or (digits positions z) i (pos 0)) (digits_are positions z i)))

-- ---- at most half the digits of a coefficient have a term

pub column-most : (column : ℕ) (z : ℤ) (before : Row) → length before ≤ max_terms - max_digits → length (before ++ column_terms column 0 (digits positions z)) ≤ max_terms
column-most column z before h =
    omega (arith, length-append before (column_terms column 0 (digits positions z)), column-few max_digits column z)

-- what stands in front is no longer than the whole
front_most : (front rest whole : Row) (most : ℕ) → front ++ rest ≡ whole → length whole ≤ most → length front ≤ most
front_most front rest whole most e h = omega (arith, ap (length {A = Term}) e, length-append front rest)

-- nor is a row with some of them
pub column_room : (column : ℕ) (z : ℤ) (ds : List ℤ) → ds ≡ digits positions z → (before done : Row) → length before ≤ max_terms - max_digits → (i : ℕ) → i < length ds
    → done ++ column_terms column i (drop i ds) ≡ before ++ column_terms column 0 ds
    → length (done ++ column_terms column i (get_or ds i (pos 0) ∷ [])) ≤ max_terms
column_room column z ds worked before done h i l e =
    front_most (done ++ column_terms column i (get_or ds i (pos 0) ∷ [])) (column_terms column (i + 1) (drop (i + 1) ds)) (before ++ column_terms column 0 ds) max_terms
    (sym (column_next column ds i done l) ∙ e) (rw worked (column-most column z before h))
