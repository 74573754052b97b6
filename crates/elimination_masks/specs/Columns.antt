-- The columns of rows: what the masks of each symbol's column say of each row; and what masks of taken occurrences say.
-- Assumes nothing.
use Rattle.std.specs.Prelude.{ℕ, ◌<◌, ◌≡◌, Bool, List, [], eqb, get_or}
use Rattle.limits.specs.Limits.{max_rows, positions, term_symbols}
use Rattle.elimination_rules.specs.declared.Divisor.{Divisor}
use Rattle.elimination_rules.specs.Rows.{Row}
use Rattle.elimination_rules.specs.Divisors.{co_divisor, divisor_of}
use Rattle.elimination_rules.specs.Visit.{InRow}
use Rattle.elimination_rules.specs.Lookup.{taken_flags}
use Rattle.kept_rules.specs.Kept.{signs_in}
use Rattle.bits.specs.Bits.{bit_at, bits_of}
use Rattle.elimination_masks.specs.Masks.{plus_in, minus_in, mask_score, masks_differ, none_among, earlier_mask, mask_score_from, masks_differ_from, none_among_from}

-- masks of the terms of one symbol in one row, by the sign at each exponent: 0 there is none, 1 plus, 2 minus
pub record MasksOf (signs : ℕ → ℕ) (plus minus : ℕ) : Type 0 where
  pub plus_bits : (e : ℕ) → bit_at plus e ≡ eqb (signs e) 1
  pub minus-bits : (e : ℕ) → bit_at minus e ≡ eqb (signs e) 2

-- each symbol's column is that of the rows
abbrev pub ColumnsOf : List Row → List (List ℕ) → Type 0
ColumnsOf rows columns = (symbol i : ℕ) → symbol < term_symbols → i < max_rows
    → MasksOf (signs_in rows i symbol) (plus_in (get_or columns symbol []) i) (minus_in (get_or columns symbol []) i)

-- the masks of each row are those of the occurrences that are taken in it
abbrev pub TakenMasks : Divisor → List Row → List ℕ → Type 0
TakenMasks d rows taken = (i : ℕ) → i < max_rows → bits_of (get_or taken i 0) positions ≡ taken_flags (signs_in rows i) d positions

-- ---- of a divisor, by the columns of its symbols

unfoldable pub columns_score : List (List ℕ) → Divisor → ℕ
unfolding mask_score_from
columns_score columns d = mask_score d (get_or columns d.a []) (get_or columns d.b [])

unfoldable pub columns_differ : List (List ℕ) → List (List ℕ) → Divisor → Bool
unfolding masks_differ_from
columns_differ before after d = masks_differ d (get_or before d.a []) (get_or before d.b []) (get_or after d.a []) (get_or after d.b [])

-- a pair is the first occurrence of its divisor
unfoldable pub columns_first : List (List ℕ) → InRow → Bool
unfolding none_among_from divisor_of
columns_first columns x =
    let d : Divisor = divisor_of x.pair in
    none_among d (get_or columns d.a []) (get_or columns d.b []) (earlier_mask x.row (co_divisor x.pair))
