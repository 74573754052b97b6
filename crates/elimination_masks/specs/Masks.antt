-- Document 01, "Elimination", as code works it out on masks: a symbol's column has for each row a mask of its plus terms and one of its
-- minus terms, in which bit e stands for the term with exponent e. Of a divisor, x is the column of a and y that of b.
-- These are second definitions: proofs/ has the laws that they agree with the others.
-- Assumes nothing.
use Rattle.std.specs.Prelude.{ℕ, zero, suc, ◌+◌, ◌*◌, ◌/◌, ◌%◌, ◌-◌, ◌^◌, ◌<◌, ◌≡◌, Bool, true, false, not, ◌&&◌, ◌||◌, List, leb, ltb, eqb, get_or}
use Rattle.std.specs.Int.Bits.{bit_and, bit_or, bit_xor}
use Rattle.std.specs.Int.Count.{ones}
use Rattle.limits.specs.Limits.{max_rows, positions}
use Rattle.elimination_rules.specs.declared.Divisor.{Divisor}
use Rattle.bits.specs.Bits.{bit_at}

-- ---- a symbol's column

abbrev pub plus_in : List ℕ → ℕ → ℕ
plus_in column i = get_or column i 0

abbrev pub minus_in : List ℕ → ℕ → ℕ
minus_in column i = get_or column (max_rows + i) 0

-- ---- occurrences

-- bit c: there is an occurrence with co-divisor c; the signs of its terms differ exactly where the divisor's is minus
unfoldable pub occurrence_mask : Divisor → ℕ → ℕ → ℕ → ℕ → ℕ
occurrence_mask d x_plus x_minus y_plus y_minus =
    let with_plus : ℕ = elim d.minus [ true ↦ y_minus | false ↦ y_plus ] in
    let with_minus : ℕ = elim d.minus [ true ↦ y_plus | false ↦ y_minus ] in
    bit_or (bit_and (x_plus / 2 ^ d.ea) (with_plus / 2 ^ d.eb)) (bit_and (x_minus / 2 ^ d.ea) (with_minus / 2 ^ d.eb))

-- in row i
abbrev pub occurrences_in : Divisor → List ℕ → List ℕ → ℕ → ℕ
occurrences_in d x y i = occurrence_mask d (plus_in x i) (minus_in x i) (plus_in y i) (minus_in y i)

-- ---- what is taken

-- where a and b are one symbol: an occurrence at c is taken unless that at c - distance is; of the first co-divisors
unfoldable pub apart_mask : ℕ → ℕ → ℕ → ℕ
unfolding bit_at
apart_mask occurrences distance zero = 0
apart_mask occurrences distance (suc c) =
    let before : ℕ = apart_mask occurrences distance c in
    elim (bit_at occurrences c && not (leb distance c && bit_at before (c - distance))) [ true ↦ before + 2 ^ c | false ↦ before ]

unfoldable pub taken_in : Divisor → List ℕ → List ℕ → ℕ → ℕ
unfolding occurrence_mask apart_mask
taken_in d x y i = elim (eqb d.a d.b) [ true ↦ apart_mask (occurrences_in d x y i) d.eb positions | false ↦ occurrences_in d x y i ]

-- the score in so many rows from row i on
unfoldable pub mask_score_from : Divisor → List ℕ → List ℕ → ℕ → ℕ → ℕ
unfolding taken_in
mask_score_from d x y i zero = 0
mask_score_from d x y i (suc k) = ones (taken_in d x y i) + mask_score_from d x y (suc i) k

abbrev pub mask_score : Divisor → List ℕ → List ℕ → ℕ
mask_score d x y = mask_score_from d x y 0 max_rows

-- ---- whether the occurrences are others in the columns after a step

unfoldable pub masks_differ_from : Divisor → List ℕ → List ℕ → List ℕ → List ℕ → ℕ → ℕ → Bool
unfolding occurrence_mask
masks_differ_from d x y x_after y_after i zero = false
masks_differ_from d x y x_after y_after i (suc k) =
    not (eqb (occurrences_in d x y i) (occurrences_in d x_after y_after i)) || masks_differ_from d x y x_after y_after (suc i) k

abbrev pub masks_differ : Divisor → List ℕ → List ℕ → List ℕ → List ℕ → Bool
masks_differ d x y x_after y_after = masks_differ_from d x y x_after y_after 0 max_rows

-- ---- whether there is an occurrence among those that masks ask for, one for each row

unfoldable pub none_among_from : Divisor → List ℕ → List ℕ → (ℕ → ℕ) → ℕ → ℕ → Bool
unfolding occurrence_mask
none_among_from d x y asked i zero = true
none_among_from d x y asked i (suc k) = eqb (bit_and (occurrences_in d x y i) (asked i)) 0 && none_among_from d x y asked (suc i) k

abbrev pub none_among : Divisor → List ℕ → List ℕ → (ℕ → ℕ) → Bool
none_among d x y asked = none_among_from d x y asked 0 max_rows

-- all co-divisors in the rows before a row, and those below c in it
abbrev pub earlier_mask : ℕ → ℕ → ℕ → ℕ
earlier_mask row c i = elim (ltb i row) [ true ↦ 2 ^ positions - 1 | false ↦ elim (eqb i row) [ true ↦ 2 ^ c - 1 | false ↦ 0 ] ]

-- ---- the columns after a step, in row i

-- without the terms of the taken occurrences, of which this is the one with exponent e
abbrev pub without_mask : ℕ → ℕ → ℕ → ℕ
without_mask mask taken e = bit_xor mask (bit_and mask (taken * 2 ^ e % 2 ^ positions))

-- the co-divisors of the taken occurrences whose first term, with exponent e, is in the mask
abbrev pub made_mask : ℕ → ℕ → ℕ → ℕ
made_mask mask taken e = bit_and (mask / 2 ^ e) taken

-- in all rows
abbrev pub Without : List ℕ → List ℕ → List ℕ → ℕ → Type 0
Without r x taken e = (i : ℕ) → i < max_rows
    → (plus_in r i ≡ without_mask (plus_in x i) (get_or taken i 0) e) × (minus_in r i ≡ without_mask (minus_in x i) (get_or taken i 0) e)

abbrev pub Made : List ℕ → List ℕ → List ℕ → ℕ → Type 0
Made r x taken e = (i : ℕ) → i < max_rows
    → (plus_in r i ≡ made_mask (plus_in x i) (get_or taken i 0) e) × (minus_in r i ≡ made_mask (minus_in x i) (get_or taken i 0) e)

abbrev pub TakenAt : List ℕ → Divisor → List ℕ → List ℕ → Type 0
TakenAt taken d x y = (i : ℕ) → i < max_rows → get_or taken i 0 ≡ taken_in d x y i
