-- What columns say of rows: blank columns of no rows; and after the terms of a row were entered, of that row too.
-- Assumes nothing.
use Prim.Native.Nat.{ℕ, ◌+◌, ◌*◌, ◌^◌, ◌≤◌, ◌<◌}
use mathlib.Core.Path.{◌≡◌, refl, sym, ap, ◌∙◌}
use mathlib.Core.Bool.{Bool, true, false, ◌&&◌, ◌||◌, and-true, and-false, or-false}
use mathlib.Core.List.{List, Memᴰ, [], ◌∷◌, ◌++◌, append-nil, append_assoc}
use native.Mathlib.Omega.{arith}
use native.Mathlib.Nat.{zero-add}
use borrow.Author.Tests.{eq-eqb, eqb-true, eqb-false, ltb-true, ltb-false}
use lib.Bits.{bit_or}
use lib.Dec.{eqb, ltb}
use lib.ListN.{length, get_or, take, drop, length-set, length-take, length-replicate, get_or-replicate, get_or-eq_default}
use lib.Pow.{pow_pos}
use lib.Seq.{get_or-set_same, get_or-set_other, get_or-take, take_all, drop-length, drop-append_seam}
use Rattle.limits.specs.Limits.{max_rows, positions, term_symbols}
use Rattle.term.specs.declared.Term.{Term}
use Rattle.bits.specs.Bits.{bit_at}
use Rattle.bits.proofs.BitLaws.{or_bit, zero_bit, bit_below-added, bit_added, none_above_added}
use Rattle.elimination_rules.specs.Rows.{Row, NoneTwice, WellFormed}
use Rattle.elimination_rules.specs.Divisors.{same_place}
use Rattle.elimination_rules.specs.Lookup.{sign_number, sign_at}
use Rattle.elimination_rules.proofs.Tests.{by_bool}
use Rattle.elimination_rules.proofs.Same.{SamePlace, same_place_lem, place_same}
use Rattle.elimination_rules.proofs.LookupSigns.{sign_yes, sign_no, none-there}
use Rattle.elimination_rules.proofs.SignsAfter.{place}
use Rattle.elimination_masks.specs.Columns.{MasksOf, ColumnsOf}
use Rattle.elimination_columns.specs.Entered.{TermsWithin, mask_place, blank_column, blank_columns, entered_column, entered_term, entered_terms}

-- ---- one mask of a column

abbrev pub mask_in : List ℕ → Bool → ℕ → ℕ
mask_in column minus i = get_or column (mask_place minus i) 0

-- the masks of row i are those of terms with these signs
abbrev pub SignsAre : (ℕ → ℕ) → List ℕ → ℕ → Type 0
SignsAre signs column i = (minus : Bool) (e : ℕ) → bit_at (mask_in column minus i) e ≡ eqb (signs e) (sign_number minus)

pub masks_signs : (signs : ℕ → ℕ) (column : List ℕ) (i : ℕ) → MasksOf signs (mask_in column false i) (mask_in column true i) → SignsAre signs column i
masks_signs signs column i m false e = m.plus_bits e
masks_signs signs column i m true e = m.minus-bits e

pub signs_masks : (signs : ℕ → ℕ) (column : List ℕ) (i : ℕ) → SignsAre signs column i → MasksOf signs (mask_in column false i) (mask_in column true i)
signs_masks signs column i h = record { plus_bits = h false; minus-bits = h true }

pub place_below : (minus : Bool) (i : ℕ) → i < max_rows → mask_place minus i < 2 * max_rows
place_below false i h = omega arith
place_below true i h = omega arith

place-apart : (m n : Bool) (k i : ℕ) → k < max_rows → i < max_rows → (k ≡ i → ⊥) → mask_place m k ≡ mask_place n i → ⊥
place-apart false false k i l h d e = d e
place-apart false true k i l h d e = omega arith
place-apart true false k i l h d e = omega arith
place-apart true true k i l h d e = d (omega arith)

-- ---- a bit that is set

power_bit : (c e : ℕ) → bit_at (2 ^ c) e ≡ eqb e c
power_bit c e =
    by_bool (eqb e c)
    (λ y. let same : e ≡ c = eqb-true e c y in rw (same, eq-eqb c c refl) (rw (zero-add (2 ^ c)) at (bit_added 0 c (pow_pos c))))
    (λ n.
    let other : e ≡ c → ⊥ = eqb-false e c n in
    by_bool (ltb e c)
    (λ y. rw n (rw (zero-add (2 ^ c)) at (bit_below-added 0 c e (pow_pos c) (ltb-true e c y)) ∙ zero_bit e))
    (λ y. rw n (rw (zero-add (2 ^ c)) at (none_above_added 0 c e (pow_pos c) (omega (arith, ltb-false e c y))))))

-- ---- the signs of a row

pub no_sign : (minus : Bool) → eqb 0 (sign_number minus) ≡ false
no_sign false = refl
no_sign true = refl

no_terms : (s e : ℕ) → sign_at [] s e ≡ 0
unfolding sign_at
no_terms s e = refl

sign-there : (t : Term) (r : Row) (s e : ℕ) → t.symbol ≡ s → t.exponent ≡ e → sign_at (t ∷ r) s e ≡ sign_number t.negative
sign-there t r s e p q = sign_yes t r (place s e) (place_same t (place s e) (p, q))

sign_elsewhere : (t : Term) (r : Row) (s e : ℕ) → (SamePlace t (place s e) → ⊥) → sign_at (t ∷ r) s e ≡ sign_at r s e
sign_elsewhere t r s e h = by_bool (same_place t (place s e)) (λ y. absurd (h (same_place_lem t (place s e) y))) (λ n. sign_no t r (place s e) n)

-- ---- one term entered in row i

-- a column for each symbol, and in each a mask for each row and sign
abbrev pub Shaped : List (List ℕ) → Type 0
Shaped columns = (length columns ≡ term_symbols) × ((s : ℕ) → s < term_symbols → length (get_or columns s []) ≡ 2 * max_rows)

module _ (i : ℕ) (inside : i < max_rows) where
  module _ (column : List ℕ) (long : length column ≡ 2 * max_rows) (t : Term) where
    mask-own : (minus : Bool) → t.negative ≡ minus → mask_in (entered_column i column t) minus i ≡ bit_or (mask_in column minus i) (2 ^ t.exponent)
    unfolding entered_column
    mask-own minus q =
        ap (λ (sign : Bool). mask_in (entered_column i column t) sign i) (sym q)
        ∙ get_or-set_same column (mask_place t.negative i) _ 0 (omega (arith, long, place_below t.negative i inside))
        ∙ ap (λ (sign : Bool). bit_or (mask_in column sign i) (2 ^ t.exponent)) q

    mask_other : (minus : Bool) (k : ℕ) → (mask_place minus k ≡ mask_place t.negative i → ⊥) → mask_in (entered_column i column t) minus k ≡ mask_in column minus k
    unfolding entered_column
    mask_other minus k h = get_or-set_other column (mask_place t.negative i) (mask_place minus k) _ 0 h

    own_bits : (minus : Bool) → t.negative ≡ minus → (e : ℕ)
        → bit_at (mask_in (entered_column i column t) minus i) e ≡ bit_at (mask_in column minus i) e || eqb e t.exponent
    own_bits minus q e =
        ap (λ (mask : ℕ). bit_at mask e) (mask-own minus q) ∙ or_bit (mask_in column minus i) (2 ^ t.exponent) e
        ∙ ap (λ (b : Bool). bit_at (mask_in column minus i) e || b) (power_bit t.exponent e)

    other_bits : (minus : Bool) → (mask_place minus i ≡ mask_place t.negative i → ⊥) → (e : ℕ)
        → bit_at (mask_in (entered_column i column t) minus i) e ≡ bit_at (mask_in column minus i) e || false
    other_bits minus h e = ap (λ (mask : ℕ). bit_at mask e) (mask_other minus i h) ∙ sym (or-false (bit_at (mask_in column minus i) e))

    -- the bit of its exponent is set in the mask of its sign
    mask-bits : (negative minus : Bool) → t.negative ≡ negative → (e : ℕ)
        → bit_at (mask_in (entered_column i column t) minus i) e ≡ bit_at (mask_in column minus i) e || (eqb (sign_number negative) (sign_number minus) && eqb e t.exponent)
    mask-bits false false q e = own_bits false q e
    mask-bits true true q e = own_bits true q e
    mask-bits false true q e = other_bits true (rw q (λ h. omega arith)) e
    mask-bits true false q e = other_bits false (rw q (λ h. omega arith)) e

    -- so its sign is there, where there was none
    own-signs : (r : Row) → sign_at r t.symbol t.exponent ≡ 0 → SignsAre (sign_at r t.symbol) column i → SignsAre (sign_at (t ∷ r) t.symbol) (entered_column i column t) i
    own-signs r none before minus e =
        let own : Bool = eqb (sign_number t.negative) (sign_number minus) in
        by_bool (eqb e t.exponent)
        (λ y.
        let same : e ≡ t.exponent = eqb-true e t.exponent y in
        let absent : bit_at (mask_in column minus i) e ≡ false = before minus e ∙ ap (λ (sign : ℕ). eqb sign (sign_number minus)) (ap (sign_at r t.symbol) same ∙ none) ∙ no_sign minus in
        mask-bits t.negative minus refl e ∙ rw (absent, y) (and-true own) ∙ ap (λ (sign : ℕ). eqb sign (sign_number minus)) (sym (sign-there t r t.symbol e refl (sym same))))
        (λ y.
        mask-bits t.negative minus refl e ∙ rw (y, and-false own) (or-false (bit_at (mask_in column minus i) e)) ∙ before minus e
        ∙ ap (λ (sign : ℕ). eqb sign (sign_number minus)) (sym (sign_elsewhere t r t.symbol e (λ h. eqb-false e t.exponent y (sym h.1)))))

  -- ---- and the columns

  module _ (columns : List (List ℕ)) (shaped : Shaped columns) (t : Term) (l : t.symbol < term_symbols) where
    column-own : (s : ℕ) → t.symbol ≡ s → get_or (entered_term i columns t) s [] ≡ entered_column i (get_or columns s []) t
    unfolding entered_term
    column-own s e = rw (← e) (get_or-set_same columns t.symbol (entered_column i (get_or columns t.symbol []) t) [] (omega (arith, shaped.0)))

    column_other : (s : ℕ) → (t.symbol ≡ s → ⊥) → get_or (entered_term i columns t) s [] ≡ get_or columns s []
    unfolding entered_term
    column_other s h = get_or-set_other columns t.symbol s (entered_column i (get_or columns t.symbol []) t) [] (λ e. h (sym e))

    column_long : (column : List ℕ) → length (entered_column i column t) ≡ length column
    unfolding entered_column
    column_long column = length-set column (mask_place t.negative i) _

    shaped_term : Shaped (entered_term i columns t)
    unfolding entered_term
    shaped_term = (
      length-set columns t.symbol _ ∙ shaped.0,
      λ s h.
          by_bool (eqb t.symbol s)
          (λ y. ap (length {A = ℕ}) (column-own s (eqb-true t.symbol s y)) ∙ column_long (get_or columns s []) ∙ shaped.1 s h)
          (λ n. ap (length {A = ℕ}) (column_other s (eqb-false t.symbol s n)) ∙ shaped.1 s h),
    )

  -- ---- all terms of a row

  tail_within : (t : Term) (r : Row) → TermsWithin (t ∷ r) → TermsWithin r
  tail_within t r w u m = w u (Memᴰ.tail m)

  pub shaped_terms : (columns : List (List ℕ)) → Shaped columns → (r : Row) → TermsWithin r → Shaped (entered_terms i columns r)
  unfolding entered_terms
  shaped_terms columns shaped [] w = shaped
  shaped_terms columns shaped (t ∷ r) w = shaped_term (entered_terms i columns r) (shaped_terms columns shaped r (tail_within t r w)) t (w t (Memᴰ.head refl)).0

  module _ (columns : List (List ℕ)) (shaped : Shaped columns) (s : ℕ) (h : s < term_symbols) where
    own_row : SignsAre (λ e. 0) (get_or columns s []) i → (r : Row) → NoneTwice r → TermsWithin r → SignsAre (sign_at r s) (get_or (entered_terms i columns r) s []) i
    unfolding entered_terms
    own_row before [] n w minus e = before minus e ∙ ap (λ (sign : ℕ). eqb sign (sign_number minus)) (sym (no_terms s e))
    own_row before (t ∷ r) n w minus e =
        let now : List (List ℕ) = entered_terms i columns r in
        let fits : Shaped now = shaped_terms columns shaped r (tail_within t r w) in
        let within : t.symbol < term_symbols = (w t (Memᴰ.head refl)).0 in
        let rest : SignsAre (sign_at r s) (get_or now s []) i = own_row before r n.1 (tail_within t r w) in
        by_bool (eqb t.symbol s)
        (λ y.
        let same : t.symbol ≡ s = eqb-true t.symbol s y in
        let none : sign_at r t.symbol t.exponent ≡ 0 = none-there r t.symbol t.exponent (λ u m p q. n.0 u m (sym p, sym q)) in
        let own : SignsAre (sign_at (t ∷ r) t.symbol) (entered_column i (get_or now s []) t) i = own-signs (get_or now s []) (fits.1 s h) t r none (rw same rest) in
        ap (λ (column : List ℕ). bit_at (mask_in column minus i) e) (column-own now fits t within s same)
        ∙ own minus e ∙ ap (λ (symbol : ℕ). eqb (sign_at (t ∷ r) symbol e) (sign_number minus)) same)
        (λ y.
        let other : t.symbol ≡ s → ⊥ = eqb-false t.symbol s y in
        ap (λ (column : List ℕ). bit_at (mask_in column minus i) e) (column_other now fits t within s other)
        ∙ rest minus e ∙ ap (λ (sign : ℕ). eqb sign (sign_number minus)) (sym (sign_elsewhere t r s e (λ k. other k.0))))

    other_row : (k : ℕ) → k < max_rows → (k ≡ i → ⊥) → (minus : Bool) → (r : Row) → TermsWithin r
        → mask_in (get_or (entered_terms i columns r) s []) minus k ≡ mask_in (get_or columns s []) minus k
    unfolding entered_terms
    other_row k l d minus [] w = refl
    other_row k l d minus (t ∷ r) w =
        let now : List (List ℕ) = entered_terms i columns r in
        let fits : Shaped now = shaped_terms columns shaped r (tail_within t r w) in
        let within : t.symbol < term_symbols = (w t (Memᴰ.head refl)).0 in
        by_bool (eqb t.symbol s)
        (λ y. ap (λ (column : List ℕ). mask_in column minus k) (column-own now fits t within s (eqb-true t.symbol s y))
        ∙ mask_other (get_or now s []) (fits.1 s h) t minus k (place-apart minus t.negative k i l inside d))
        (λ y. ap (λ (column : List ℕ). mask_in column minus k) (column_other now fits t within s (eqb-false t.symbol s y)))
        ∙ other_row k l d minus r (tail_within t r w)

-- ---- the terms of a row, one more at a time, from the last on

pub terms_start : (i : ℕ) (columns : List (List ℕ)) (row left : Row) → left ≡ row → (left ++ drop (length left) row ≡ row) × (columns ≡ entered_terms i columns (drop (length left) row))
unfolding entered_terms
terms_start i columns row left e = rw (e, drop-length row) (append-nil row, refl)

-- a term behind those that are left before it
there : (left : Row) (t : Term) (behind : Row) → Memᴰ t (left ++ t ∷ behind)
there [] t behind = Memᴰ.head refl
there (u ∷ left) t behind = Memᴰ.tail (there left t behind)

module _ (row before : Row) (t : Term) (left : Row) (last : before ≡ left ++ t ∷ []) (whole : before ++ drop (length before) row ≡ row) where
  parts : left ++ t ∷ drop (length before) row ≡ row
  parts = sym (append_assoc left (t ∷ []) (drop (length before) row)) ∙ ap (λ (r : Row). r ++ drop (length before) row) (sym last) ∙ whole

  behind_left : drop (length left) row ≡ t ∷ drop (length before) row
  behind_left = ap (drop (length left)) (sym parts) ∙ drop-append_seam left (t ∷ drop (length before) row)

  pub term_within : TermsWithin row → (t.symbol < term_symbols) × (t.exponent < positions)
  term_within w = w t (rw parts at (there left t (drop (length before) row)))

  pub terms_next : (i : ℕ) (columns : List (List ℕ)) → (left ++ drop (length left) row ≡ row) × (entered_term i (entered_terms i columns (drop (length before) row)) t ≡ entered_terms i columns (drop (length left) row))
  unfolding entered_terms
  terms_next i columns = rw behind_left (parts, refl)

-- ---- the rows, one more at a time

pub terms_within : (r : Row) → WellFormed positions term_symbols r → TermsWithin r
terms_within r w t m = (w.symbols t m, w.exponents t m)

past_row : (rows : List Row) (i k : ℕ) → i ≤ k → get_or (take i rows) k [] ≡ []
past_row rows i k h = get_or-eq_default (take i rows) [] (omega (arith, length-take i rows))

pub columns-start : (rows : List Row) → ColumnsOf (take 0 rows) blank_columns
unfolding blank_columns
columns-start rows s i h l = signs_masks (sign_at [] s) (get_or blank_columns s []) i (λ minus e.
    ap (λ (column : List ℕ). bit_at (mask_in column minus i) e) (get_or-replicate term_symbols s blank_column [] h)
    ∙ ap (λ (mask : ℕ). bit_at mask e) (get_or-replicate (2 * max_rows) (mask_place minus i) 0 0 (place_below minus i l))
    ∙ zero_bit e ∙ sym (ap (λ (sign : ℕ). eqb sign (sign_number minus)) (no_terms s e) ∙ no_sign minus))

pub shaped_start : Shaped blank_columns
unfolding blank_columns
shaped_start = (
  length-replicate term_symbols blank_column,
  λ s h. ap (length {A = ℕ}) (get_or-replicate term_symbols s blank_column [] h) ∙ length-replicate {A = ℕ} (2 * max_rows) 0,
)

module _ (rows : List Row) (i : ℕ) (l : i < length rows) (inside : i < max_rows) (columns : List (List ℕ)) (shaped : Shaped columns) where
  pub columns_next : NoneTwice (get_or rows i []) → TermsWithin (get_or rows i []) → ColumnsOf (take i rows) columns → ColumnsOf (take (i + 1) rows) (entered_terms i columns (get_or rows i []))
  columns_next none within before s k h m =
      let r : Row = get_or rows i [] in
      let after : List ℕ = get_or (entered_terms i columns r) s [] in
      signs_masks (sign_at (get_or (take (i + 1) rows) k []) s) after k (λ minus e.
      by_bool (eqb k i)
      (λ y.
      let same : k ≡ i = eqb-true k i y in
      let blank : SignsAre (λ x. 0) (get_or columns s []) i =
      λ sign x. masks_signs (sign_at (get_or (take i rows) i []) s) (get_or columns s []) i (before s i h inside) sign x
      ∙ ap (λ (n : ℕ). eqb n (sign_number sign)) (ap (λ (q : Row). sign_at q s x) (past_row rows i i (omega arith)) ∙ no_terms s x) in
      let here : get_or rows i [] ≡ get_or (take (i + 1) rows) k [] = sym (rw same (get_or-take (i + 1) rows i [] (omega arith))) in
      ap (λ (n : ℕ). bit_at (mask_in after minus n) e) same
      ∙ own_row i inside columns shaped s h blank r none within minus e
      ∙ ap (λ (q : Row). eqb (sign_at q s e) (sign_number minus)) here)
      (λ y.
      let other : k ≡ i → ⊥ = eqb-false k i y in
      ap (λ (mask : ℕ). bit_at mask e) (other_row i inside columns shaped s h k m other minus r within)
      ∙ masks_signs (sign_at (get_or (take i rows) k []) s) (get_or columns s []) k (before s k h m) minus e
      ∙ ap (λ (q : Row). eqb (sign_at q s e) (sign_number minus)) (same_row_lem k other)))
    where
      same_row_lem : (k : ℕ) → (k ≡ i → ⊥) → get_or (take i rows) k [] ≡ get_or (take (i + 1) rows) k []
      same_row_lem k other =
          by_bool (ltb k i)
          (λ y. let below : k < i = ltb-true k i y in get_or-take i rows k [] below ∙ sym (get_or-take (i + 1) rows k [] (omega arith)))
          (λ y. let above : i ≤ k = ltb-false k i y in past_row rows i k above ∙ sym (past_row rows (i + 1) k (omega arith)))

pub columns-end : (rows : List Row) (i : ℕ) → length rows ≤ i → (columns : List (List ℕ)) → ColumnsOf (take i rows) columns → ColumnsOf rows columns
columns-end rows i h columns c = rw (take_all i rows h) at c
