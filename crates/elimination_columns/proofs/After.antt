-- The columns after a step: those of its divisor's symbols without the terms of the taken occurrences, and a new one of those that are made.
-- They are the columns of the rows after the step.
-- Assumes nothing.
use Prim.Native.Nat.{ℕ, zero, suc, ◌+◌, ◌*◌, ◌-◌, ◌%◌, ◌^◌, ◌≤◌, ◌<◌}
use mathlib.Core.Path.{◌≡◌, refl, sym, ap, ◌∙◌}
use mathlib.Core.Bool.{Bool, true, false, not, ◌&&◌, ◌||◌, and-true, and-false}
use mathlib.Core.List.Memᴰ
use mathlib.Core.List.{List, [], ◌∷◌}
use native.Mathlib.Omega.{arith}
use borrow.Author.Tests.{eqb-true, eqb-false, eq-eqb, ne_eqb, ltb-true, ltb-false, leb-true, leb-false}
use lib.Bits.{bit_and}
use lib.Dec.{eqb, leb, ltb}
use lib.ListN.{length, get_or, set, length-set}
use lib.Seq.{get_or-set_same, get_or-set_other}
use Rattle.limits.specs.Limits.{max_rows, positions, term_symbols}
use Rattle.bits.specs.Bits.{bit_at, bits_of}
use Rattle.bits.proofs.BitLaws.{and_bit, xor_bit, shifted_down_bit, shifted_up_bit, shifted_up_none, remainder_bit, bit_of_list}
use Rattle.elimination_rules.specs.declared.Divisor.{Divisor}
use Rattle.elimination_rules.specs.Rows.{Row, WellFormed, EachRow}
use Rattle.elimination_rules.specs.Elimination.{row_after, rows_after}
use Rattle.elimination_rules.specs.Lookup.{Proper, Signs, sign_number, sign_at, taken_flags, part_as, part_of_taken}
use Rattle.elimination_rules.proofs.Tests.{by_bool}
use Rattle.elimination_rules.proofs.LookupSigns.{none_past}
use Rattle.elimination_rules.proofs.SignsAfter.{place, sign-after_new, sign-after_old}
use Rattle.kept_rules.specs.Kept.{signs_in}
use Rattle.elimination_masks.specs.Masks.{without_mask, made_mask, Without, Made}
use Rattle.elimination_masks.specs.Columns.{ColumnsOf, TakenMasks}
use Rattle.elimination_columns.proofs.Entering.{mask_in, SignsAre, masks_signs, signs_masks, no_sign}

-- ---- the bits of the masks after a step

-- a taken occurrence's term with exponent x has exponent e
abbrev taken_term : ℕ → ℕ → ℕ → Bool
taken_term taken x e = leb x e && bit_at taken (e - x)

shifted_bit : (taken x e : ℕ) → e < positions → bit_at (taken * 2 ^ x % 2 ^ positions) e ≡ taken_term taken x e
shifted_bit taken x e h =
    remainder_bit (taken * 2 ^ x) positions e h
    ∙ by_bool (leb x e)
    (λ y. shifted_up_bit taken x e (leb-true x e y) ∙ rw y)
    (λ n. shifted_up_none taken x e (leb-false x e n) ∙ rw n)

taken_away : (b c both : Bool) → both ≡ b && c → ◌≡◌ {A = Bool} (elim b [ true ↦ not both | false ↦ both ]) (b && not c)
taken_away true c both h = ap not h
taken_away false c both h = h

module _ (mask taken x e : ℕ) where
  without_bits : bit_at (without_mask mask taken x) e ≡ bit_at mask e && not (bit_at (taken * 2 ^ x % 2 ^ positions) e)
  without_bits =
      let moved : ℕ = taken * 2 ^ x % 2 ^ positions in
      xor_bit mask (bit_and mask moved) e ∙ taken_away (bit_at mask e) (bit_at moved e) (bit_at (bit_and mask moved) e) (and_bit mask moved e)

  without_bit : e < positions → bit_at (without_mask mask taken x) e ≡ bit_at mask e && not (taken_term taken x e)
  without_bit h = without_bits ∙ ap (λ (b : Bool). bit_at mask e && not b) (shifted_bit taken x e h)

  without_none : bit_at mask e ≡ false → bit_at (without_mask mask taken x) e ≡ false
  without_none h = without_bits ∙ rw h

  made_bit : bit_at (made_mask mask taken x) e ≡ bit_at mask (x + e) && bit_at taken e
  made_bit = and_bit _ taken e ∙ ap (λ (b : Bool). b && bit_at taken e) (shifted_down_bit mask x e)

without_mask_lem : (r column taken : List ℕ) (x : ℕ) → Without r column taken x → (i : ℕ) → i < max_rows → (minus : Bool)
    → mask_in r minus i ≡ without_mask (mask_in column minus i) (get_or taken i 0) x
without_mask_lem r column taken x w i h false = (w i h).0
without_mask_lem r column taken x w i h true = (w i h).1

made-mask : (r column taken : List ℕ) (x : ℕ) → Made r column taken x → (i : ℕ) → i < max_rows → (minus : Bool)
    → mask_in r minus i ≡ made_mask (mask_in column minus i) (get_or taken i 0) x
made-mask r column taken x w i h false = (w i h).0
made-mask r column taken x w i h true = (w i h).1

-- ---- columns by the signs that they say of each row

abbrev Says : (ℕ → Signs) → List (List ℕ) → Type 0
Says signs columns = (s i : ℕ) → s < term_symbols → i < max_rows → SignsAre (signs i s) (get_or columns s []) i

-- no term has an exponent past the positions
abbrev NonePast : (ℕ → Signs) → Type 0
NonePast signs = (i s e : ℕ) → positions ≤ e → signs i s e ≡ 0

-- without the terms of one symbol that are part of taken occurrences
abbrev without_part : List ℕ → ℕ → ℕ → (ℕ → Signs) → ℕ → Signs
without_part taken a x signs i s e = elim (part_as a x (bits_of (get_or taken i 0) positions) (place s e)) [ true ↦ 0 | false ↦ signs i s e ]

sign_lost : (minus part : Bool) (sign : ℕ) → eqb sign (sign_number minus) && not part ≡ eqb (elim part [ true ↦ 0 | false ↦ sign ]) (sign_number minus)
sign_lost minus true sign = and-false (eqb sign (sign_number minus)) ∙ sym (no_sign minus)
sign_lost minus false sign = and-true (eqb sign (sign_number minus))

none_lost : (part : Bool) (sign : ℕ) → sign ≡ 0 → ◌≡◌ {A = ℕ} (elim part [ true ↦ 0 | false ↦ sign ]) 0
none_lost true sign h = refl
none_lost false sign h = h

past_without : (taken : List ℕ) (a x : ℕ) (signs : ℕ → Signs) → NonePast signs → NonePast (without_part taken a x signs)
past_without taken a x signs past i s e h = none_lost (part_as a x (bits_of (get_or taken i 0) positions) (place s e)) (signs i s e) (past i s e h)

module _ (signs : ℕ → Signs) (past : NonePast signs) (columns : List (List ℕ)) (says : Says signs columns) (taken : List ℕ) (a x : ℕ) (inside : a < length columns)
    (r : List ℕ) (without : Without r (get_or columns a []) taken x) where
  -- the term of the symbol with an exponent
  part_own : (i e : ℕ) → e < positions → part_as a x (bits_of (get_or taken i 0) positions) (place a e) ≡ taken_term (get_or taken i 0) x e
  part_own i e h =
      rw (eq-eqb a a refl) (by_bool (leb x e)
      (λ y. let below : e - x < positions = omega arith in rw (y, bit_of_list (get_or taken i 0) positions (e - x) below))
      (λ n. rw n))

  part_other : (i s e : ℕ) → (s ≡ a → ⊥) → part_as a x (bits_of (get_or taken i 0) positions) (place s e) ≡ false
  part_other i s e h = rw (ne_eqb s a h)

  own_says : (i : ℕ) → a < term_symbols → i < max_rows → SignsAre (without_part taken a x signs i a) r i
  own_says i h l minus e =
      let part : Bool = part_as a x (bits_of (get_or taken i 0) positions) (place a e) in
      let mask : ℕ = mask_in (get_or columns a []) minus i in
      ap (λ (m : ℕ). bit_at m e) (without_mask_lem r (get_or columns a []) taken x without i l minus)
      ∙ by_bool (ltb e positions)
      (λ y.
      let below : e < positions = ltb-true e positions y in
      without_bit mask (get_or taken i 0) x e below
      ∙ ap (λ (b : Bool). bit_at mask e && not b) (sym (part_own i e below))
      ∙ ap (λ (b : Bool). b && not part) (says a i h l minus e)
      ∙ sign_lost minus part (signs i a e))
      (λ y.
      let none : signs i a e ≡ 0 = past i a e (ltb-false e positions y) in
      without_none mask (get_or taken i 0) x e (says a i h l minus e ∙ ap (λ (n : ℕ). eqb n (sign_number minus)) none ∙ no_sign minus)
      ∙ sym (ap (λ (n : ℕ). eqb n (sign_number minus)) (none_lost part (signs i a e) none) ∙ no_sign minus))

  says_without : Says (without_part taken a x signs) (set columns a r)
  says_without s i h l minus e =
      by_bool (eqb s a)
      (λ y.
      let same : s ≡ a = eqb-true s a y in
      rw (same, get_or-set_same columns a r [] inside) (own_says i (omega arith) l minus e))
      (λ n.
      let other : s ≡ a → ⊥ = eqb-false s a n in
      ap (λ (column : List ℕ). bit_at (mask_in column minus i) e) (get_or-set_other columns a s r [] other)
      ∙ says s i h l minus e
      ∙ ap (λ (b : Bool). eqb (elim b [ true ↦ 0 | false ↦ signs i s e ]) (sign_number minus)) (sym (part_other i s e other)))

both_parts : (p q : Bool) (sign : ℕ) → ◌≡◌ {A = ℕ} (elim q [ true ↦ 0 | false ↦ elim p [ true ↦ 0 | false ↦ sign ] ]) (elim (p || q) [ true ↦ 0 | false ↦ sign ])
both_parts true true sign = refl
both_parts true false sign = refl
both_parts false true sign = refl
both_parts false false sign = refl

-- ---- a row of the rows after a step; a row past the last has no terms

row-of-after : (symbol : ℕ) (d : Divisor) (rows : List Row) (i : ℕ) → get_or (rows_after symbol d rows) i [] ≡ row_after symbol d (get_or rows i [])
unfolding rows_after
row-of-after symbol d [] i = refl
row-of-after symbol d (r ∷ rows) zero = refl
row-of-after symbol d (r ∷ rows) (suc i) = row-of-after symbol d rows i

row_formed : (symbol : ℕ) (rows : List Row) → EachRow (WellFormed positions symbol) rows → (i : ℕ) → WellFormed positions symbol (get_or rows i [])
row_formed symbol [] w i = record { ascending = tt; none_twice = tt; exponents = λ t m. absurd (Memᴰ.not-nil m); symbols = λ t m. absurd (Memᴰ.not-nil m) }
row_formed symbol (r ∷ rows) w zero = w.0
row_formed symbol (r ∷ rows) w (suc i) = row_formed symbol rows w.1 i

-- ---- the columns after a step

module _ (symbol : ℕ) (d : Divisor) (rows : List Row) (columns : List (List ℕ)) (taken x y made : List ℕ) (inside : symbol < term_symbols) (proper : Proper d)
    (first : d.a < symbol) (second : d.b < symbol) (formed : EachRow (WellFormed positions symbol) rows) (long : length columns ≡ term_symbols)
    (says : ColumnsOf rows columns) (masks : TakenMasks d rows taken) where
  abbrev before : ℕ → Signs
  before = signs_in rows

  past : NonePast before
  past i s e h = none_past positions (get_or rows i []) (row_formed symbol rows formed i).exponents s e h

  say : Says before columns
  say s i h l = masks_signs (before i s) (get_or columns s []) i (says s i h l)

  -- the new symbol
  new_says : Made made (get_or columns d.a []) taken d.ea → (i : ℕ) → i < max_rows → SignsAre (sign_at (row_after symbol d (get_or rows i [])) symbol) made i
  new_says m i l minus e =
      let flag : Bool = get_or (taken_flags (before i) d positions) e false in
      let sign : ℕ = before i d.a (d.ea + e) in
      let a-inside : d.a < term_symbols = omega arith in
      ap (λ (mask : ℕ). bit_at mask e) (made-mask made (get_or columns d.a []) taken d.ea m i l minus)
      ∙ made_bit (mask_in (get_or columns d.a []) minus i) (get_or taken i 0) d.ea e
      ∙ ap (λ (b : Bool). b && bit_at (get_or taken i 0) e) (say d.a i a-inside l minus (d.ea + e))
      ∙ by_bool (ltb e positions)
      (λ yes.
      let below : e < positions = ltb-true e positions yes in
      let same : bit_at (get_or taken i 0) e ≡ flag = sym (bit_of_list (get_or taken i 0) positions e below) ∙ ap (λ (flags : List Bool). get_or flags e false) (masks i l) in
      ap (λ (b : Bool). eqb sign (sign_number minus) && b) same ∙ sign-made minus flag sign)
      (λ no.
      let none : sign ≡ 0 = past i d.a (d.ea + e) (omega (arith, ltb-false e positions no)) in
      ap (λ (n : ℕ). eqb n (sign_number minus) && bit_at (get_or taken i 0) e) none
      ∙ rw (no_sign minus) (sym (ap (λ (n : ℕ). eqb n (sign_number minus)) (none_made flag sign none) ∙ no_sign minus)))
      ∙ ap (λ (n : ℕ). eqb n (sign_number minus)) (sym (sign-after_new positions symbol d proper (get_or rows i []) (row_formed symbol rows formed i) e))
    where
      sign-made : (minus flag : Bool) (sign : ℕ) → eqb sign (sign_number minus) && flag ≡ eqb (elim flag [ true ↦ sign | false ↦ 0 ]) (sign_number minus)
      sign-made minus true sign = and-true (eqb sign (sign_number minus))
      sign-made minus false sign = and-false (eqb sign (sign_number minus)) ∙ sym (no_sign minus)

      none_made : (flag : Bool) (sign : ℕ) → sign ≡ 0 → ◌≡◌ {A = ℕ} (elim flag [ true ↦ sign | false ↦ 0 ]) 0
      none_made true sign h = h
      none_made false sign h = refl

  -- any other
  module _ (wx : Without x (get_or columns d.a []) taken d.ea) (wy : Without y (get_or (set columns d.a x) d.b []) taken d.eb) where
    abbrev without_first : ℕ → Signs
    without_first = without_part taken d.a d.ea before

    first_says : Says without_first (set columns d.a x)
    first_says = says_without before past columns say taken d.a d.ea (omega arith) x wx

    both_say : Says (without_part taken d.b d.eb without_first) (set (set columns d.a x) d.b y)
    both_say =
        says_without without_first (past_without taken d.a d.ea before past) (set columns d.a x) first_says taken d.b d.eb
        (omega (arith, length-set columns d.a x)) y wy

    old_says : (s i : ℕ) → s < term_symbols → i < max_rows → (s ≡ symbol → ⊥)
        → SignsAre (sign_at (row_after symbol d (get_or rows i [])) s) (get_or (set (set columns d.a x) d.b y) s []) i
    old_says s i h l other minus e =
        let flags : List Bool = bits_of (get_or taken i 0) positions in
        both_say s i h l minus e
        ∙ ap (λ (n : ℕ). eqb n (sign_number minus)) (
        both_parts (part_as d.a d.ea flags (place s e)) (part_as d.b d.eb flags (place s e)) (before i s e)
        ∙ ap (λ (l : List Bool). elim (part_of_taken d l (place s e)) [ true ↦ 0 | false ↦ before i s e ]) (masks i l)
        ∙ sym (sign-after_old positions symbol d proper (get_or rows i []) (row_formed symbol rows formed i) s e other))

pub columns-after : (symbol : ℕ) (d : Divisor) (rows : List Row) (columns : List (List ℕ)) (taken x y made : List ℕ) → symbol < term_symbols → Proper d
    → d.a < symbol → d.b < symbol → EachRow (WellFormed positions symbol) rows → length columns ≡ term_symbols → ColumnsOf rows columns → TakenMasks d rows taken
    → Without x (get_or columns d.a []) taken d.ea → Without y (get_or (set columns d.a x) d.b []) taken d.eb → Made made (get_or columns d.a []) taken d.ea
    → ColumnsOf (rows_after symbol d rows) (set (set (set columns d.a x) d.b y) symbol made)
columns-after symbol d rows columns taken x y made inside proper first second formed long says masks wx wy m s i h l =
    let two : List (List ℕ) = set (set columns d.a x) d.b y in
    let enough : length two ≡ term_symbols = length-set (set columns d.a x) d.b y ∙ length-set columns d.a x ∙ long in
    signs_masks (signs_in (rows_after symbol d rows) i s) (get_or (set two symbol made) s []) i (λ minus e.
    by_bool (eqb s symbol)
    (λ yes.
    let same : s ≡ symbol = eqb-true s symbol yes in
    rw (same, row-of-after symbol d rows i, get_or-set_same two symbol made [] (omega arith))
    (new_says symbol d rows columns taken x y made inside proper first second formed long says masks m i l minus e))
    (λ no.
    let other : s ≡ symbol → ⊥ = eqb-false s symbol no in
    rw (row-of-after symbol d rows i, get_or-set_other two symbol s made [] other)
    (old_says symbol d rows columns taken x y made inside proper first second formed long says masks wx wy s i h l other minus e)))
