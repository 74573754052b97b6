-- What masks say of one row: where a divisor occurs, what is taken of it and how often, and whether it occurs among the first co-divisors.
-- Assumes nothing.
use mathlib.Core.Path.{◌≡◌, refl, sym, ap, ap₂, ◌∙◌, subst}
use mathlib.Core.Bool.{Bool, true, false, not, ◌&&◌, ◌||◌, and-true}
use mathlib.Core.List.{List, [], ◌∷◌, ◌++◌}
use Prim.Native.Nat.{ℕ, zero, suc, ◌+◌, ◌-◌, ◌/◌, ◌%◌, ◌^◌, ◌≤◌, ◌<◌}
use native.Mathlib.Nat.{mod-lt}
use native.Mathlib.Decide.{dec_lt}
use native.Mathlib.Omega.{arith}
use lib.Dec.{leb, ltb, eqb}
use lib.Arith.{lt-one}
use lib.Pow.{pow_pos, split, shr_lt}
use lib.Bits.{bit_and}
use lib.Count.{ones, ones_in, ones_cat}
use lib.ListN.{get_or, get_or-eq_default}
use borrow.Author.Tests.{eqb-true, eqb-false, eq-eqb, ltb-true, lt-ltb, not-true}
use Rattle.integers.proofs.Truth.{same_truth}
use Rattle.limits.specs.Limits.{positions}
use Rattle.elimination_rules.specs.declared.Divisor.{Divisor}
use Rattle.elimination_rules.specs.RowOrder.{differ}
use Rattle.elimination_rules.specs.Lookup.{Signs, occurs_with, occurs_at, taken_flags, count_true}
use Rattle.elimination_rules.proofs.Tests.{by_test, by_bool, and_left, and_right, and_both, and_no_left, and_no_right, or_no_left, or_no_right, or_neither}
use Rattle.kept_rules.specs.Kept.{occurrence_changed, occurs_nowhere}
use Rattle.bits.specs.Bits.{bit_at, bits_of}
use Rattle.bits.proofs.BitLaws.{and_bit, or_bit, shifted_down_bit, remainder_bit, none_above, zero_bit, ones_bit, bit_below-added, bit_added, bits_equal, first-bits_equal, below_power, bits-length, bit_of_list, same_bits}
use Rattle.elimination_masks.specs.Masks.{occurrence_mask, occurrences_in, apart_mask, taken_in}
use Rattle.elimination_masks.specs.Columns.{MasksOf}
use Rattle.elimination_masks.proofs.Turns.{takes_at, apart_yes, apart_no, apart_below, ones_none}

-- ---- tests

not-differ : (a b : Bool) → differ a b ≡ false → a ≡ b
not-differ true true e = refl
not-differ true false e = e
not-differ false b e = sym e

differ_same : (a b : Bool) → a ≡ b → differ a b ≡ false
differ_same true b e = ap not (sym e)
differ_same false b e = sym e

-- ---- signs

-- a fact of each sign
of-signs : (P : ℕ → Type 0) → P 0 → P 1 → P 2 → (sign : ℕ) → sign ≤ 2 → P sign
of-signs P none plus minus zero h = none
of-signs P none plus minus (suc zero) h = plus
of-signs P none plus minus (suc (suc zero)) h = minus
of-signs P none plus minus (suc (suc (suc sign))) h = absurd (omega arith)

-- one sign is plus and the other that of the divisor, or one is minus and the other is not that of the divisor
abbrev both_there : Bool → ℕ → ℕ → Bool
both_there minus s t = (eqb s 1 && elim minus [ true ↦ eqb t 2 | false ↦ eqb t 1 ]) || (eqb s 2 && elim minus [ true ↦ eqb t 1 | false ↦ eqb t 2 ])

both-there : (minus : Bool) (s t : ℕ) → s ≤ 2 → t ≤ 2 → both_there minus s t ≡ occurs_with minus s t
both-there true s t h k = of-signs (λ s. both_there true s t ≡ occurs_with true s t)
    (of-signs (λ t. both_there true 0 t ≡ occurs_with true 0 t) refl refl refl t k)
    (of-signs (λ t. both_there true 1 t ≡ occurs_with true 1 t) refl refl refl t k)
    (of-signs (λ t. both_there true 2 t ≡ occurs_with true 2 t) refl refl refl t k)
    s h
both-there false s t h k = of-signs (λ s. both_there false s t ≡ occurs_with false s t)
    (of-signs (λ t. both_there false 0 t ≡ occurs_with false 0 t) refl refl refl t k)
    (of-signs (λ t. both_there false 1 t ≡ occurs_with false 1 t) refl refl refl t k)
    (of-signs (λ t. both_there false 2 t ≡ occurs_with false 2 t) refl refl refl t k)
    s h

-- ---- occurrences

-- bit c of the mask of occurrences says whether there is one
occurrence_bit : (d : Divisor) (f g : ℕ → ℕ) (x_plus x_minus y_plus y_minus : ℕ) → MasksOf f x_plus x_minus → MasksOf g y_plus y_minus
    → ((e : ℕ) → f e ≤ 2) → ((e : ℕ) → g e ≤ 2) → (c : ℕ)
    → bit_at (occurrence_mask d x_plus x_minus y_plus y_minus) c ≡ occurs_with d.minus (f (d.ea + c)) (g (d.eb + c))
unfolding occurrence_mask
occurrence_bit d f g x_plus x_minus y_plus y_minus first second few also c =
    or_bit (bit_and (x_plus / 2 ^ d.ea) (with_plus d.minus / 2 ^ d.eb)) (bit_and (x_minus / 2 ^ d.ea) (with_minus d.minus / 2 ^ d.eb)) c
    ∙ ap₂ (λ p m. p || m)
    (both_bit x_plus (with_plus d.minus) ∙ ap₂ (λ s t. s && t) (first.plus_bits (d.ea + c)) (with_plus_lem d.minus))
    (both_bit x_minus (with_minus d.minus) ∙ ap₂ (λ s t. s && t) (first.minus-bits (d.ea + c)) (with_minus_lem d.minus))
    ∙ both-there d.minus (f (d.ea + c)) (g (d.eb + c)) (few (d.ea + c)) (also (d.eb + c))
  where
    with_plus : Bool → ℕ
    with_plus minus = elim minus [ true ↦ y_minus | false ↦ y_plus ]

    with_minus : Bool → ℕ
    with_minus minus = elim minus [ true ↦ y_plus | false ↦ y_minus ]

    both_bit : (x y : ℕ) → bit_at (bit_and (x / 2 ^ d.ea) (y / 2 ^ d.eb)) c ≡ bit_at x (d.ea + c) && bit_at y (d.eb + c)
    both_bit x y = and_bit (x / 2 ^ d.ea) (y / 2 ^ d.eb) c ∙ ap₂ (λ s t. s && t) (shifted_down_bit x d.ea c) (shifted_down_bit y d.eb c)

    with_plus_lem : (minus : Bool) → bit_at (with_plus minus) (d.eb + c) ≡ elim minus [ true ↦ eqb (g (d.eb + c)) 2 | false ↦ eqb (g (d.eb + c)) 1 ]
    with_plus_lem true = second.minus-bits (d.eb + c)
    with_plus_lem false = second.plus_bits (d.eb + c)

    with_minus_lem : (minus : Bool) → bit_at (with_minus minus) (d.eb + c) ≡ elim minus [ true ↦ eqb (g (d.eb + c)) 1 | false ↦ eqb (g (d.eb + c)) 2 ]
    with_minus_lem true = second.plus_bits (d.eb + c)
    with_minus_lem false = second.minus-bits (d.eb + c)

-- a mask of a divisor's occurrences in a row
pub record OccurrencesOf (signs : Signs) (d : Divisor) (mask : ℕ) : Type 0 where
  pub bits : (c : ℕ) → bit_at mask c ≡ occurs_at signs d c
  pub below : mask < 2 ^ positions

pub occurrences_of : (signs : Signs) (d : Divisor) (x_plus x_minus y_plus y_minus : ℕ) → MasksOf (signs d.a) x_plus x_minus → MasksOf (signs d.b) y_plus y_minus
    → ((symbol e : ℕ) → signs symbol e ≤ 2) → ((e : ℕ) → positions ≤ e → signs d.a e ≡ 0) → OccurrencesOf signs d (occurrence_mask d x_plus x_minus y_plus y_minus)
occurrences_of signs d x_plus x_minus y_plus y_minus first second few none = record {
  bits = are;
  below = below_power (occurrence_mask d x_plus x_minus y_plus y_minus) positions
      (λ e h. are e ∙ ap (λ s. occurs_with d.minus s (signs d.b (d.eb + e))) (none (d.ea + e) (omega arith)));
}
  where
    are : (c : ℕ) → bit_at (occurrence_mask d x_plus x_minus y_plus y_minus) c ≡ occurs_at signs d c
    are c = occurrence_bit d (signs d.a) (signs d.b) x_plus x_minus y_plus y_minus first second (few d.a) (few d.b) c

-- ---- what is taken

-- past its bits a list has none, as the number has none
any_bit_of_list : (x n e : ℕ) → x < 2 ^ n → get_or (bits_of x n) e false ≡ bit_at x e
any_bit_of_list x n e h = go (dec_lt e n)
  where
    go : Dec (e < n) → get_or (bits_of x n) e false ≡ bit_at x e
    go (yes l) = bit_of_list x n e l
    go (no l) = get_or-eq_default (bits_of x n) false (omega (arith, bits-length x n)) ∙ sym (none_above x n e h (omega arith))

module _ (signs : Signs) (d : Divisor) (mask : ℕ) (occurs : (c : ℕ) → bit_at mask c ≡ occurs_at signs d c) where
  -- where a and b are two symbols, all are
  all-taken : eqb d.a d.b ≡ false → (n : ℕ) → bits_of mask n ≡ taken_flags signs d n
  unfolding bits_of taken_flags
  all-taken e zero = refl
  all-taken e (suc n) = ap₂ (λ flags flag. flags ++ (flag ∷ [])) (all-taken e n)
      (occurs n ∙ sym (ap (λ b. occurs_at signs d n && not (b && (leb d.eb n && get_or (taken_flags signs d n) (n - d.eb) false))) e ∙ and-true (occurs_at signs d n)))

  -- one more co-divisor: the bits below stay
  apart-bits : (n : ℕ) → bits_of (apart_mask mask d.eb (suc n)) (suc n) ≡ bits_of (apart_mask mask d.eb n) n ++ (takes_at mask d.eb (apart_mask mask d.eb n) n ∷ [])
  unfolding bits_of
  apart-bits n =
      let before : ℕ = apart_mask mask d.eb n in
      let below = apart_below mask d.eb n in
      by_bool (takes_at mask d.eb before n)
      (λ e. let next = apart_yes mask d.eb n e in
      ap₂ (λ flags flag. flags ++ (flag ∷ []))
      (ap (λ z. bits_of z n) next ∙ same_bits (before + 2 ^ n) before n (λ k h. bit_below-added before n k below h))
      (ap (λ z. bit_at z n) next ∙ bit_added before n below ∙ sym e))
      (λ e. let next = apart_no mask d.eb n e in
      ap₂ (λ flags flag. flags ++ (flag ∷ [])) (ap (λ z. bits_of z n) next)
      (ap (λ z. bit_at z n) next ∙ none_above before n n below (omega arith) ∙ sym e))

  apart-taken : eqb d.a d.b ≡ true → (n : ℕ) → bits_of (apart_mask mask d.eb n) n ≡ taken_flags signs d n
  unfolding bits_of taken_flags
  apart-taken e zero = refl
  apart-taken e (suc n) =
      let before : ℕ = apart_mask mask d.eb n in
      apart-bits n
      ∙ ap (λ flag. bits_of before n ++ (flag ∷ [])) (ap₂ (λ o t. o && not (leb d.eb n && t)) (occurs n) (sym (any_bit_of_list before n (n - d.eb) (apart_below mask d.eb n))))
      ∙ ap (λ flags. flags ++ ((occurs_at signs d n && not (leb d.eb n && get_or flags (n - d.eb) false)) ∷ [])) (apart-taken e n)
      ∙ ap (λ b. taken_flags signs d n ++ ((occurs_at signs d n && not (b && (leb d.eb n && get_or (taken_flags signs d n) (n - d.eb) false))) ∷ [])) (sym e)

-- a mask of what is taken of a divisor in a row
pub record TakenOf (signs : Signs) (d : Divisor) (mask : ℕ) : Type 0 where
  pub flags : bits_of mask positions ≡ taken_flags signs d positions
  pub below : mask < 2 ^ positions

pub taken_of : (signs : Signs) (d : Divisor) (x y : List ℕ) (i : ℕ) → OccurrencesOf signs d (occurrences_in d x y i) → TakenOf signs d (taken_in d x y i)
unfolding taken_in
taken_of signs d x y i occurrences =
    let mask : ℕ = occurrences_in d x y i in
    by_test (eqb d.a d.b) (apart_mask mask d.eb positions) mask (TakenOf signs d)
    (λ e. record { flags = apart-taken signs d mask occurrences.bits e positions; below = apart_below mask d.eb positions })
    (λ e. record { flags = all-taken signs d mask occurrences.bits e positions; below = occurrences.below })

-- ---- counts

count-append : (flags : List Bool) (flag : Bool) → count_true (flags ++ (flag ∷ [])) ≡ count_true flags + count_true (flag ∷ [])
unfolding count_true
count-append [] true = refl
count-append [] false = refl
count-append (true ∷ flags) flag = omega (arith, count-append flags flag)
count-append (false ∷ flags) flag = count-append flags flag

one-digit : (x : ℕ) → x < 2 → ones x ≡ count_true (eqb (x % 2) 1 ∷ [])
unfolding ones ones_in count_true
one-digit zero h = refl
one-digit (suc zero) h = refl
one-digit (suc (suc x)) h = absurd (omega arith)

pub ones_count : (n x : ℕ) → x < 2 ^ n → ones x ≡ count_true (bits_of x n)
unfolding bits_of bit_at count_true
ones_count zero x h = ap ones (lt-one h) ∙ ones_none
ones_count (suc n) x h =
    let high = one-digit (x / 2 ^ n) (shr_lt 1 n (subst (λ k. x < 2 ^ k) (let next : suc n ≡ 1 + n = omega arith in next) h)) in
    let low = ones_count n (x % 2 ^ n) (mod-lt x (pow_pos n)) ∙ ap count_true (same_bits (x % 2 ^ n) x n (λ e l. remainder_bit x n e l)) in
    let parts = ap ones (sym (split x n)) ∙ ones_cat n (x / 2 ^ n) (x % 2 ^ n) (mod-lt x (pow_pos n)) in
    let counted = count-append (bits_of x n) (bit_at x n) in
    omega arith

-- ---- among the first co-divisors

module _ (signs : Signs) (d : Divisor) where
  nowhere : (n : ℕ) → occurs_nowhere signs d n ≡ true → (c : ℕ) → c < n → occurs_at signs d c ≡ false
  unfolding occurs_nowhere
  nowhere zero e c h = absurd (omega arith)
  nowhere (suc n) e c h = by_bool (eqb c n)
      (λ here. ap (occurs_at signs d) (eqb-true c n here) ∙ not-true (occurs_at signs d n) (and_left (not (occurs_at signs d n)) (occurs_nowhere signs d n) e))
      (λ other. let before = eqb-false c n other in nowhere n (and_right (not (occurs_at signs d n)) (occurs_nowhere signs d n) e) c (omega arith))

  is_nowhere : (n : ℕ) → ((c : ℕ) → c < n → occurs_at signs d c ≡ false) → occurs_nowhere signs d n ≡ true
  unfolding occurs_nowhere
  is_nowhere zero none = refl
  is_nowhere (suc n) none = and_both (not (occurs_at signs d n)) (occurs_nowhere signs d n) (ap not (none n (omega arith))) (is_nowhere n (λ c h. none c (omega arith)))

  -- the bits below n are asked for
  pub nowhere_bits : (mask : ℕ) → ((c : ℕ) → bit_at mask c ≡ occurs_at signs d c) → (n : ℕ) → eqb (bit_and mask (2 ^ n - 1)) 0 ≡ occurs_nowhere signs d n
  nowhere_bits mask occurs n = same_truth (eqb (bit_and mask (2 ^ n - 1)) 0) (occurs_nowhere signs d n)
      (λ e. is_nowhere n (λ c h. sym (occurs c) ∙ sym (and-true (bit_at mask c)) ∙ ap (λ b. bit_at mask c && b) (sym (ones_bit n c ∙ lt-ltb c n h))
      ∙ sym (and_bit mask (2 ^ n - 1) c) ∙ ap (λ z. bit_at z c) (eqb-true (bit_and mask (2 ^ n - 1)) 0 e) ∙ zero_bit c))
      (λ e. eq-eqb (bit_and mask (2 ^ n - 1)) 0 (bits_equal (bit_and mask (2 ^ n - 1)) 0 (λ c. and_bit mask (2 ^ n - 1) c
      ∙ by_bool (ltb c n)
      (λ l. and_no_left (bit_at mask c) (bit_at (2 ^ n - 1) c) (occurs c ∙ nowhere n e c (ltb-true c n l)))
      (λ l. and_no_right (bit_at mask c) (bit_at (2 ^ n - 1) c) (ones_bit n c ∙ l))
      ∙ sym (zero_bit c))))

module _ (before after : Signs) (d : Divisor) where
  unchanged : (n : ℕ) → occurrence_changed before after d n ≡ false → (c : ℕ) → c < n → occurs_at before d c ≡ occurs_at after d c
  unfolding occurrence_changed
  unchanged zero e c h = absurd (omega arith)
  unchanged (suc n) e c h = by_bool (eqb c n)
      (λ here. ap (occurs_at before d) (eqb-true c n here)
      ∙ not-differ (occurs_at before d n) (occurs_at after d n) (or_no_left (differ (occurs_at before d n) (occurs_at after d n)) (occurrence_changed before after d n) e)
      ∙ ap (occurs_at after d) (sym (eqb-true c n here)))
      (λ other. let earlier = eqb-false c n other in
      unchanged n (or_no_right (differ (occurs_at before d n) (occurs_at after d n)) (occurrence_changed before after d n) e) c (omega arith))

  is_unchanged : (n : ℕ) → ((c : ℕ) → occurs_at before d c ≡ occurs_at after d c) → occurrence_changed before after d n ≡ false
  unfolding occurrence_changed
  is_unchanged zero same = refl
  is_unchanged (suc n) same = or_neither (differ (occurs_at before d n) (occurs_at after d n)) (occurrence_changed before after d n)
      (differ_same (occurs_at before d n) (occurs_at after d n) (same n)) (is_unchanged n same)

  -- masks of occurrences differ exactly where an occurrence is lost or gained
  pub changed_masks : (x y : ℕ) → OccurrencesOf before d x → OccurrencesOf after d y → not (eqb x y) ≡ occurrence_changed before after d positions
  changed_masks x y first second = by_bool (eqb x y)
      (λ e. ap not e ∙ sym (is_unchanged positions (λ c. sym (first.bits c) ∙ ap (λ z. bit_at z c) (eqb-true x y e) ∙ second.bits c)))
      (λ e. ap not e ∙ sym (by_bool (occurrence_changed before after d positions) (λ f. f)
      (λ f. absurd (eqb-false x y e (first-bits_equal positions x y first.below second.below
      (λ c h. first.bits c ∙ unchanged positions f c h ∙ sym (second.bits c)))))))
