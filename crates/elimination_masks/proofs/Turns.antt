-- What each co-divisor and each row adds to what is worked out on masks.
-- Assumes nothing.
use mathlib.Core.Path.{◌≡◌, refl, sym, ap, ap₂, ◌∙◌, subst}
use mathlib.Core.Bool.{Bool, true, false, not, ◌&&◌, ◌||◌, and-true, or-false, and_assoc}
use mathlib.Core.List.{List}
use Prim.Native.Nat.{ℕ, zero, suc, ◌+◌, ◌-◌, ◌*◌, ◌%◌, ◌^◌, ◌≤◌, ◌<◌}
use native.Mathlib.Numerals.{add-one}
use native.Mathlib.Omega.{arith}
use lib.Dec.{leb, eqb}
use lib.Pow.{pow_mono}
use lib.Bits.{bit_and, bit_or, bit_xor, or_add_and, xor_add_and, xor_self, and_le_l, and_le_r}
use lib.Count.{ones}
use lib.ListN.{length, get_or, set, length-set}
use lib.Seq.{get_or-set_same, get_or-set_other}
use borrow.Author.Tests.{eqb-true, eqb-false, eq-eqb, ne_eqb}
use Rattle.limits.specs.Limits.{max_rows, positions, max_shift}
use Rattle.elimination_rules.specs.declared.Divisor.{Divisor}
use Rattle.elimination_rules.proofs.Tests.{by_bool}
use Rattle.bits.specs.Bits.{bit_at}
use Rattle.bits.proofs.BitLaws.{zero_bit}
use Rattle.elimination_masks.specs.Masks.{plus_in, minus_in, occurrences_in, apart_mask, taken_in, mask_score_from, masks_differ_from, none_among_from}

-- ---- what a branch gives

pub yes_branch : {A : Type 0} (b : Bool) (x y : A) → b ≡ true → x ≡ elim b [ true ↦ x | false ↦ y ]
yes_branch b x y e = rw e

pub no_branch : {A : Type 0} (b : Bool) (x y : A) → b ≡ false → y ≡ elim b [ true ↦ x | false ↦ y ]
no_branch b x y e = rw e

-- ---- one co-divisor more, where a and b are one symbol

-- there is an occurrence, and that of a distance before it is not taken
abbrev pub takes_at : ℕ → ℕ → ℕ → ℕ → Bool
takes_at occurrences distance taken c = bit_at occurrences c && not (leb distance c && bit_at taken (c - distance))

module _ (occurrences distance : ℕ) where
  pub apart-start : apart_mask occurrences distance 0 ≡ 0
  unfolding apart_mask
  apart-start = refl

  pub apart_next : (c : ℕ) → apart_mask occurrences distance (suc c)
      ≡ elim (takes_at occurrences distance (apart_mask occurrences distance c) c) [ true ↦ apart_mask occurrences distance c + 2 ^ c | false ↦ apart_mask occurrences distance c ]
  unfolding apart_mask
  apart_next c = refl

  pub apart_yes : (c : ℕ) → takes_at occurrences distance (apart_mask occurrences distance c) c ≡ true → apart_mask occurrences distance (suc c) ≡ apart_mask occurrences distance c + 2 ^ c
  apart_yes c e = apart_next c ∙ sym (yes_branch (takes_at occurrences distance (apart_mask occurrences distance c) c) _ _ e)

  pub apart_no : (c : ℕ) → takes_at occurrences distance (apart_mask occurrences distance c) c ≡ false → apart_mask occurrences distance (suc c) ≡ apart_mask occurrences distance c
  apart_no c e = apart_next c ∙ sym (no_branch (takes_at occurrences distance (apart_mask occurrences distance c) c) _ _ e)

  pub apart_below : (c : ℕ) → apart_mask occurrences distance c < 2 ^ c
  apart_below zero = omega (arith, apart-start)
  apart_below (suc c) =
      let before = apart_below c in
      by_bool (takes_at occurrences distance (apart_mask occurrences distance c) c) (λ e. let next = apart_yes c e in omega arith) (λ e. let next = apart_no c e in omega arith)

  -- as the code adds a bit to what is taken so far
  module _ (c taken : ℕ) (so_far : taken ≡ apart_mask occurrences distance c) where
    pub bit_fits : c < positions → taken + 1 * 2 ^ c % 2 ^ positions < 2 ^ positions
    bit_fits below =
        let power : 2 ^ c ≤ 2 ^ max_shift = pow_mono {j = max_shift} (omega arith) in
        let small = apart_below c in
        omega arith

    pub apart-taken : c < positions → takes_at occurrences distance taken c ≡ true → taken + 1 * 2 ^ c % 2 ^ positions ≡ apart_mask occurrences distance (c + 1)
    apart-taken below e =
        let power : 2 ^ c ≤ 2 ^ max_shift = pow_mono {j = max_shift} (omega arith) in
        let next = apart_yes c (ap (λ z. takes_at occurrences distance z c) (sym so_far) ∙ e) in
        rw (add-one c, next) (omega arith)

    pub apart_left : takes_at occurrences distance taken c ≡ false → taken ≡ apart_mask occurrences distance (c + 1)
    apart_left e =
        let next = apart_no c (ap (λ z. takes_at occurrences distance z c) (sym so_far) ∙ e) in
        rw (add-one c, next) so_far

-- nothing is taken where nothing occurs
pub apart_none : (distance c : ℕ) → apart_mask 0 distance c ≡ 0
apart_none distance zero = apart-start 0 distance
apart_none distance (suc c) =
    apart_no 0 distance c (ap (λ z. z && not (leb distance c && bit_at (apart_mask 0 distance c) (c - distance))) (zero_bit c)) ∙ apart_none distance c

pub ones_none : ones 0 ≡ 0
unfolding ones
ones_none = refl

-- ---- a number all of whose bits are none, and two that have the same

or_none : (a b : ℕ) → eqb (bit_or a b) 0 ≡ eqb a 0 && eqb b 0
or_none a b = by_bool (eqb (bit_or a b) 0)
    (λ e. let none = eqb-true (bit_or a b) 0 e in
    let sum = or_add_and a b in let left = and_le_l a b in let right = and_le_r a b in
    let first : a ≡ 0 = omega arith in let second : b ≡ 0 = omega arith in
    e ∙ sym (ap₂ (λ s t. s && t) (eq-eqb a 0 first) (eq-eqb b 0 second)))
    (λ e. by_bool (eqb a 0)
    (λ f. by_bool (eqb b 0) (λ g. absurd (eqb-false (bit_or a b) 0 e (ap₂ bit_or (eqb-true a 0 f) (eqb-true b 0 g)))) (λ g. e ∙ sym (ap₂ (λ s t. s && t) f g)))
    (λ f. e ∙ sym (ap (λ s. s && eqb b 0) f)))

xor_none : (a b : ℕ) → eqb (bit_xor a b) 0 ≡ eqb a b
xor_none a b = by_bool (eqb a b)
    (λ e. eq-eqb (bit_xor a b) 0 (ap (λ z. bit_xor z b) (eqb-true a b e) ∙ xor_self b) ∙ sym e)
    (λ e. ne_eqb (bit_xor a b) 0 (λ none. let sum = xor_add_and a b in let left = and_le_l a b in let right = and_le_r a b in
    eqb-false a b e (omega arith)) ∙ sym e)

-- ---- one row more

-- rows left: this one and those behind it, and none behind the last
left_next : (i : ℕ) → i < max_rows → max_rows - i ≡ suc (max_rows - (i + 1))
left_next i h = omega arith

left_end : (i : ℕ) → i ≡ max_rows → max_rows - i ≡ 0
left_end i e = omega arith

module _ (d : Divisor) (x y : List ℕ) (i : ℕ) where
  pub taken-apart : d.a ≡ d.b → taken_in d x y i ≡ apart_mask (occurrences_in d x y i) d.eb positions
  unfolding taken_in
  taken-apart e = sym (yes_branch (eqb d.a d.b) _ _ (eq-eqb d.a d.b e))

  pub taken-all : (d.a ≡ d.b → ⊥) → taken_in d x y i ≡ occurrences_in d x y i
  unfolding taken_in
  taken-all e = sym (no_branch (eqb d.a d.b) _ _ (ne_eqb d.a d.b e))

  pub score_next : i < max_rows → mask_score_from d x y i (max_rows - i) ≡ ones (taken_in d x y i) + mask_score_from d x y (i + 1) (max_rows - (i + 1))
  unfolding mask_score_from
  score_next h = ap (mask_score_from d x y i) (left_next i h) ∙ ap (λ j. ones (taken_in d x y i) + mask_score_from d x y j (max_rows - (i + 1))) (sym (add-one i))

  pub score-end : i ≡ max_rows → mask_score_from d x y i (max_rows - i) ≡ 0
  unfolding mask_score_from
  score-end e = ap (mask_score_from d x y i) (left_end i e)

  module _ (asked : ℕ → ℕ) where
    pub none_next : (met o : ℕ) → i < max_rows → o ≡ occurrences_in d x y i
        → eqb (bit_or met (bit_and o (asked i))) 0 && none_among_from d x y asked (i + 1) (max_rows - (i + 1)) ≡ eqb met 0 && none_among_from d x y asked i (max_rows - i)
    unfolding none_among_from
    none_next met o h e = ap (λ b. b && none_among_from d x y asked (i + 1) (max_rows - (i + 1))) (or_none met (bit_and o (asked i)))
        ∙ and_assoc (eqb met 0) (eqb (bit_and o (asked i)) 0) (none_among_from d x y asked (i + 1) (max_rows - (i + 1)))
        ∙ ap₂ (λ z j. eqb met 0 && (eqb (bit_and z (asked i)) 0 && none_among_from d x y asked j (max_rows - (i + 1)))) e (add-one i)
        ∙ ap (λ k. eqb met 0 && none_among_from d x y asked i k) (sym (left_next i h))

    pub none_end : (met : ℕ) → i ≡ max_rows → eqb met 0 ≡ eqb met 0 && none_among_from d x y asked i (max_rows - i)
    unfolding none_among_from
    none_end met e = sym (ap (λ k. eqb met 0 && none_among_from d x y asked i k) (left_end i e) ∙ and-true (eqb met 0))

module _ (d : Divisor) (x y u v : List ℕ) (i : ℕ) where
  pub differ_next : (changed o p : ℕ) → i < max_rows → o ≡ occurrences_in d x y i → p ≡ occurrences_in d u v i
      → not (eqb (bit_or changed (bit_xor o p)) 0) || masks_differ_from d x y u v (i + 1) (max_rows - (i + 1)) ≡ not (eqb changed 0) || masks_differ_from d x y u v i (max_rows - i)
  unfolding masks_differ_from
  differ_next changed o p h e f =
      ap (λ b. not b || masks_differ_from d x y u v (i + 1) (max_rows - (i + 1))) (or_none changed (bit_xor o p) ∙ ap (λ b. eqb changed 0 && b) (xor_none o p))
      ∙ or_regroup (eqb changed 0) (eqb o p) (masks_differ_from d x y u v (i + 1) (max_rows - (i + 1)))
      ∙ ap₂ (λ z w. not (eqb changed 0) || (not (eqb z w) || masks_differ_from d x y u v (i + 1) (max_rows - (i + 1)))) e f
      ∙ ap (λ j. not (eqb changed 0) || (not (eqb (occurrences_in d x y i) (occurrences_in d u v i)) || masks_differ_from d x y u v j (max_rows - (i + 1)))) (add-one i)
      ∙ ap (λ k. not (eqb changed 0) || masks_differ_from d x y u v i k) (sym (left_next i h))
    where
      or_regroup : (a b c : Bool) → not (a && b) || c ≡ not a || (not b || c)
      or_regroup true b c = refl
      or_regroup false b c = refl

  pub differ-end : (changed : ℕ) → i ≡ max_rows → not (eqb changed 0) ≡ not (eqb changed 0) || masks_differ_from d x y u v i (max_rows - i)
  unfolding masks_differ_from
  differ-end changed e = sym (ap (λ k. not (eqb changed 0) || masks_differ_from d x y u v i k) (left_end i e) ∙ or-false (not (eqb changed 0)))

-- a column as long as it was, with the masks of both signs in the rows before one
abbrev pub EachBefore : (ℕ → ℕ → ℕ) → ℕ → List ℕ → List ℕ → List ℕ → Type 0
EachBefore f n x taken out = (length out ≡ max_rows + max_rows)
    × ((i : ℕ) → i < n → (plus_in out i ≡ f (plus_in x i) (get_or taken i 0)) × (minus_in out i ≡ f (minus_in x i) (get_or taken i 0)))

pub each_next : (f : ℕ → ℕ → ℕ) (n : ℕ) (x taken out : List ℕ) → n < max_rows → EachBefore f n x taken out
    → EachBefore f (n + 1) x taken (set (set out n (f (plus_in x n) (get_or taken n 0))) (max_rows + n) (f (minus_in x n) (get_or taken n 0)))
each_next f n x taken out below (long, before) = (
  length-set first (max_rows + n) minus ∙ length-set out n plus ∙ long,
  λ i h. by_bool (eqb i n)
      (λ e. let here = eqb-true i n e in
      subst (λ (i : ℕ). (plus_in after i ≡ f (plus_in x i) (get_or taken i 0)) × (minus_in after i ≡ f (minus_in x i) (get_or taken i 0))) (sym here) (
        get_or-set_other first (max_rows + n) n minus 0 (λ same. omega arith) ∙ get_or-set_same out n plus 0 (omega arith),
        get_or-set_same first (max_rows + n) minus 0 (omega (arith, length-set out n plus)),
      ))
      (λ e. let other = eqb-false i n e in
      let old = before i (omega arith) in (
        get_or-set_other first (max_rows + n) i minus 0 (λ same. omega arith) ∙ get_or-set_other out n i plus 0 other ∙ old.0,
        get_or-set_other first (max_rows + n) (max_rows + i) minus 0 (λ same. other (omega arith)) ∙ get_or-set_other out n (max_rows + i) plus 0 (λ same. omega arith) ∙ old.1,
      )),
)
  where
    plus : ℕ
    plus = f (plus_in x n) (get_or taken n 0)

    minus : ℕ
    minus = f (minus_in x n) (get_or taken n 0)

    first : List ℕ
    first = set out n plus

    after : List ℕ
    after = set first (max_rows + n) minus

-- what is taken in the rows before one
abbrev pub TakenBefore : Divisor → List ℕ → List ℕ → ℕ → List ℕ → Type 0
TakenBefore d x y n out = (length out ≡ max_rows) × ((i : ℕ) → i < n → get_or out i 0 ≡ taken_in d x y i)

pub taken_next : (d : Divisor) (x y : List ℕ) (n : ℕ) (out : List ℕ) (mask : ℕ) → n < max_rows → mask ≡ taken_in d x y n → TakenBefore d x y n out
    → TakenBefore d x y (n + 1) (set out n mask)
taken_next d x y n out mask below found (long, before) = (
  length-set out n mask ∙ long,
  λ i h. by_bool (eqb i n)
      (λ e. let here = eqb-true i n e in
      subst (λ (i : ℕ). get_or (set out n mask) i 0 ≡ taken_in d x y i) (sym here) (get_or-set_same out n mask 0 (omega arith) ∙ found))
      (λ e. let other = eqb-false i n e in get_or-set_other out n i mask 0 other ∙ before i (omega arith)),
)
