-- What code finds as it goes through bytes: the end of a line, whether two lists of bytes are the same, and what digits say.
-- Assumes nothing.
use Prim.Native.Nat.{ℕ, suc, ◌+◌, ◌*◌, ◌-◌, ◌≤◌, ◌<◌, min}
use mathlib.Core.Path.{◌≡◌, refl, sym, ap, ◌∙◌}
use mathlib.Core.Bool.{Bool, true, false, ◌&&◌}
use mathlib.Core.Logic.{◌⊎◌, inl, inr, ⊎_elim}
use mathlib.Core.List.{List, [], ◌∷◌}
use native.Mathlib.Omega.{arith}
use lib.Dec.{eqb}
use lib.ListN.{length, get_or, drop, length-drop, drop_of_length-le}
use lib.Seq.{drop-cons, take-length}
use lib.Pointwise.{pointwise}
use Rattle.byte_slices.specs.Search.{index_of, index_after, slice}
use Rattle.text.specs.Decimal.{value_behind, decimal_value}
use Rattle.market_rules.specs.Lines.{line_feed, before_lines, lines, line}
use Rattle.market_rules.specs.Forms.{same, is_digit, leading_digits}

-- ---- the end of a line

before-length : (b : ℕ) (ls : List (List ℕ)) → length (get_or (before_lines b ls) 0 []) ≡ suc (length (get_or ls 0 []))
before-length b [] = refl
before-length b (first ∷ more) = refl

-- a line ends behind the first line feed, or where the text does
line_cases : (text : List ℕ) → ((index_of line_feed text < length text) × (length (line text 0) ≡ index_of line_feed text + 1))
    ⊎ ((index_of line_feed text ≡ length text) × (length (line text 0) ≡ length text))
unfolding lines index_of index_after
line_cases [] = inr (refl, refl)
line_cases (b ∷ text) = go (eqb b line_feed) (line_cases text)
  where
    split : Bool → List (List ℕ)
    split t = elim t [ true ↦ (b ∷ []) ∷ lines text | false ↦ before_lines b (lines text) ]

    go : (t : Bool) → ((index_of line_feed text < length text) × (length (line text 0) ≡ index_of line_feed text + 1))
        ⊎ ((index_of line_feed text ≡ length text) × (length (line text 0) ≡ length text))
        → ((index_after t (index_of line_feed text) < suc (length text)) × (length (get_or (split t) 0 []) ≡ index_after t (index_of line_feed text) + 1))
        ⊎ ((index_after t (index_of line_feed text) ≡ suc (length text)) × (length (get_or (split t) 0 []) ≡ suc (length text)))
    go true c = inl (omega arith, refl)
    go false (inl c) = inl (omega (arith, c.0), before-length b (lines text) ∙ omega (arith, c.1))
    go false (inr c) = inr (ap suc c.0, before-length b (lines text) ∙ ap suc c.1)

-- the part from a place on
from_place : (place : ℕ) (text : List ℕ) → slice place (length text) text ≡ drop place text
unfolding slice
from_place place text = ap (drop place) (take-length text)

module _ (text : List ℕ) (place found : ℕ) (within : place ≤ length text) (is : found ≡ place + index_of line_feed (slice place (length text) text)) where
  at_feed : found ≡ place + index_of line_feed (drop place text)
  at_feed = is ∙ ap (λ (l : List ℕ). place + index_of line_feed l) (from_place place text)

  pub end-behind : found < length text → found + 1 ≡ place + length (line (drop place text) 0)
  end-behind h =
      ⊎_elim (λ c. omega (arith, at_feed, c.1)) (λ c. absurd (omega (arith, at_feed, c.0, length-drop place text))) (line_cases (drop place text))

  pub end-open : length text ≤ found → found ≡ place + length (line (drop place text) 0)
  end-open h =
      ⊎_elim (λ c. absurd (omega (arith, at_feed, c.0, length-drop place text))) (λ c. omega (arith, at_feed, c.0, c.1)) (line_cases (drop place text))

  pub end-within : found ≤ length text
  end-within =
      ⊎_elim (λ c. omega (arith, at_feed, c.0, length-drop place text)) (λ c. omega (arith, at_feed, c.0, length-drop place text)) (line_cases (drop place text))

-- ---- the same bytes

-- what `==` answers at slices of bytes
pub equal_slices : (xs ys : List ℕ) → pointwise eqb xs ys ≡ same xs ys
unfolding same
equal_slices [] [] = refl
equal_slices [] (y ∷ ys) = refl
equal_slices (x ∷ xs) [] = refl
equal_slices (x ∷ xs) (y ∷ ys) = ap (λ (t : Bool). eqb x y && t) (equal_slices xs ys)

-- ---- digits

-- a value that stays at the most once it is above it
pub most-behind : (most value : ℕ) (ds : List ℕ) → min (value_behind value ds) most ≡ min (value_behind (min value most) ds) most
unfolding value_behind
most-behind most value [] = omega arith
most-behind most value (d ∷ ds) =
    let next : min (10 * value + (d - 48)) most ≡ min (10 * min value most + (d - 48)) most = omega arith in
    most-behind most (10 * value + (d - 48)) ds
    ∙ ap (λ (v : ℕ). min (value_behind v ds) most) next
    ∙ sym (most-behind most (10 * min value most + (d - 48)) ds)

leading_none : (b : ℕ) (bytes : List ℕ) → is_digit b ≡ false → leading_digits (b ∷ bytes) ≡ []
unfolding leading_digits
leading_none b bytes e = rw (e, leading_digits)

leading_one : (b : ℕ) (bytes : List ℕ) → is_digit b ≡ true → leading_digits (b ∷ bytes) ≡ b ∷ leading_digits bytes
unfolding leading_digits
leading_one b bytes e = rw (e, leading_digits)

module _ (bytes : List ℕ) (i : ℕ) where
  pub digits-end : length bytes ≤ i → leading_digits (drop i bytes) ≡ []
  unfolding leading_digits
  digits-end h = rw (drop_of_length-le bytes {i = i} h)

  module _ (more : i < length bytes) where
    pub no_digit : is_digit (get_or bytes i 0) ≡ false → leading_digits (drop i bytes) ≡ []
    no_digit e = ap leading_digits (drop-cons bytes i 0 more) ∙ leading_none (get_or bytes i 0) (drop (suc i) bytes) e

    pub one-digit : is_digit (get_or bytes i 0) ≡ true → leading_digits (drop i bytes) ≡ get_or bytes i 0 ∷ leading_digits (drop (i + 1) bytes)
    one-digit e =
        let next : suc i ≡ i + 1 = omega arith in
        ap leading_digits (drop-cons bytes i 0 more)
        ∙ leading_one (get_or bytes i 0) (drop (suc i) bytes) e
        ∙ ap (λ (j : ℕ). get_or bytes i 0 ∷ leading_digits (drop j bytes)) next

-- digits read from one place to another: those left say the rest
pub record DigitsFrom (bytes : List ℕ) (from end value : ℕ) : Type 0 where
  pub ends : from + length (leading_digits (drop from bytes)) ≡ end + length (leading_digits (drop end bytes))
  pub says : min (decimal_value (leading_digits (drop from bytes))) 65535 ≡ min (value_behind value (leading_digits (drop end bytes))) 65535

module _ (bytes : List ℕ) (from end value : ℕ) (read : DigitsFrom bytes from end value) where
  -- no digit is left
  pub digits_stop : value ≤ 65535 → leading_digits (drop end bytes) ≡ []
      → (end ≡ from + length (leading_digits (drop from bytes))) × (value ≡ min (decimal_value (leading_digits (drop from bytes))) 65535)
  unfolding value_behind
  digits_stop few none = (sym (read.ends ∙ rw none (omega arith)), sym (read.says ∙ rw none (omega arith)))

  -- one more
  pub digits_next : end < length bytes → is_digit (get_or bytes end 0) ≡ true
      → DigitsFrom bytes from (end + 1) (min (10 * value + (get_or bytes end 0 - 48)) 65535)
  unfolding value_behind
  digits_next more e =
      let one = one-digit bytes end more e in
      let left : List ℕ = leading_digits (drop (end + 1) bytes) in record {
        ends = read.ends ∙ omega (arith, ap length one);
        says = read.says ∙ ap (λ (l : List ℕ). min (value_behind value l) 65535) one ∙ most-behind 65535 (10 * value + (get_or bytes end 0 - 48)) left;
      }
