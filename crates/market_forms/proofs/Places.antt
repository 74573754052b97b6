-- The forms of a size line and of an entry, by the bytes at the places where their digits end, which is how code tests them; and the word
-- of an entry.
-- Assumes nothing.
use Prim.Native.Nat.{ℕ, zero, suc, ◌+◌, ◌-◌, ◌%◌, ◌≤◌, ◌<◌}
use mathlib.Core.Path.{◌≡◌, refl, sym, ap, ◌∙◌}
use mathlib.Core.Bool.{Bool, true, false, cond, ◌&&◌, and-true, and_assoc}
use mathlib.Core.List.{List, [], ◌∷◌, ◌++◌}
use native.Mathlib.Omega.{arith}
use lib.Dec.{leb, ltb, eqb}
use lib.IntN.{pos, neg_ℤ}
use lib.ListN.{length, take, drop, length-drop}
use lib.Pointwise.{pointwise}
use lib.Seq.{drop-drop, take_all}
use borrow.Author.Tests.{eqb-true, eq-eqb}
use Rattle.std.specs.Int.{from_bool}
use Rattle.integers.proofs.Truth.{same_truth}
use Rattle.text.specs.Decimal.{decimal_value}
use Rattle.market_rules.specs.Lines.{line_feed}
use Rattle.market_rules.specs.Forms.{blank, minus_sign, same, is_digit, leading_digits, nonempty, row_digits, column_digits, is_size, is_negative, unsigned, entry_digits, is_entry, entry_value}
use Rattle.market_rules.specs.Market.{twos_complement}
use Rattle.market_lines.proofs.Scan.{equal_slices}
use Rattle.market_forms.specs.Ends.{is_number}

-- ---- digits, and what stands behind them

-- where the first bytes are the digits, the others are compared from the digits' end on
same-behind : (bytes rest : List ℕ) → same bytes (leading_digits bytes ++ rest) ≡ same (drop (length (leading_digits bytes)) bytes) rest
unfolding same leading_digits
same-behind [] rest = refl
same-behind (b ∷ bytes) rest = go (is_digit b) (same-behind bytes rest)
  where
    digits : Bool → List ℕ
    digits t = elim t [ true ↦ b ∷ leading_digits bytes | false ↦ [] ]

    go : (t : Bool) → same bytes (leading_digits bytes ++ rest) ≡ same (drop (length (leading_digits bytes)) bytes) rest
        → same (b ∷ bytes) (digits t ++ rest) ≡ same (drop (length (digits t)) (b ∷ bytes)) rest
    go true e = rw (eq-eqb b b refl) e
    go false e = refl

-- the part from a place on
part : (bytes : List ℕ) (place : ℕ) → take (length bytes - place) (drop place bytes) ≡ drop place bytes
part bytes place = take_all (length bytes - place) (drop place bytes) (omega (arith, length-drop place bytes))

-- some digits, and only a line feed behind them
pub number_ends : (bytes : List ℕ) (end : ℕ) → end ≡ 0 + length (leading_digits bytes)
    → is_number bytes ≡ ltb 0 end && pointwise eqb (take (length bytes - end) (drop end bytes)) (line_feed ∷ [])
number_ends bytes end is =
    let count : end ≡ length (leading_digits bytes) = omega (arith, is) in
    rw (part bytes end, count)
    (ap (λ (t : Bool). nonempty (leading_digits bytes) && t) (same-behind bytes (line_feed ∷ []) ∙ sym (equal_slices (drop (length (leading_digits bytes)) bytes) (line_feed ∷ []))))

-- ---- a size line

same-first : (b : ℕ) (bytes rest : List ℕ) → same bytes (b ∷ rest) ≡ pointwise eqb (take 1 bytes) (b ∷ []) && same (drop 1 bytes) rest
unfolding same
same-first b [] rest = refl
same-first b (x ∷ bytes) rest = go (eqb x b)
  where
    go : (t : Bool) → t && same bytes rest ≡ (t && true) && same bytes rest
    go true = refl
    go false = refl

swapped : (p q r : Bool) → p && (q && r) ≡ q && (p && r)
swapped true q r = refl
swapped false true r = refl
swapped false false r = refl

module _ (bytes : List ℕ) (end : ℕ) (is : end ≡ 0 + length (row_digits bytes)) where
  -- what stands behind the digits of m, and behind one byte more
  abbrev rest : List ℕ
  rest = take (length bytes - end) (drop end bytes)

  pub behind_blank : drop 1 rest ≡ drop (length (row_digits bytes) + 1) bytes
  behind_blank =
      let count : end ≡ length (row_digits bytes) = omega (arith, is) in
      ap (drop 1) (part bytes end) ∙ drop-drop 1 end bytes ∙ ap (λ (k : ℕ). drop (k + 1) bytes) count

  -- the digits of m are some, a blank stands behind them, and n is a number to the line's end
  pub size_ends : is_size bytes ≡ ltb 0 end && (pointwise eqb (take 1 rest) (blank ∷ []) && is_number (drop 1 rest))
  unfolding is_size
  size_ends =
      let first : ℕ = length (row_digits bytes) in
      let second : List ℕ = column_digits bytes in
      let last : List ℕ = second ++ (line_feed ∷ []) in
      let count : end ≡ length (row_digits bytes) = omega (arith, is) in
      rw (behind_blank, part bytes end, count)
      (ap (λ (t : Bool). nonempty (row_digits bytes) && t)
      (ap (λ (t : Bool). nonempty second && t) (same-behind bytes (blank ∷ last) ∙ same-first blank (drop first bytes) last)
      ∙ swapped (nonempty second) _ _
      ∙ ap (λ (l : List ℕ). pointwise eqb (take 1 (drop first bytes)) (blank ∷ []) && (nonempty second && same l last)) (drop-drop 1 first bytes)))

-- ---- an entry

minus_first : (bytes : List ℕ) → pointwise eqb (minus_sign ∷ []) (take 1 bytes) ≡ is_negative bytes
minus_first [] = refl
minus_first (b ∷ bytes) = and-true (eqb minus_sign b) ∙ same_truth _ _ (λ e. omega (arith, eqb-true, eq-eqb)) (λ e. omega (arith, eqb-true, eq-eqb))

counted : (t : Bool) → from_bool t ≡ cond t 1 0
counted true = refl
counted false = refl

-- a minus stands first, and the part from the first byte on, or from the second, is what follows the optional minus
module _ (bytes : List ℕ) (negative : Bool) (is : negative ≡ pointwise eqb (minus_sign ∷ []) (take 1 bytes)) where
  pub by_minus : negative ≡ is_negative bytes
  by_minus = is ∙ minus_first bytes

  pub unsigned_part : (from : ℕ) → from ≡ from_bool negative → take (length bytes - from) (drop from bytes) ≡ unsigned bytes
  unsigned_part from begins = part bytes from ∙ ap (λ (k : ℕ). drop k bytes) (begins ∙ ap from_bool by_minus ∙ counted (is_negative bytes))

-- it is a number to the line's end, and its value is in the range
pub entry_ends : (bytes : List ℕ) → is_entry bytes ≡ is_number (unsigned bytes) && leb (decimal_value (entry_digits bytes)) (cond (is_negative bytes) 32768 32767)
unfolding is_entry
entry_ends bytes = sym (and_assoc (nonempty (entry_digits bytes)) _ _)

-- ---- the word of an entry

negative_word : (value word : ℕ) → value ≤ 32768 → word < 65536 → (word + value) % 65536 ≡ 0 → word ≡ twos_complement (neg_ℤ (pos value))
negative_word zero word within fits sum = omega (arith, sum)
negative_word (suc value) word within fits sum = omega (arith, sum)

module _ (bytes : List ℕ) where
  abbrev value : ℕ
  value = decimal_value (entry_digits bytes)

  abbrev signed : Bool → ℕ
  signed t = twos_complement (cond t (neg_ℤ (pos value)) (pos value))

  pub word_with_minus : is_negative bytes ≡ true → (word : ℕ) → value ≤ 32768 → word < 65536 → (word + value) % 65536 ≡ 0 → word ≡ twos_complement (entry_value bytes)
  unfolding entry_value
  word_with_minus e word within fits sum = negative_word value word within fits sum ∙ sym (ap signed e)

  pub word_without_minus : is_negative bytes ≡ false → value ≡ twos_complement (entry_value bytes)
  unfolding entry_value
  word_without_minus e = sym (ap signed e)
