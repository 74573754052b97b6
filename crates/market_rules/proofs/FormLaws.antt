-- The computed forms of lines say what the statements of them say: a line passes the test of a form exactly where it has that form, and the
-- numbers read from it are those that it says.
-- Assumes nothing.
use Prim.Native.Nat.{ℕ, zero, suc, ◌+◌, ◌≤◌, ◌<◌}
use mathlib.Core.Path.{◌≡◌, refl, sym, ap, ap₂, ◌∙◌}
use mathlib.Core.Bool.{Bool, true, false, cond, ◌&&◌, true≢false}
use mathlib.Core.Logic.{◌↔◌, ◌⊎◌, inl, inr}
use mathlib.Core.List.{List, [], ◌∷◌, ◌++◌}
use native.Mathlib.Omega.{arith}
use lib.Dec.{leb, eqb}
use lib.IntN.{ℤ, pos, negsuc, neg_ℤ}
use lib.ListN.{length, get_or, drop, get_or-append}
use lib.Seq.{drop-append-add}
use lib.Signed.{◌≤ℤ◌}
use borrow.Author.Tests.{eqb-true, eq-eqb, ne_eqb}
use Rattle.integers.proofs.Expression.{nat, minus, at_most, at_most_parts}
use Rattle.netlist_rules.proofs.Conditions.{and_says, at_most_says, below_says}
use Rattle.text.specs.Decimal.{digit_byte, decimal_value}
use Rattle.market_rules.specs.Lines.{line_feed}
use Rattle.market_rules.specs.Forms.{blank, minus_sign, same, is_digit, leading_digits, nonempty, row_digits, column_digits, is_size, size_rows, size_columns, is_negative, is_entry, entry_value}
use Rattle.market_rules.specs.Tests.{Says, SizeLine, EntryLine}

-- ---- the same bytes

pub same-is_equal : (xs ys : List ℕ) → (same xs ys ≡ true) ↔ (xs ≡ ys)
unfolding same
same-is_equal [] [] = (λ e. refl, λ e. refl)
same-is_equal [] (y ∷ ys) = (λ e. absurd (true≢false (sym e)), λ e. absurd (omega (arith, ap length e)))
same-is_equal (x ∷ xs) [] = (λ e. absurd (true≢false (sym e)), λ e. absurd (omega (arith, ap length e)))
same-is_equal (x ∷ xs) (y ∷ ys) =
    let both = and_says (eqb x y) (same xs ys) (eqb-true x y, eq-eqb x y) (same-is_equal xs ys) in
    (λ e. let p = both.0 e in ap₂ ◌∷◌ p.0 p.1, λ e. both.1 (cc, cc))

-- ---- digits

abbrev pub Digits : List ℕ → Type 0
Digits ds = (i : ℕ) → i < length ds → (digit_byte 0 ≤ get_or ds i 0) × (get_or ds i 0 ≤ digit_byte 9)

pub digit_says : (b : ℕ) → (is_digit b ≡ true) ↔ ((digit_byte 0 ≤ b) × (b ≤ digit_byte 9))
digit_says b = and_says (leb (digit_byte 0) b) (leb b (digit_byte 9)) (at_most_says (digit_byte 0) b) (at_most_says b (digit_byte 9))

pub leading_all : (bytes : List ℕ) → Digits (leading_digits bytes)
unfolding leading_digits
leading_all [] i h = absurd (omega arith)
leading_all (b ∷ bytes) i h = go (is_digit b) refl (leading_all bytes) i h
  where
    go : (t : Bool) → is_digit b ≡ t → Digits (leading_digits bytes) → Digits (elim t [ true ↦ b ∷ leading_digits bytes | false ↦ [] ])
    go true e each zero h = (digit_says b).0 e
    go true e each (suc i) h = each i (omega arith)
    go false e each i h = absurd (omega arith)

-- digits before a byte that is none are the leading ones
pub leading_append : (ds : List ℕ) (b : ℕ) (rest : List ℕ) → Digits ds → is_digit b ≡ false → leading_digits (ds ++ (b ∷ rest)) ≡ ds
unfolding leading_digits
leading_append [] b rest each e = rw (e, leading_digits)
leading_append (d ∷ ds) b rest each e =
    rw ((digit_says d).1 (each 0 (omega arith)), leading_digits) (ap (λ (l : List ℕ). d ∷ l) (leading_append ds b rest (λ i h. each (suc i) (omega arith)) e))

leading_says : (bytes : List ℕ) → 1 ≤ length (leading_digits bytes) → Says (leading_digits bytes) (decimal_value (leading_digits bytes))
leading_says bytes h = record { one_or_more = h; decimal-digits = leading_all bytes; value_said = refl }

nonempty_says : (bytes : List ℕ) → (nonempty bytes ≡ true) ↔ (1 ≤ length bytes)
nonempty_says bytes = below_says 0 (length bytes)

abbrev ended : List ℕ → List ℕ
ended digits = digits ++ (line_feed ∷ [])

-- ---- the size line

module _ (bytes : List ℕ) where
  abbrev spelled : List ℕ
  spelled = row_digits bytes ++ (blank ∷ ended (column_digits bytes))

  size_says : (is_size bytes ≡ true) ↔ ((1 ≤ length (row_digits bytes)) × ((1 ≤ length (column_digits bytes)) × (bytes ≡ spelled)))
  unfolding is_size
  size_says =
      and_says (nonempty (row_digits bytes)) (nonempty (column_digits bytes) && same bytes spelled) (nonempty_says (row_digits bytes))
      (and_says (nonempty (column_digits bytes)) (same bytes spelled) (nonempty_says (column_digits bytes)) (same-is_equal bytes spelled))

  pub line-size : is_size bytes ≡ true → SizeLine bytes (size_rows bytes) (size_columns bytes)
  line-size e =
      let p = size_says.0 e in record {
        first = row_digits bytes;
        second = column_digits bytes;
        its_bytes = p.1.1;
        its_rows = leading_says bytes p.0;
        its_columns = leading_says (drop (length (row_digits bytes) + 1) bytes) p.1.0;
      }

  pub size-line : (m n : ℕ) → SizeLine bytes m n → (is_size bytes ≡ true) × (size_rows bytes ≡ m) × (size_columns bytes ≡ n)
  size-line m n l = (
    size_says.1 (rw rows l.its_rows.one_or_more, (rw columns l.its_columns.one_or_more, rw (columns, rows) l.its_bytes)),
    ap decimal_value rows ∙ l.its_rows.value_said,
    ap decimal_value columns ∙ l.its_columns.value_said,
  )
    where
      rows : row_digits bytes ≡ l.first
      rows = ap leading_digits l.its_bytes ∙ leading_append l.first blank (ended l.second) l.its_rows.decimal-digits refl

      columns : column_digits bytes ≡ l.second
      columns =
          ap₂ (λ (k : ℕ) (bytes : List ℕ). leading_digits (drop (k + 1) bytes)) (ap length rows) l.its_bytes
          ∙ ap leading_digits (drop-append-add l.first (blank ∷ ended l.second) 1)
          ∙ leading_append l.second line_feed [] l.its_columns.decimal-digits refl

-- ---- entries

-- by whether there is a minus: how far the digits' value may go, and the integer that is said
abbrev farthest : Bool → ℕ
farthest t = cond t 32768 32767

abbrev integer-of : Bool → ℕ → ℤ
integer-of t value = cond t (neg_ℤ (pos value)) (pos value)

in_range : (t : Bool) (value : ℕ) → (value ≤ farthest t) ↔ ((negsuc 32767 ≤ℤ integer-of t value) × (integer-of t value ≤ℤ pos 32767))
in_range true v = (
  λ h. (at_most (minus (nat 32768)) (minus (nat v)) (omega arith), at_most (minus (nat v)) (nat 32767) (omega arith)),
  λ p. omega (arith, at_most_parts (minus (nat 32768)) (minus (nat v)) p.0),
)
in_range false v = (
  λ h. (at_most (minus (nat 32768)) (nat v) (omega arith), at_most (nat v) (nat 32767) (omega arith)),
  λ p. omega (arith, at_most_parts (nat v) (nat 32767) p.1),
)

minus-first : (bytes : List ℕ) → is_negative bytes ≡ true → bytes ≡ minus_sign ∷ drop 1 bytes
minus-first [] e = absurd (true≢false (sym e))
minus-first (b ∷ bytes) e = ap (λ (x : ℕ). x ∷ bytes) (eqb-true b minus_sign e)

module _ (bytes : List ℕ) where
  abbrev behind-sign : Bool → List ℕ
  behind-sign t = drop (cond t 1 0) bytes

  abbrev digits-behind : Bool → List ℕ
  digits-behind t = leading_digits (behind-sign t)

  -- a signed line's sign
  abbrev Sign : List ℕ → ℕ → ℤ → Type 0
  Sign digits value z = ((bytes ≡ ended digits) × (z ≡ pos value)) ⊎ ((bytes ≡ minus_sign ∷ ended digits) × (z ≡ neg_ℤ (pos value)))

  entry_says : (t : Bool) → is_negative bytes ≡ t
      → (is_entry bytes ≡ true)
      ↔ ((1 ≤ length (digits-behind t)) × ((behind-sign t ≡ ended (digits-behind t)) × (decimal_value (digits-behind t) ≤ farthest t)))
  unfolding is_entry
  entry_says t e =
      let ends = same (behind-sign t) (ended (digits-behind t)) in
      let near = leb (decimal_value (digits-behind t)) (farthest t) in
      rw e
      (and_says (nonempty (digits-behind t)) (ends && near) (nonempty_says (digits-behind t))
      (and_says ends near (same-is_equal (behind-sign t) (ended (digits-behind t))) (at_most_says (decimal_value (digits-behind t)) (farthest t))))

  entry_is : (t : Bool) → is_negative bytes ≡ t → entry_value bytes ≡ integer-of t (decimal_value (digits-behind t))
  unfolding entry_value
  entry_is t e = rw e

  pub line_entry : is_entry bytes ≡ true → EntryLine bytes (entry_value bytes)
  line_entry e = by_sign (is_negative bytes) refl
    where
      sign : (t : Bool) (ds : List ℕ) (v : ℕ) → is_negative bytes ≡ t → behind-sign t ≡ ended ds → Sign ds v (integer-of t v)
      sign true ds v n e = inr (minus-first bytes n ∙ ap (λ (l : List ℕ). minus_sign ∷ l) e, refl)
      sign false ds v n e = inl (e, refl)

      by_sign : (t : Bool) → is_negative bytes ≡ t → EntryLine bytes (entry_value bytes)
      by_sign t n =
          let ds = digits-behind t in
          let v = decimal_value ds in
          let p = (entry_says t n).0 e in
          let range = (in_range t v).0 p.1.1 in
          rw (entry_is t n) (record {
            integer = record { digits = ds; value = v; its_value = leading_says (behind-sign t) p.0; its_sign = sign t ds v n p.1.0 };
            least = range.0;
            most = range.1;
          })

  pub entry_line : (z : ℤ) → EntryLine bytes z → (is_entry bytes ≡ true) × (entry_value bytes ≡ z)
  entry_line z l = go l.integer.its_sign
    where
      ds : List ℕ
      ds = l.integer.digits

      v : ℕ
      v = l.integer.value

      says : Says ds v
      says = l.integer.its_value

      by_sign : (t : Bool) → is_negative bytes ≡ t → behind-sign t ≡ ended ds → z ≡ integer-of t v → (is_entry bytes ≡ true) × (entry_value bytes ≡ z)
      by_sign t n e i =
          let its : digits-behind t ≡ ds = ap leading_digits e ∙ leading_append ds line_feed [] says.decimal-digits refl in
          let value : decimal_value (digits-behind t) ≡ v = ap decimal_value its ∙ says.value_said in
          let near = (in_range t v).1 (rw i at l.least, rw i at l.most) in (
            (entry_says t n).1 (rw its says.one_or_more, (rw its e, rw value near)),
            entry_is t n ∙ ap (integer-of t) value ∙ sym i,
          )

      go : Sign ds v z → (is_entry bytes ≡ true) × (entry_value bytes ≡ z)
      go (inl p) =
          let first = says.decimal-digits 0 says.one_or_more in
          let digit : get_or bytes 0 0 ≡ get_or ds 0 0 = ap (λ (l : List ℕ). get_or l 0 0) p.0 ∙ get_or-append ds (line_feed ∷ []) 0 0 says.one_or_more in
          by_sign false (ne_eqb (get_or bytes 0 0) minus_sign (λ m. omega arith)) p.0 p.1
      go (inr p) = by_sign true (eq-eqb (get_or bytes 0 0) minus_sign (ap (λ (l : List ℕ). get_or l 0 0) p.0)) (ap (drop 1) p.0) p.1
