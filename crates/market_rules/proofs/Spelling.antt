-- An integer's digits, zeros before them allowed, are any number of zeros and the number; and so of the lines that say integers.
-- Assumes nothing.
use Prim.Native.Nat.{ℕ, zero, suc, ◌+◌, ◌*◌, ◌-◌, ◌/◌, ◌%◌, ◌≤◌, ◌<◌}
use mathlib.Core.Path.{◌≡◌, refl, sym, ap, ap₂, ◌∙◌, subst}
use mathlib.Core.Logic.{◌↔◌, inl, inr, ⊎_elim}
use mathlib.Core.List.{List, [], ◌∷◌, ◌++◌, append-nil}
use native.Mathlib.Nat.{eq-zero-or-pos}
use native.Mathlib.Omega.{arith}
use lib.IntN.{ℤ}
use lib.ListN.{length, get_or, replicate, length-append}
use lib.Seq.{append_snoc}
use Rattle.text.specs.Decimal.{digit_byte, number, value_behind, decimal_value}
use Rattle.text.proofs.Decimal.{number_small, number_large, number_back, some-digit}
use Rattle.market_rules.specs.Lines.{line_feed}
use Rattle.market_rules.specs.Forms.{minus_sign}
use Rattle.market_rules.specs.Tests.{Says, SizeLine, SignedLine}
use Rattle.market_rules.specs.File.{Spells, SizeSpelled, EntrySpelled}
use Rattle.market_rules.proofs.FormLaws.{Digits}

abbrev IsDigit : ℕ → Type 0
IsDigit d = (digit_byte 0 ≤ d) × (d ≤ digit_byte 9)

-- ---- from digits to the number

one-digit : (d : ℕ) → IsDigit d → d ∷ [] ≡ number (10 * 0 + (d - digit_byte 0))
one-digit d is =
    let same : d ≡ digit_byte (10 * 0 + (d - digit_byte 0)) = omega arith in
    ap (λ (x : ℕ). x ∷ []) same ∙ sym (number_small (10 * 0 + (d - digit_byte 0)) (omega arith))

-- a digit behind a number that is not 0
digit-behind : (value d : ℕ) → 1 ≤ value → IsDigit d → number value ++ (d ∷ []) ≡ number (10 * value + (d - digit_byte 0))
digit-behind value d some is =
    let next = 10 * value + (d - digit_byte 0) in
    let before : value ≡ next / 10 = omega arith in
    let last : d ≡ digit_byte (next % 10) = omega arith in
    ap₂ (λ (v x : ℕ). number v ++ (x ∷ [])) before last ∙ sym (number_large next (omega arith))

digits-behind : (ds : List ℕ) (value : ℕ) → 1 ≤ value → Digits ds → number value ++ ds ≡ number (value_behind value ds)
unfolding value_behind
digits-behind [] value some each = append-nil (number value)
digits-behind (d ∷ ds) value some each =
    sym (append_snoc (number value) d ds)
    ∙ ap (λ (l : List ℕ). l ++ ds) (digit-behind value d some (each 0 (omega arith)))
    ∙ digits-behind ds (10 * value + (d - digit_byte 0)) (omega arith) (λ i h. each (suc i) (omega arith))

-- a zero before digits
zero-before : (d value : ℕ) (ds : List ℕ) → d ≡ digit_byte 0 → Spells ds value → Spells (d ∷ ds) value
zero-before d value ds e s = record { zeros = suc s.zeros; its_bytes = ap₂ (λ (x : ℕ) (l : List ℕ). x ∷ l) e s.its_bytes }

digits_spell : (d : ℕ) (ds : List ℕ) → Digits (d ∷ ds) → Spells (d ∷ ds) (decimal_value (d ∷ ds))
unfolding value_behind
digits_spell d [] each = record { zeros = 0; its_bytes = one-digit d (each 0 (omega arith)) }
digits_spell d (e ∷ es) each =
    let first = each 0 (omega arith) in
    let value = 10 * 0 + (d - digit_byte 0) in
    let behind : Digits (e ∷ es) = λ i h. each (suc i) (omega arith) in
    let later = digits_spell e es behind in
    ⊎_elim
    (λ none.
    let no_value : 0 ≡ value = omega arith in
    zero-before d (value_behind value (e ∷ es)) (e ∷ es) (omega arith) (subst (λ (v : ℕ). Spells (e ∷ es) (value_behind v (e ∷ es))) no_value later))
    (λ some. record {
      zeros = 0;
      its_bytes = ap (λ (l : List ℕ). l ++ (e ∷ es)) (one-digit d first) ∙ digits-behind (e ∷ es) value some behind;
    })
    (eq-zero-or-pos value)

-- ---- from the number to digits

-- what holds of each of some bytes and of each of others holds of each of both
pub append-each : (P : ℕ → Type 0) (xs ys : List ℕ) → ((i : ℕ) → i < length xs → P (get_or xs i 0)) → ((i : ℕ) → i < length ys → P (get_or ys i 0))
    → (i : ℕ) → i < length (xs ++ ys) → P (get_or (xs ++ ys) i 0)
append-each P [] ys these those i h = those i h
append-each P (x ∷ xs) ys these those zero h = these 0 (omega arith)
append-each P (x ∷ xs) ys these those (suc i) h = append-each P xs ys (λ j k. these (suc j) (omega arith)) those i (omega arith)

digit_alone : (d : ℕ) → d < 10 → Digits (digit_byte d ∷ [])
digit_alone d few zero h = omega arith
digit_alone d few (suc i) h = absurd (omega arith)

number_digits : (most n : ℕ) → n < most → Digits (number n)
number_digits zero n h = absurd (omega arith)
number_digits (suc most) n h =
    ⊎_elim
    (λ none. let s : n < 10 = omega arith in subst Digits (sym (number_small n s)) (digit_alone n s))
    (λ some.
    let l : 10 ≤ n = omega arith in
    let before = number_digits most (n / 10) (omega arith) in
    subst Digits (sym (number_large n l)) (append-each IsDigit (number (n / 10)) (digit_byte (n % 10) ∷ []) before (digit_alone (n % 10) (omega arith))))
    (eq-zero-or-pos (n / 10))

spelled-digits : (zeros value : ℕ) → Digits (replicate zeros (digit_byte 0) ++ number value)
spelled-digits zero value i h = number_digits (suc value) value (omega arith) i h
spelled-digits (suc zeros) value zero h = omega arith
spelled-digits (suc zeros) value (suc i) h = spelled-digits zeros value i (omega arith)

spelled-value : (zeros value : ℕ) → decimal_value (replicate zeros (digit_byte 0) ++ number value) ≡ value
unfolding value_behind
spelled-value zero value = number_back value
spelled-value (suc zeros) value = spelled-value zeros value

-- ---- the two ways to say an integer, and a line of one

pub spelled_says : (bytes : List ℕ) (value : ℕ) → Says bytes value ↔ Spells bytes value
spelled_says bytes value = (there bytes, back)
  where
    there : (bytes : List ℕ) → Says bytes value → Spells bytes value
    there [] s = absurd (omega (arith, s.one_or_more))
    there (d ∷ ds) s = subst (Spells (d ∷ ds)) s.value_said (digits_spell d ds s.decimal-digits)

    back : Spells bytes value → Says bytes value
    back s =
        subst (λ (l : List ℕ). Says l value) (sym s.its_bytes) (record {
          one_or_more = omega (arith, length-append (replicate s.zeros (digit_byte 0)) (number value), some-digit value);
          decimal-digits = spelled-digits s.zeros value;
          value_said = spelled-value s.zeros value;
        })

pub size_said : (bytes : List ℕ) (m n : ℕ) → SizeLine bytes m n ↔ SizeSpelled bytes m n
size_said bytes m n = (there, back)
  where
    there : SizeLine bytes m n → SizeSpelled bytes m n
    there l = record {
      first = l.first;
      second = l.second;
      its_rows = (spelled_says l.first m).0 l.its_rows;
      its_columns = (spelled_says l.second n).0 l.its_columns;
      its_bytes = l.its_bytes;
    }

    back : SizeSpelled bytes m n → SizeLine bytes m n
    back l = record {
      first = l.first;
      second = l.second;
      its_bytes = l.its_bytes;
      its_rows = (spelled_says l.first m).1 l.its_rows;
      its_columns = (spelled_says l.second n).1 l.its_columns;
    }

pub entry_said : (bytes : List ℕ) (z : ℤ) → SignedLine bytes z ↔ EntrySpelled bytes z
entry_said bytes z = (there, back)
  where
    there : SignedLine bytes z → EntrySpelled bytes z
    there l =
        let its = (spelled_says l.digits l.value).0 l.its_value in
        ⊎_elim
        (λ e. record {
          spelled = l.digits;
          its_integer = record { digits = l.digits; value = l.value; its_value = its; its_sign = inl (refl, e.1) };
          its_bytes = e.0;
        })
        (λ e. record {
          spelled = minus_sign ∷ l.digits;
          its_integer = record { digits = l.digits; value = l.value; its_value = its; its_sign = inr (refl, e.1) };
          its_bytes = e.0;
        })
        l.its_sign

    back : EntrySpelled bytes z → SignedLine bytes z
    back e =
        let i = e.its_integer in
        let ended : (digits : List ℕ) → e.spelled ≡ digits → bytes ≡ digits ++ (line_feed ∷ []) =
        λ digits p. e.its_bytes ∙ ap (λ (l : List ℕ). l ++ (line_feed ∷ [])) p in
        record {
          digits = i.digits;
          value = i.value;
          its_value = (spelled_says i.digits i.value).1 i.its_value;
          its_sign = ⊎_elim (λ p. inl (ended i.digits p.0, p.1)) (λ p. inr (ended (minus_sign ∷ i.digits) p.0, p.1)) i.its_sign;
        }
