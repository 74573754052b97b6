-- Laws of numbers in decimal: their last digit, how many digits they have, and that the digits read back as the number.
-- Assumes nothing.
use Prim.Native.Nat.{ℕ, zero, suc, ◌+◌, ◌*◌, ◌-◌, ◌/◌, ◌%◌, ◌^◌, ◌<◌, ◌≤◌}
use mathlib.Core.Path.{◌≡◌, refl, sym, ap, ◌∙◌}
use mathlib.Core.List.{List, [], ◌∷◌, ◌++◌, append_assoc}
use mathlib.Core.Logic.{◌⊎◌, inl, inr, ⊎_elim}
use native.Mathlib.Omega.{arith}
use native.Mathlib.Nat.{pow-succ', eq-zero-or-pos}
use lib.ListN.{length, take, drop, set, length-append, length-drop, length-set}
use lib.Seq.{set_split, drop_at, length-take-le, take_all}
use borrow.Author.Tests.{lt-ltb, le-ltb}
use Rattle.text.specs.Decimal.{digit_byte, decimal, number, value_behind, decimal_value}

-- a number has more digits than one, or one
more_or_one : (n : ℕ) → (10 ≤ n) ⊎ (n < 10)
more_or_one n = ⊎_elim (λ e. inr (omega arith)) (λ p. inl (omega arith)) (eq-zero-or-pos (n / 10))

decimal-small : (most n : ℕ) → n < 10 → decimal (suc most) n ≡ digit_byte n ∷ []
unfolding decimal
decimal-small most n h = rw (lt-ltb n 10 h, decimal)

decimal_large : (most n : ℕ) → 10 ≤ n → decimal (suc most) n ≡ decimal most (n / 10) ++ (digit_byte (n % 10) ∷ [])
unfolding decimal
decimal_large most n h = rw (le-ltb n 10 h, decimal)

-- more digits than n are always enough
enough : (most more n : ℕ) → n < most → n < more → decimal most n ≡ decimal more n
enough zero more n h k = absurd (omega arith)
enough (suc most) zero n h k = absurd (omega arith)
enough (suc most) (suc more) n h k =
    ⊎_elim
    (λ l. decimal_large most n l
    ∙ ap (λ (l : List ℕ). l ++ (digit_byte (n % 10) ∷ [])) (enough most more (n / 10) (omega arith) (omega arith))
    ∙ sym (decimal_large more n l))
    (λ s. decimal-small most n s ∙ sym (decimal-small more n s))
    (more_or_one n)

pub number_small : (n : ℕ) → n < 10 → number n ≡ digit_byte n ∷ []
unfolding number
number_small n h = decimal-small n n h

pub number_large : (n : ℕ) → 10 ≤ n → number n ≡ number (n / 10) ++ (digit_byte (n % 10) ∷ [])
unfolding number
number_large n h =
    decimal_large n n h ∙ ap (λ (l : List ℕ). l ++ (digit_byte (n % 10) ∷ [])) (enough n (suc (n / 10)) (n / 10) (omega arith) (omega arith))

pub length_large : (n : ℕ) → 10 ≤ n → length (number n) ≡ length (number (n / 10)) + 1
length_large n h = ap length (number_large n h) ∙ length-append (number (n / 10)) (digit_byte (n % 10) ∷ [])

pub some-digit : (n : ℕ) → 1 ≤ length (number n)
some-digit n = ⊎_elim (λ l. omega (arith, length_large n l)) (λ s. omega (arith, ap length (number_small n s))) (more_or_one n)

-- a number below 10^k has at most k digits
pub length-number : (k n : ℕ) → n < 10 ^ suc k → length (number n) ≤ suc k
length-number zero n h = rw (number_small n h) (omega arith)
length-number (suc k) n h =
    ⊎_elim
    (λ l. omega (arith, length_large n l, length-number k (n / 10) (omega (arith, rw pow-succ' at h))))
    (λ s. rw (number_small n s) (omega arith))
    (more_or_one n)

-- the bounds of a machine's numbers
pub length_short : (n : ℕ) → n < 65536 → length (number n) ≤ 5
length_short n h = length-number 4 n (omega (arith, h))

pub length_long : (n : ℕ) → n < 18446744073709551616 → length (number n) ≤ 20
length_long n h = length-number 19 n (omega (arith, h))

read-append : (value : ℕ) (ds more : List ℕ) → value_behind value (ds ++ more) ≡ value_behind (value_behind value ds) more
unfolding value_behind
read-append value [] more = refl
read-append value (d ∷ ds) more = read-append (10 * value + (d - 48)) ds more

read-last : (n : ℕ) → value_behind (n / 10) (digit_byte (n % 10) ∷ []) ≡ n
unfolding value_behind
read-last n = omega arith

read_only : (n : ℕ) → value_behind 0 (digit_byte n ∷ []) ≡ n
unfolding value_behind
read_only n = omega arith

decimal_back : (most n : ℕ) → n < most → decimal_value (decimal most n) ≡ n
decimal_back zero n h = omega arith
decimal_back (suc most) n h =
    ⊎_elim
    (λ l. ap (value_behind 0) (decimal_large most n l)
    ∙ read-append 0 (decimal most (n / 10)) (digit_byte (n % 10) ∷ [])
    ∙ ap (λ (v : ℕ). value_behind v (digit_byte (n % 10) ∷ [])) (decimal_back most (n / 10) (omega arith))
    ∙ read-last n)
    (λ s. ap (value_behind 0) (decimal-small most n s) ∙ read_only n)
    (more_or_one n)

-- the digits of a number read back as the number
pub number_back : (n : ℕ) → decimal_value (number n) ≡ n
unfolding number
number_back n = decimal_back (suc n) n (omega arith)

-- ---- digits stored from the last to the first

stored : (digits : List ℕ) (start d : ℕ) → start < length digits → drop start (set digits start d) ≡ d ∷ drop (suc start) digits
stored digits start d h =
    ap (drop start) (set_split digits start d h)
    ∙ drop_at (take start digits) (d ∷ drop (suc start) digits) start (length-take-le start digits (omega arith))

pub digit-more : (n start : ℕ) (digits : List ℕ) → 10 ≤ n → start < length digits
    → number (n / 10) ++ drop start (set digits start (digit_byte (n % 10))) ≡ number n ++ drop (suc start) digits
digit-more n start digits l h =
    ap (λ (x : List ℕ). number (n / 10) ++ x) (stored digits start (digit_byte (n % 10)) h)
    ∙ sym (append_assoc (number (n / 10)) (digit_byte (n % 10) ∷ []) (drop (suc start) digits))
    ∙ ap (λ (x : List ℕ). x ++ drop (suc start) digits) (sym (number_large n l))

pub digit-first : (n start : ℕ) (digits : List ℕ) → n < 10 → start < length digits
    → drop start (set digits start (digit_byte n)) ≡ number n ++ drop (suc start) digits
digit-first n start digits s h =
    stored digits start (digit_byte n) h ∙ ap (λ (x : List ℕ). x ++ drop (suc start) digits) (sym (number_small n s))

-- the digits of `value` in an array of `size`, once the first of them is stored
pub digits_part : (value rest start size : ℕ) (digits : List ℕ) → number rest ++ drop (suc start) digits ≡ number value → rest < 10 → start < size → length digits ≡ size
    → take (size - start) (drop start (set digits start (digit_byte rest))) ≡ number value
digits_part value rest start size digits e s h l =
    take_all (size - start) (drop start (set digits start (digit_byte rest))) (simp (length-drop, length-set) (omega arith))
    ∙ digit-first rest start digits s (omega arith)
    ∙ e
