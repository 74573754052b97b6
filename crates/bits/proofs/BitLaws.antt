-- The bits of a number: under the operations on bits, shifts and remainders; that a number is given by its bits; and lists of bits.
-- Assumes nothing.
use mathlib.Core.Path.{◌≡◌, refl, sym, ap, ap₂, ◌∙◌, subst}
use mathlib.Core.Logic.{◌⊎◌, inl, inr}
use mathlib.Core.Bool.{true, false, not, ◌&&◌, ◌||◌, true≢false, false≢true}
use mathlib.Core.List.{[], ◌∷◌, ◌++◌}
use Prim.Native.Nat.{ℕ, zero, suc, ◌+◌, ◌-◌, ◌*◌, ◌/◌, ◌%◌, ◌^◌, ◌≤◌, ◌<◌, min, max}
use native.Mathlib.Nat.{mod-lt, div-eq_of_lt, div-add-mod', div-one, lt_of_lt_of_le, one-mul}
use native.Mathlib.Decide.{dec_lt}
use native.Mathlib.Omega.{arith}
use lib.Dec.{eqb, ltb}
use lib.Arith.{bin_ind, digits_mod}
use lib.Pow.{pow_pos, pow_mono, pow-add, shl_exact, shl-shr, shr-shr, split, high, low, mod-mod-pow, field, ones_lt, ones_split}
use lib.Bits.{bit_and, bit_or, bit_xor, differ, and_step, or_step, xor_step, and_shr, or_shr, xor_shr, shifted_even}
use lib.ListN.{length, get_or, length-append, get_or-append}
use lib.Seq.{get_or_at}
use borrow.Author.Tests.{lt-ltb, le-ltb}
use Rattle.bits.specs.Bits.{bit_at, bits_of}

-- ---- the lowest digit

-- a number below 2 is 0 or 1
digit : (n : ℕ) → n < 2 → (n ≡ 0) ⊎ (n ≡ 1)
digit zero h = inl refl
digit (suc zero) h = inr refl
digit (suc (suc n)) h = absurd (omega arith)

-- a fact of the digits 0 and 1 is one of every lowest digit
of-digits : (P : ℕ → ℕ → Type 0) → P 0 0 → P 0 1 → P 1 0 → P 1 1 → (a b : ℕ) → P (a % 2) (b % 2)
of-digits P none second first both a b = go (digit (a % 2) (mod-lt a (pow_pos 1))) (digit (b % 2) (mod-lt b (pow_pos 1)))
  where
    go : (a % 2 ≡ 0) ⊎ (a % 2 ≡ 1) → (b % 2 ≡ 0) ⊎ (b % 2 ≡ 1) → P (a % 2) (b % 2)
    go (inl e) (inl f) = rw (e, f) none
    go (inl e) (inr f) = rw (e, f) second
    go (inr e) (inl f) = rw (e, f) first
    go (inr e) (inr f) = rw (e, f) both

-- the lowest digit of q * 2 + r, for an r worked out of two lowest digits
lowest : (f : ℕ → ℕ → ℕ) → f 0 0 < 2 → f 0 1 < 2 → f 1 0 < 2 → f 1 1 < 2 → (q a b : ℕ) → (q * 2 + f (a % 2) (b % 2)) % 2 ≡ f (a % 2) (b % 2)
lowest f none second first both q a b = digits_mod q (of-digits (λ x y. f x y < 2) none second first both a b)

and-lowest : (a b : ℕ) → bit_and a b % 2 ≡ min (a % 2) (b % 2)
and-lowest a b = ap (λ z. z % 2) (and_step a b) ∙ lowest min (omega arith) (omega arith) (omega arith) (omega arith) (bit_and (a / 2) (b / 2)) a b

or_lowest : (a b : ℕ) → bit_or a b % 2 ≡ max (a % 2) (b % 2)
or_lowest a b = ap (λ z. z % 2) (or_step a b) ∙ lowest max (omega arith) (omega arith) (omega arith) (omega arith) (bit_or (a / 2) (b / 2)) a b

xor_lowest : (a b : ℕ) → bit_xor a b % 2 ≡ differ (a % 2) (b % 2)
xor_lowest a b = ap (λ z. z % 2) (xor_step a b) ∙ lowest differ (omega arith) (omega arith) (omega arith) (omega arith) (bit_xor (a / 2) (b / 2)) a b

-- ---- operations on bits

pub and_bit : (a b e : ℕ) → bit_at (bit_and a b) e ≡ bit_at a e && bit_at b e
unfolding bit_at
and_bit a b e = rw (and_shr a b e, and-lowest (a / 2 ^ e) (b / 2 ^ e))
    (of-digits (λ x y. eqb (min x y) 1 ≡ eqb x 1 && eqb y 1) refl refl refl refl (a / 2 ^ e) (b / 2 ^ e))

pub or_bit : (a b e : ℕ) → bit_at (bit_or a b) e ≡ bit_at a e || bit_at b e
unfolding bit_at
or_bit a b e = rw (or_shr a b e, or_lowest (a / 2 ^ e) (b / 2 ^ e))
    (of-digits (λ x y. eqb (max x y) 1 ≡ eqb x 1 || eqb y 1) refl refl refl refl (a / 2 ^ e) (b / 2 ^ e))

-- the bits differ
pub xor_bit : (a b e : ℕ) → bit_at (bit_xor a b) e ≡ elim (bit_at a e) [ true ↦ not (bit_at b e) | false ↦ bit_at b e ]
unfolding bit_at
xor_bit a b e = rw (xor_shr a b e, xor_lowest (a / 2 ^ e) (b / 2 ^ e))
    (of-digits (λ x y. eqb (differ x y) 1 ≡ elim (eqb x 1) [ true ↦ not (eqb y 1) | false ↦ eqb y 1 ]) refl refl refl refl (a / 2 ^ e) (b / 2 ^ e))

-- ---- shifts and remainders

-- a one, shifted up by less than the width
pub one_shifted : (k width : ℕ) → k < width → 1 * 2 ^ k % 2 ^ width ≡ 2 ^ k
one_shifted k width h = shl_exact 1 k width (omega arith) (omega arith) ∙ one-mul (2 ^ k)

pub shifted_down_bit : (x k e : ℕ) → bit_at (x / 2 ^ k) e ≡ bit_at x (k + e)
unfolding bit_at
shifted_down_bit x k e = ap (λ z. eqb (z % 2) 1) (shr-shr x k e)

-- a bit further up, in the number without the bits below
higher_bit : (x k e : ℕ) → k ≤ e → bit_at x e ≡ bit_at (x / 2 ^ k) (e - k)
higher_bit x k e h = ap (bit_at x) (let parts : e ≡ k + (e - k) = omega arith in parts) ∙ sym (shifted_down_bit x k (e - k))

pub shifted_up_bit : (x k e : ℕ) → k ≤ e → bit_at (x * 2 ^ k) e ≡ bit_at x (e - k)
shifted_up_bit x k e h = higher_bit (x * 2 ^ k) k e h ∙ ap (λ z. bit_at z (e - k)) (shl-shr x k)

pub shifted_up_none : (x k e : ℕ) → e < k → bit_at (x * 2 ^ k) e ≡ false
unfolding bit_at
shifted_up_none x k e h = ap (λ z. eqb (z % 2) 1) shifted ∙ ap (λ z. eqb z 1) (shifted_even x (k - suc e))
  where
    parts : k ≡ suc (k - suc e) + e
    parts = omega arith

    shifted : x * 2 ^ k / 2 ^ e ≡ x * 2 ^ suc (k - suc e)
    shifted = ap (λ z. x * 2 ^ z / 2 ^ e) parts ∙ ap (λ z. x * z / 2 ^ e) (pow-add 2 (suc (k - suc e)) e)
        ∙ ap (λ z. z / 2 ^ e) (let same : x * (2 ^ suc (k - suc e) * 2 ^ e) ≡ x * 2 ^ suc (k - suc e) * 2 ^ e = omega arith in same) ∙ shl-shr (x * 2 ^ suc (k - suc e)) e

pub remainder_bit : (x k e : ℕ) → e < k → bit_at (x % 2 ^ k) e ≡ bit_at x e
unfolding bit_at
remainder_bit x k e h = ap (λ z. eqb (x % 2 ^ z / 2 ^ e % 2) 1) parts ∙ ap (λ z. eqb (z % 2) 1) (field x (k - suc e + 1) e)
    ∙ ap (λ z. eqb z 1) (mod-mod-pow (x / 2 ^ e) (k - suc e) 1)
  where
    parts : k ≡ k - suc e + 1 + e
    parts = omega arith

-- a number below 2 ^ n has no bits from n on
pub none_above : (x n e : ℕ) → x < 2 ^ n → n ≤ e → bit_at x e ≡ false
unfolding bit_at
none_above x n e h l = ap (λ z. eqb (z % 2) 1) (div-eq_of_lt (lt_of_lt_of_le h (pow_mono l)))

pub zero_bit : (e : ℕ) → bit_at 0 e ≡ false
zero_bit e = none_above 0 0 e (omega arith) (omega arith)

-- the first bits set, and no others
pub ones_bit : (k e : ℕ) → bit_at (2 ^ k - 1) e ≡ ltb e k
unfolding bit_at
ones_bit k e = go (dec_lt e k)
  where
    go : Dec (e < k) → bit_at (2 ^ k - 1) e ≡ ltb e k
    go (no h) = none_above (2 ^ k - 1) k e (ones_lt k) (omega arith) ∙ sym (le-ltb e k (omega arith))
    go (yes h) = ap (λ z. eqb ((2 ^ z - 1) / 2 ^ e % 2) 1) parts ∙ ap (λ z. eqb (z / 2 ^ e % 2) 1) (ones_split (k - suc e + 1) e)
        ∙ ap (λ z. eqb (z % 2) 1) (high (2 ^ (k - suc e + 1) - 1) e (ones_lt e)) ∙ ap (λ z. eqb (z % 2) 1) (ones_split (k - suc e) 1)
        ∙ ap (λ z. eqb z 1) (low (2 ^ (k - suc e) - 1) 1 (ones_lt 1)) ∙ sym (lt-ltb e k h)
      where
        parts : k ≡ k - suc e + 1 + e
        parts = omega arith

-- a number of c bits and one more bit above them
pub bit_below-added : (x c e : ℕ) → x < 2 ^ c → e < c → bit_at (x + 2 ^ c) e ≡ bit_at x e
bit_below-added x c e h l = sym (remainder_bit (x + 2 ^ c) c e l) ∙ ap (λ z. bit_at z e) (ap (λ z. z % 2 ^ c) (let same : x + 2 ^ c ≡ 1 * 2 ^ c + x = omega arith in same) ∙ low 1 c h)

pub bit_added : (x c : ℕ) → x < 2 ^ c → bit_at (x + 2 ^ c) c ≡ true
unfolding bit_at
bit_added x c h = ap (λ z. eqb (z / 2 ^ c % 2) 1) (let same : x + 2 ^ c ≡ 1 * 2 ^ c + x = omega arith in same) ∙ ap (λ z. eqb (z % 2) 1) (high 1 c h)

pub none_above_added : (x c e : ℕ) → x < 2 ^ c → c < e → bit_at (x + 2 ^ c) e ≡ false
none_above_added x c e h l = none_above (x + 2 ^ c) (suc c) e (omega arith) l

-- ---- a number is given by its bits

half_bit : (x e : ℕ) → bit_at (x / 2) e ≡ bit_at x (suc e)
half_bit x e = shifted_down_bit x 1 e ∙ ap (bit_at x) (let next : 1 + e ≡ suc e = omega arith in next)

lowest-same : (a b : ℕ) → bit_at a 0 ≡ bit_at b 0 → a % 2 ≡ b % 2
unfolding bit_at
lowest-same a b e = of-digits (λ x y. eqb x 1 ≡ eqb y 1 → x ≡ y) (λ q. refl) (λ q. absurd (false≢true q)) (λ q. absurd (true≢false q)) (λ q. refl) a b
    (ap (λ z. eqb (z % 2) 1) (sym (div-one a)) ∙ e ∙ ap (λ z. eqb (z % 2) 1) (div-one b))

-- equal halves and equal lowest digits
from_half : (a b : ℕ) → a / 2 ≡ b / 2 → bit_at a 0 ≡ bit_at b 0 → a ≡ b
from_half a b h l = sym (div-add-mod' a 2) ∙ ap₂ (λ q r. q * 2 + r) h (lowest-same a b l) ∙ div-add-mod' b 2

no_bits : (x : ℕ) → ((e : ℕ) → bit_at x e ≡ false) → x ≡ 0
no_bits = bin_ind (λ n. ((e : ℕ) → bit_at n e ≡ false) → n ≡ 0) (λ none. refl)
    (λ n half none. from_half n 0 (half (λ e. half_bit n e ∙ none (suc e))) (none 0 ∙ sym (zero_bit 0)))

pub bits_equal : (a b : ℕ) → ((e : ℕ) → bit_at a e ≡ bit_at b e) → a ≡ b
bits_equal = bin_ind (λ n. (b : ℕ) → ((e : ℕ) → bit_at n e ≡ bit_at b e) → n ≡ b) (λ b same. sym (no_bits b (λ e. sym (same e) ∙ zero_bit e)))
    (λ n half b same. from_half n b (half (b / 2) (λ e. half_bit n e ∙ same (suc e) ∙ sym (half_bit b e))) (same 0))

pub first-bits_equal : (n a b : ℕ) → a < 2 ^ n → b < 2 ^ n → ((e : ℕ) → e < n → bit_at a e ≡ bit_at b e) → a ≡ b
first-bits_equal n a b below also same = bits_equal a b (λ e. go e (dec_lt e n))
  where
    go : (e : ℕ) → Dec (e < n) → bit_at a e ≡ bit_at b e
    go e (yes h) = same e h
    go e (no h) = none_above a n e below (omega arith) ∙ sym (none_above b n e also (omega arith))

pub below_power : (x n : ℕ) → ((e : ℕ) → n ≤ e → bit_at x e ≡ false) → x < 2 ^ n
below_power x n none =
    let above : x / 2 ^ n ≡ 0 = no_bits (x / 2 ^ n) (λ e. shifted_down_bit x n e ∙ none (n + e) (omega arith)) in
    subst (λ z. z < 2 ^ n) (ap (λ z. z * 2 ^ n + x % 2 ^ n) (sym above) ∙ split x n) (omega (arith, mod-lt x (pow_pos n)))

-- ---- lists of bits

pub bits-length : (x n : ℕ) → length (bits_of x n) ≡ n
unfolding bits_of
bits-length x zero = refl
bits-length x (suc n) = omega (arith, length-append (bits_of x n) (bit_at x n ∷ []), bits-length x n)

pub bit_of_list : (x n e : ℕ) → e < n → get_or (bits_of x n) e false ≡ bit_at x e
unfolding bits_of
bit_of_list x zero e h = absurd (omega arith)
bit_of_list x (suc n) e h = go (bit_of_list x n e) (dec_lt e n)
  where
    go : (e < n → get_or (bits_of x n) e false ≡ bit_at x e) → Dec (e < n) → get_or (bits_of x n ++ (bit_at x n ∷ [])) e false ≡ bit_at x e
    go before (yes l) = get_or-append (bits_of x n) (bit_at x n ∷ []) false e (omega (arith, bits-length x n)) ∙ before l
    go before (no l) =
        let last : e ≡ n = omega arith in
        ap (λ z. get_or (bits_of x n ++ (bit_at x n ∷ [])) z false) last ∙ get_or_at (bits_of x n) (bit_at x n) [] false n (bits-length x n) ∙ ap (bit_at x) (sym last)

pub same_bits : (a b n : ℕ) → ((e : ℕ) → e < n → bit_at a e ≡ bit_at b e) → bits_of a n ≡ bits_of b n
unfolding bits_of
same_bits a b zero same = refl
same_bits a b (suc n) same = ap₂ (λ bits bit. bits ++ (bit ∷ [])) (same_bits a b n (λ e h. same e (omega arith))) (same n (omega arith))
