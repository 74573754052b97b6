-- Numbers modulo 2^w and two's complement: both keep a number's class modulo 2^w, so a number within the width w is found again.
-- Assumes nothing.
use mathlib.Core.Path.{◌≡◌, ap, ◌∙◌}
use Prim.Native.Nat.{ℕ, zero, suc, ◌+◌, ◌-◌, ◌/◌, ◌%◌, ◌^◌, ◌≤◌, ◌<◌}
use native.Mathlib.Omega.{arith}
use native.Mathlib.Nat.{div-add-mod', mod-lt}
use native.Mathlib.Decide.{dec_lt}
use borrow.Author.Tests.{lt-ltb, le-ltb}
use lib.IntN.{ℤ, pos, negsuc, neg_ℤ, ◌+ℤ◌, ◌-ℤ◌, ◌*ℤ◌}
use lib.Pow.{pow_pos, pow-add}
use Rattle.integers.proofs.Expression.{at, nat, minus, ◌⊕◌, ◌⊝◌, ◌⊗◌, equal, at_most, equal_parts}
use Rattle.integers.proofs.Congruence.{Congruent, congruent_trans, congruent_sym, congruent_divisor}
use Rattle.board_rules.specs.Width.{Within}
use Rattle.board_rules.proofs.WidthLaws.{Between, within-between}
use Rattle.verilog_rules.specs.Meaning.{modulo, twos_complement, value, signal}

-- ---- powers of two as moduli

pub congruent_narrower : {w : ℕ} {x y : ℤ} (t : ℕ) → t ≤ w → Congruent (2 ^ w) x y → Congruent (2 ^ t) x y
congruent_narrower {w} {x} {y} t l c =
    let e : w ≡ t + (w - t) = omega arith in
    congruent_divisor (2 ^ t) (2 ^ (w - t)) (rw (e, pow-add 2 t (w - t)) at c)

power_halves : (w : ℕ) → 1 ≤ w → 2 ^ w ≡ 2 ^ (w - 1) + 2 ^ (w - 1)
power_halves zero h = absurd (omega arith)
power_halves (suc w) h = let e : suc w - 1 ≡ w = omega arith in rw e (omega arith)

-- congruent numbers from −P to P − 1 are equal, where the modulus is 2·P
between_equal : (P : ℕ) (x y k : ℤ) → Between P x → Between P y → x ≡ y +ℤ k *ℤ pos (P + P) → x ≡ y
between_equal P x y (pos zero) a b e = e ∙ equal (at y ⊕ nat 0 ⊗ nat (P + P)) (at y) (omega arith)
between_equal P x y (pos (suc k)) a b e = absurd (omega (arith, equal_parts (at x) (at y ⊕ nat (suc k) ⊗ nat (P + P)) e))
between_equal P x y (negsuc k) a b e = absurd (omega (arith, equal_parts (at x) (at y ⊕ minus (nat (suc k)) ⊗ nat (P + P)) e))

within_equal : {w : ℕ} {x y : ℤ} → 1 ≤ w → Within w x → Within w y → Congruent (2 ^ w) x y → x ≡ y
within_equal {w} {x} {y} l a b c =
    between_equal (2 ^ (w - 1)) x y c.factor (within-between a) (within-between b) (c.differs ∙ ap (λ q. y +ℤ c.factor *ℤ pos q) (power_halves w l))

-- ---- modulo

pub modulo-below : (w : ℕ) (z : ℤ) → modulo w z < 2 ^ w
unfolding modulo
modulo-below w (pos k) = mod-lt k (pow_pos w)
modulo-below w (negsuc k) = omega (arith, pow_pos w)

pub modulo_congruent : (w : ℕ) (z : ℤ) → Congruent (2 ^ w) (pos (modulo w z)) z
unfolding modulo
modulo_congruent w (pos k) = record {
  factor = neg_ℤ (pos (k / 2 ^ w));
  differs = equal (nat (k % 2 ^ w)) (nat k ⊕ minus (nat (k / 2 ^ w)) ⊗ nat (2 ^ w)) (omega (arith, div-add-mod' k (2 ^ w)));
}
modulo_congruent w (negsuc k) = record {
  factor = pos (suc (k / 2 ^ w));
  differs = equal (nat (2 ^ w - suc (k % 2 ^ w))) (minus (nat (suc k)) ⊕ nat (suc (k / 2 ^ w)) ⊗ nat (2 ^ w))
      (omega (arith, div-add-mod' k (2 ^ w), mod-lt k (pow_pos w)));
}

-- ---- two's complement

pub twos_low : (w bits : ℕ) → bits < 2 ^ (w - 1) → twos_complement w bits ≡ pos bits
unfolding twos_complement
twos_low w bits h = rw (lt-ltb bits (2 ^ (w - 1)) h, twos_complement)

twos_high : (w bits : ℕ) → 2 ^ (w - 1) ≤ bits → twos_complement w bits ≡ pos bits -ℤ pos (2 ^ w)
unfolding twos_complement
twos_high w bits h = rw (le-ltb bits (2 ^ (w - 1)) h, twos_complement)

twos_congruent : (w bits : ℕ) → Congruent (2 ^ w) (twos_complement w bits) (pos bits)
twos_congruent w bits = go (dec_lt bits (2 ^ (w - 1)))
  where
    go : Dec (bits < 2 ^ (w - 1)) → Congruent (2 ^ w) (twos_complement w bits) (pos bits)
    go (yes h) = record { factor = pos 0; differs = twos_low w bits h ∙ equal (nat bits) (nat bits ⊕ nat 0 ⊗ nat (2 ^ w)) (omega arith) }
    go (no h) = record {
      factor = neg_ℤ (pos 1);
      differs = twos_high w bits (omega arith) ∙ equal (nat bits ⊝ nat (2 ^ w)) (nat bits ⊕ minus (nat 1) ⊗ nat (2 ^ w)) (omega arith);
    }

twos_within : (w bits : ℕ) → 1 ≤ w → bits < 2 ^ w → Within w (twos_complement w bits)
twos_within w bits l b = go (dec_lt bits (2 ^ (w - 1)))
  where
    go : Dec (bits < 2 ^ (w - 1)) → Within w (twos_complement w bits)
    go (yes h) = rw (twos_low w bits h) (record {
      low = at_most (minus (nat (2 ^ (w - 1)))) (nat bits) (omega arith);
      high = at_most (nat bits) (nat (2 ^ (w - 1)) ⊝ nat 1) (omega arith);
    })
    go (no h) = rw (twos_high w bits (omega arith)) (record {
      low = at_most (minus (nat (2 ^ (w - 1)))) (nat bits ⊝ nat (2 ^ w)) (omega (arith, power_halves w l));
      high = at_most (nat bits ⊝ nat (2 ^ w)) (nat (2 ^ (w - 1)) ⊝ nat 1) (omega (arith, power_halves w l));
    })

-- ---- a number within its width is found again

value_congruent : (w : ℕ) (z : ℤ) → Congruent (2 ^ w) (value (signal w z)) z
value_congruent w z = congruent_trans (twos_congruent w (modulo w z)) (modulo_congruent w z)

value-within : (w : ℕ) (z : ℤ) → 1 ≤ w → Within w (value (signal w z))
value-within w z l = twos_within w (modulo w z) l (modulo-below w z)

-- what is congruent to a number within the width reads as that number
pub value-of_congruent : {w : ℕ} {y z : ℤ} → 1 ≤ w → Within w z → Congruent (2 ^ w) y z → value (signal w y) ≡ z
value-of_congruent {w} {y} {z} l h c = within_equal l (value-within w y l) h (congruent_trans (value_congruent w y) c)

-- congruent numbers, cut to the width, read as one, whether they lie within it or not
pub same-of_congruent : {w : ℕ} {y z : ℤ} → 1 ≤ w → Congruent (2 ^ w) y z → value (signal w y) ≡ value (signal w z)
same-of_congruent {w} {y} {z} l c = value-of_congruent l (value-within w z l) (congruent_trans c (congruent_sym (value_congruent w z)))
