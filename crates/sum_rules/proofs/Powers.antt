-- Sums of 2^depth over a row's terms: a join never lowers them, and a join of the two shallowest keeps them within a power of two.
-- Assumes nothing.
use Prim.Native.Nat.{ℕ, suc, ◌+◌, ◌-◌, ◌^◌, ◌≤◌, ◌<◌, ◌∣◌, max}
use mathlib.Core.Path.{◌≡◌, refl, sym, ap, ap₂, ◌∙◌, subst}
use mathlib.Core.List.{List, [], ◌∷◌, ◌++◌, Permᴰ}
use native.Mathlib.Omega.{arith}
use native.Mathlib.Nat.{two-pow-succ, dvd-zero, dvd-add, dvd-sub, dvd-mul_right, le_of_dvd}
use native.Mathlib.Decide.{dec_le}
use lib.Pow.{pow_mono, pow-lt, pow_pos, pow-add}
use lib.ListN.{get_or-append}
use Rattle.elimination_rules.specs.Rows.{Row}
use Rattle.sum_rules.proofs.Sums.{each_term}
use Rattle.sum_rules.specs.Shallowest.{term_depth}
use Rattle.sum_rules.specs.SumDepth.{power_sum, HasDepth, EachTerm}

-- ---- powers of two

-- the exponents of powers in order are in order
pub exponents_in_order : (a b : ℕ) → 2 ^ a ≤ 2 ^ b → a ≤ b
exponents_in_order a b l = elim (dec_le a b) [
  | yes h ↦ h
  | no h ↦ let above : b < a = omega arith in absurd (omega (arith, pow-lt above))
]

power_divides : (b d : ℕ) → b ≤ d → 2 ^ b ∣ 2 ^ d
power_divides b d l =
    let parts : d ≡ b + (d - b) = omega arith in
    subst (λ (x : ℕ). 2 ^ b ∣ x) (sym (ap (λ (n : ℕ). 2 ^ n) parts ∙ pow-add 2 b (d - b))) (dvd-mul_right (2 ^ b) (2 ^ (d - b)))

-- two powers are within one that is twice the larger
pub join-of_powers : (a b : ℕ) → 2 ^ a + 2 ^ b ≤ 2 ^ suc (max a b)
join-of_powers a b = omega (arith, two-pow-succ (max a b), pow_mono {i = a} {j = max a b} (omega arith), pow_mono {i = b} {j = max a b} (omega arith))

-- where the rest is a multiple of the larger of two powers, what lies above the larger one and the rest is a multiple too, so that there is
-- room for the larger one twice
pub room_for_join : (a b rest D : ℕ) → 2 ^ b ∣ rest → 2 ^ a + (2 ^ b + rest) ≤ 2 ^ D → 2 ^ suc b + rest ≤ 2 ^ D
room_for_join a b rest D m l =
    let deeper : b ≤ D = exponents_in_order b D (omega arith) in
    let above : ℕ = 2 ^ D - (2 ^ b + rest) in
    let multiple : 2 ^ b ∣ above = dvd-sub (2 ^ b) (power_divides b D deeper) (dvd-add (2 ^ b) (power_divides b b (omega arith)) m) in
    omega (arith, two-pow-succ b, pow_pos a, le_of_dvd {m = 2 ^ b} {n = above} (omega (arith, pow_pos a)) multiple)

-- ---- sums of powers

pub powers_permuted : (ds : List ℕ) {q r : Row} → Permᴰ q r → power_sum ds q ≡ power_sum ds r
unfolding power_sum
powers_permuted ds Permᴰ.nil = refl
powers_permuted ds (Permᴰ.cons e p) = ap₂ ◌+◌ (ap (λ t. 2 ^ term_depth ds t) e) (powers_permuted ds p)
powers_permuted ds (Permᴰ.swap d e) = omega (arith, ap (λ t. 2 ^ term_depth ds t) d, ap (λ t. 2 ^ term_depth ds t) e)
powers_permuted ds (Permᴰ.trans p q) = powers_permuted ds p ∙ powers_permuted ds q

-- where the terms' depths are the same
pub powers_same : (ds es : List ℕ) (r : Row) → EachTerm (λ t. term_depth es t ≡ term_depth ds t) r → power_sum es r ≡ power_sum ds r
unfolding power_sum
powers_same ds es [] h = refl
powers_same ds es (t ∷ r) h = ap₂ ◌+◌ (ap (λ (d : ℕ). 2 ^ d) h.0) (powers_same ds es r h.1)

-- later depths change nothing
pub powers_kept : (ds more : List ℕ) (r : Row) → EachTerm (HasDepth ds) r → power_sum (ds ++ more) r ≡ power_sum ds r
powers_kept ds more r h =
    powers_same ds (ds ++ more) r (each_term (HasDepth ds) _ (λ t k. get_or-append ds more 0 t.symbol k) r h)

-- where no term is shallower than b, the sum is a multiple of 2^b
pub powers_multiple : (ds : List ℕ) (b : ℕ) (r : Row) → EachTerm (λ t. b ≤ term_depth ds t) r → 2 ^ b ∣ power_sum ds r
unfolding power_sum
powers_multiple ds b [] h = dvd-zero (2 ^ b)
powers_multiple ds b (t ∷ r) h = dvd-add (2 ^ b) (power_divides b (term_depth ds t) h.0) (powers_multiple ds b r h.1)
