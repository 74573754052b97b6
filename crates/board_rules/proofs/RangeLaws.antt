-- Ranges: what a bound on the width says of the coefficients and of their sums, and that nothing wraps where a next width is worked
-- out.
-- Assumes nothing.
use Prim.Native.Nat.{ℕ, zero, suc, ◌+◌, ◌*◌, ◌-◌, ◌^◌, ◌≤◌, ◌<◌}
use mathlib.Core.Path.{◌≡◌, refl, sym, ◌∙◌}
use mathlib.Core.List.{List, [], ◌∷◌}
use native.Mathlib.Omega.{arith}
use native.Mathlib.Nat.{mul-le-mul, mul-le-mul_left, mul-le-mul_right}
use lib.IntN.{ℤ, pos, negsuc, neg_ℤ, nat_abs}
use lib.ListN.{length, get_or}
use lib.Pow.{pow_mono, pow_pos, pow-add}
use Rattle.integers.proofs.Size.{abs-+, abs_sub, abs_shift}
use Rattle.board_rules.specs.Machine.{shifted, joined, with_sign}
use Rattle.board_rules.specs.Width.{Within, positive_part, negative_part, positives, negatives, width}
use Rattle.board_rules.specs.Table.{each_column_from, each_column, Small, SmallRange}
use Rattle.board_rules.proofs.WidthLaws.{range-of-width, width-of-range, width-from-one, within-size}

-- ---- coefficients

pub parts_size : (c : ℤ) → positive_part c + negative_part c ≡ nat_abs c
parts_size (pos c) = omega arith
parts_size (negsuc c) = omega arith

positives_at : (cs : List ℤ) (j : ℕ) → positive_part (get_or cs j (pos 0)) ≤ positives cs
unfolding positives
positives_at [] j = omega arith
positives_at (c ∷ cs) zero = omega arith
positives_at (c ∷ cs) (suc j) = omega (arith, positives_at cs j)

negatives_at : (cs : List ℤ) (j : ℕ) → negative_part (get_or cs j (pos 0)) ≤ negatives cs
unfolding negatives
negatives_at [] j = omega arith
negatives_at (c ∷ cs) zero = omega arith
negatives_at (c ∷ cs) (suc j) = omega (arith, negatives_at cs j)

-- a coefficient is at most the sum of all sizes
pub coefficient_size : (cs : List ℤ) (j : ℕ) → nat_abs (get_or cs j (pos 0)) ≤ positives cs + negatives cs
coefficient_size cs j = omega (arith, parts_size (get_or cs j (pos 0)), positives_at cs j, negatives_at cs j)

-- coefficients of at most B sum to at most B times their number
pub sums_of_sizes : (B : ℕ) (cs : List ℤ) → ((j : ℕ) → j < length cs → nat_abs (get_or cs j (pos 0)) ≤ B) → positives cs + negatives cs ≤ length cs * B
unfolding positives negatives
sums_of_sizes B [] h = omega arith
sums_of_sizes B (c ∷ cs) h = omega (arith, sums_of_sizes B cs (λ j l. h (suc j) (omega arith)), parts_size c, h 0 (omega arith))

-- small sums make a small width
pub width-of_sums : (s W : ℕ) (cs : List ℤ) → 1 ≤ W → 2 ^ (s - 1) * (positives cs + negatives cs) < 2 ^ (W - 1) → width s cs ≤ W
width-of_sums s W cs l h =
    let less : 2 ^ (s - 1) - 1 ≤ 2 ^ (s - 1) = omega arith in
    width-of-range s cs W l (record {
      low = omega (arith, mul-le-mul_right (negatives cs) less);
      high = omega (arith, mul-le-mul_right (positives cs) less);
    })

-- ---- what a width at most W says, over samples of s bits

sides : (g p q : ℕ) → 1 ≤ g → suc g * (p + q) ≤ 2 * (g * p + suc g * q)
sides g p q h = omega (arith, mul-le-mul_right p h)

module _ (s W : ℕ) (cs : List ℤ) (h : width s cs ≤ W) where
  pub width_sums : (2 ^ (s - 1) - 1) * (positives cs + negatives cs) < 2 ^ (W - 1)
  width_sums = go (2 ^ (s - 1)) (range-of-width s cs W h).high
    where
      go : (P : ℕ) → (P - 1) * positives cs + P * negatives cs < 2 ^ (W - 1) → (P - 1) * (positives cs + negatives cs) < 2 ^ (W - 1)
      go zero l = omega arith
      go (suc g) l = let e : suc g - 1 ≡ g = omega arith in rw e (omega (arith, rw e at l))

  pub width-spread : 2 ≤ s → 2 ^ (s - 1) * (positives cs + negatives cs) < 2 ^ W
  width-spread two = go (2 ^ (s - 1)) (W - 1) (let p : 2 ^ 1 ≤ 2 ^ (s - 1) = pow_mono {i = 1} {j = s - 1} (omega arith) in omega arith) (omega (arith, width-from-one s cs)) (range-of-width s cs W h).high
    where
      go : (P w : ℕ) → 2 ≤ P → W ≡ suc w → (P - 1) * positives cs + P * negatives cs < 2 ^ w → P * (positives cs + negatives cs) < 2 ^ W
      go zero w l e k = absurd (omega arith)
      go (suc g) w l e k =
          let d : suc g - 1 ≡ g = omega arith in
          rw e (omega (arith, sides g (positives cs) (negatives cs) (omega arith), rw d at k))

  pub width_coefficient : (j : ℕ) → nat_abs (get_or cs j (pos 0)) ≤ 2 ^ (W - 1)
  width_coefficient j = go (get_or cs j (pos 0)) (2 ^ (s - 1)) (pow_pos (s - 1)) (range-of-width s cs W h).high (range-of-width s cs W h).low (positives_at cs j) (negatives_at cs j)
    where
      go : (c : ℤ) (P : ℕ) → 0 < P → (P - 1) * positives cs + P * negatives cs < 2 ^ (W - 1) → P * positives cs + (P - 1) * negatives cs ≤ 2 ^ (W - 1)
          → positive_part c ≤ positives cs → negative_part c ≤ negatives cs → nat_abs c ≤ 2 ^ (W - 1)
      go (pos c) P l k m a b = omega (arith, mul-le-mul_right (positives cs) l)
      go (negsuc c) P l k m a b = omega (arith, mul-le-mul_right (negatives cs) l)

-- a moderate form's coefficients are small, too
pub small-range_sums : {s : ℕ} {cs : List ℤ} → SmallRange s cs → positives cs + negatives cs < 2 ^ 62
small-range_sums {s} {cs} h = omega (arith, h.spread, mul-le-mul_right (positives cs + negatives cs) (pow_pos (s - 1)))

-- ---- one operation and one output on numbers that lie within a width

-- a number of w bits, shifted by at most k
pub small : (w k : ℕ) (z : ℤ) (s : ℕ) → 1 ≤ w → w + k ≤ 62 → nat_abs z ≤ 2 ^ (w - 1) → s ≤ k → Small z s
small w k z s l m h q = record {
  shift = omega arith;
  size = omega (arith, abs_shift z s k (2 ^ (w - 1)) h q, sym (pow-add 2 (w - 1) k), pow_mono {i = (w - 1) + k} {j = 61} (omega arith));
}

pub small-within : (w k : ℕ) (z : ℤ) (s : ℕ) → 1 ≤ w → w + k ≤ 62 → Within w z → s ≤ k → Small z s
small-within w k z s l m h q = small w k z s l m (within-size h) q

-- ---- the sums of an operation's and an output's coefficients

positive_neg : (z : ℤ) → positive_part (neg_ℤ z) ≡ negative_part z
positive_neg (pos zero) = refl
positive_neg (pos (suc c)) = refl
positive_neg (negsuc c) = refl

negative_neg : (z : ℤ) → negative_part (neg_ℤ z) ≡ positive_part z
negative_neg (pos zero) = refl
negative_neg (pos (suc c)) = refl
negative_neg (negsuc c) = refl

positive_shifted : (z : ℤ) (s : ℕ) → positive_part (shifted z s) ≡ positive_part z * 2 ^ s
positive_shifted (pos c) s = refl
positive_shifted (negsuc c) s = positive_neg (pos (suc c * 2 ^ s)) ∙ omega arith

negative_shifted : (z : ℤ) (s : ℕ) → negative_part (shifted z s) ≡ negative_part z * 2 ^ s
negative_shifted (pos c) s = omega arith
negative_shifted (negsuc c) s = negative_neg (pos (suc c * 2 ^ s))

module _ (f : ℕ → ℤ) where
  pub positives-shifted : (s j k : ℕ) → positives (each_column_from j k (λ i. shifted (f i) s)) ≡ positives (each_column_from j k f) * 2 ^ s
  unfolding positives each_column_from
  positives-shifted s j zero = omega arith
  positives-shifted s j (suc k) = omega (arith, positive_shifted (f j) s, positives-shifted s (suc j) k)

  pub negatives-shifted : (s j k : ℕ) → negatives (each_column_from j k (λ i. shifted (f i) s)) ≡ negatives (each_column_from j k f) * 2 ^ s
  unfolding negatives each_column_from
  negatives-shifted s j zero = omega arith
  negatives-shifted s j (suc k) = omega (arith, negative_shifted (f j) s, negatives-shifted s (suc j) k)

  pub positives-negated : (j k : ℕ) → positives (each_column_from j k (λ i. neg_ℤ (f i))) ≡ negatives (each_column_from j k f)
  unfolding positives negatives each_column_from
  positives-negated j zero = refl
  positives-negated j (suc k) = omega (arith, positive_neg (f j), positives-negated (suc j) k)

  pub negatives-negated : (j k : ℕ) → negatives (each_column_from j k (λ i. neg_ℤ (f i))) ≡ positives (each_column_from j k f)
  unfolding positives negatives each_column_from
  negatives-negated j zero = refl
  negatives-negated j (suc k) = omega (arith, negative_neg (f j), negatives-negated (suc j) k)

pub positives-none : (j k : ℕ) → positives (each_column_from j k (λ i. pos 0)) ≡ 0
unfolding positives each_column_from
positives-none j zero = refl
positives-none j (suc k) = omega (arith, positives-none (suc j) k)

pub negatives-none : (j k : ℕ) → negatives (each_column_from j k (λ i. pos 0)) ≡ 0
unfolding negatives each_column_from
negatives-none j zero = refl
negatives-none j (suc k) = omega (arith, negatives-none (suc j) k)

-- the sum of all sizes
abbrev pub total : List ℤ → ℕ
total cs = positives cs + negatives cs

joined-size : (sign : ℕ) (x y : ℤ) → nat_abs (joined sign x y) ≤ nat_abs x + nat_abs y
joined-size zero x y = abs-+ x y
joined-size (suc sign) x y = abs_sub x y

signed-size : (sign : ℕ) (x : ℤ) → nat_abs (with_sign sign x) ≤ nat_abs x
signed-size zero x = omega arith
signed-size (suc zero) x = omega (arith, parts_size x, parts_size (neg_ℤ x), positive_neg x, negative_neg x)
signed-size (suc (suc sign)) x = omega arith

total-joined : (sign : ℕ) (f g : ℕ → ℤ) (j k : ℕ) → total (each_column_from j k (λ i. joined sign (f i) (g i))) ≤ total (each_column_from j k f) + total (each_column_from j k g)
unfolding positives negatives each_column_from
total-joined sign f g j zero = omega arith
total-joined sign f g j (suc k) =
    omega (arith, total-joined sign f g (suc j) k, joined-size sign (f j) (g j), parts_size (f j), parts_size (g j), parts_size (joined sign (f j) (g j)))

total-signed : (sign : ℕ) (f : ℕ → ℤ) (j k : ℕ) → total (each_column_from j k (λ i. with_sign sign (f i))) ≤ total (each_column_from j k f)
unfolding positives negatives each_column_from
total-signed sign f j zero = omega arith
total-signed sign f j (suc k) =
    omega (arith, total-signed sign f (suc j) k, signed-size sign (f j), parts_size (f j), parts_size (with_sign sign (f j)))

-- ---- nothing wraps: of entries whose widths are at most W, shifted by at most k, an operation's form and an output's are moderate

spread-shifted : (W k P t s : ℕ) → P * t < 2 ^ W → s ≤ k → P * (t * 2 ^ s) < 2 ^ (W + k)
spread-shifted W k P t s h l =
    let m : suc (P * t) * 2 ^ s ≤ 2 ^ W * 2 ^ k = mul-le-mul h (pow_mono l) in
    rw (pow-add 2 W k) (omega (arith, m, pow_pos s))

module _ (s W k n : ℕ) (two : 2 ≤ s) where
  -- the spread of a shifted form
  shifted-spread : (f : ℕ → ℤ) (sa : ℕ) → width s (each_column n f) ≤ W → sa ≤ k → 2 ^ (s - 1) * total (each_column n (λ i. shifted (f i) sa)) < 2 ^ (W + k)
  shifted-spread f sa h l =
      let e : total (each_column n (λ i. shifted (f i) sa)) ≡ total (each_column n f) * 2 ^ sa = omega (arith, positives-shifted f sa 0 n, negatives-shifted f sa 0 n) in
      rw e (spread-shifted W k (2 ^ (s - 1)) (total (each_column n f)) sa (width-spread s W (each_column n f) h two) l)

  pub operation-range-small : W + k ≤ 61 → (f g : ℕ → ℤ) (sign sa sb : ℕ) → width s (each_column n f) ≤ W → width s (each_column n g) ≤ W → sa ≤ k → sb ≤ k
      → SmallRange s (each_column n (λ i. joined sign (shifted (f i) sa) (shifted (g i) sb)))
  operation-range-small m f g sign sa sb hf hg la lb = record {
    spread = omega (
      arith,
      mul-le-mul_left (2 ^ (s - 1)) (total-joined sign (λ i. shifted (f i) sa) (λ i. shifted (g i) sb) 0 n),
      shifted-spread f sa hf la,
      shifted-spread g sb hg lb,
      pow_mono {i = W + k} {j = 61} m,
    );
  }

  pub output-range-small : W + k ≤ 62 → (f : ℕ → ℤ) (sign shift : ℕ) → width s (each_column n f) ≤ W → shift ≤ k
      → SmallRange s (each_column n (λ i. with_sign sign (shifted (f i) shift)))
  output-range-small m f sign shift h l = record {
    spread = omega (
      arith,
      mul-le-mul_left (2 ^ (s - 1)) (total-signed sign (λ i. shifted (f i) shift) 0 n),
      shifted-spread f shift h l,
      pow_mono {i = W + k} {j = 62} m,
    );
  }
