-- An integer as a difference of two natural numbers: `p ⊖ n` is p − n. Operations and orders of differences are those of ℕ,
-- which is what `Expression` rests on.
-- Assumes nothing.
use mathlib.Core.Path.{◌≡◌, sym, ap, ◌∙◌}
use mathlib.Core.Bool.{Bool, true, false, not, cond}
use Prim.Native.Nat.{ℕ, zero, suc, ◌+◌, ◌*◌, ◌-◌, ◌≤◌, ◌<◌}
use native.Mathlib.Omega.{arith}
use lib.Dec.{T, ltb, ltb→lt, nltb→le, lt→ltb, leb→le, le→leb}
use lib.IntN.{ℤ, pos, negsuc, neg_ℤ, sub_ℕ, ◌+ℤ◌, ◌*ℤ◌, nat_abs}
use lib.Signed.{le_z, lt_z, ◌≤ℤ◌, ◌<ℤ◌, mag}

infix 60 ◌⊖◌
pub ◌⊖◌ : ℕ → ℕ → ℤ
p ⊖ n = sub_ℕ p n

by_condition : (c : Bool) (x y : ℤ) (P : ℤ → Type 0) → (T c → P x) → (T (not c) → P y) → P (cond c x y)
by_condition true x y P f g = f tt
by_condition false x y P f g = g tt

-- a difference is pos k with p = n + k, or negsuc k with n = p + suc k
cases : (P : ℤ → Type 0) (p n : ℕ) → ((k : ℕ) → p ≡ n + k → P (pos k)) → ((k : ℕ) → n ≡ p + suc k → P (negsuc k)) → P (p ⊖ n)
unfolding ◌⊖◌
cases P p n f g = by_condition (ltb p n) (negsuc (n - suc p)) (pos (p - n)) P
    (λ t. g (n - suc p) (omega (arith, ltb→lt p n t)))
    (λ t. f (p - n) (omega (arith, nltb→le p n t)))

is_pos : (p n k : ℕ) → p ≡ n + k → p ⊖ n ≡ pos k
is_pos p n k e = cases (λ z. z ≡ pos k) p n (λ j h. ap pos (omega arith)) (λ j h. absurd (omega arith))

is-negsuc : (p n k : ℕ) → n ≡ p + suc k → p ⊖ n ≡ negsuc k
is-negsuc p n k e = cases (λ z. z ≡ negsuc k) p n (λ j h. absurd (omega arith)) (λ j h. ap negsuc (omega arith))

pub pos-⊖ : (k : ℕ) → pos k ≡ k ⊖ 0
pos-⊖ k = sym (is_pos k 0 k (omega arith))

pub negsuc-⊖ : (k : ℕ) → negsuc k ≡ 0 ⊖ suc k
negsuc-⊖ k = sym (is-negsuc 0 (suc k) k (omega arith))

-- equations and orders, from ℕ
pub eq-⊖ : (p n q m : ℕ) → p + m ≡ q + n → p ⊖ n ≡ q ⊖ m
eq-⊖ p n q m e = cases (λ z. p ⊖ n ≡ z) q m (λ k h. is_pos p n k (omega arith)) (λ k h. is-negsuc p n k (omega arith))

pub le-⊖ : (p n q m : ℕ) → p + m ≤ q + n → (p ⊖ n) ≤ℤ (q ⊖ m)
le-⊖ p n q m h = record {
  le = cases (λ z. T (le_z z (q ⊖ m))) p n
      (λ k e. cases (λ z. T (le_z (pos k) z)) q m (λ j d. le→leb k j (omega arith)) (λ j d. absurd (omega arith)))
      (λ k e. cases (λ z. T (le_z (negsuc k) z)) q m (λ j d. tt) (λ j d. le→leb j k (omega arith)));
}

pub lt-⊖ : (p n q m : ℕ) → p + m < q + n → (p ⊖ n) <ℤ (q ⊖ m)
lt-⊖ p n q m h = record {
  lt = cases (λ z. T (lt_z z (q ⊖ m))) p n
      (λ k e. cases (λ z. T (lt_z (pos k) z)) q m (λ j d. lt→ltb k j (omega arith)) (λ j d. absurd (omega arith)))
      (λ k e. cases (λ z. T (lt_z (negsuc k) z)) q m (λ j d. tt) (λ j d. lt→ltb j k (omega arith)));
}

-- and to ℕ
pub ⊖-le : (p n q m : ℕ) → (p ⊖ n) ≤ℤ (q ⊖ m) → p + m ≤ q + n
⊖-le p n q m h = cases (λ z. T (le_z z (q ⊖ m)) → p + m ≤ q + n) p n
    (λ k e. cases (λ z. T (le_z (pos k) z) → p + m ≤ q + n) q m (λ j d t. omega (arith, leb→le k j t)) (λ j d t. absurd t))
    (λ k e. cases (λ z. T (le_z (negsuc k) z) → p + m ≤ q + n) q m (λ j d t. omega arith) (λ j d t. omega (arith, leb→le j k t)))
    h.le

pub ⊖-lt : (p n q m : ℕ) → (p ⊖ n) <ℤ (q ⊖ m) → p + m < q + n
⊖-lt p n q m h = cases (λ z. T (lt_z z (q ⊖ m)) → p + m < q + n) p n
    (λ k e. cases (λ z. T (lt_z (pos k) z) → p + m < q + n) q m (λ j d t. omega (arith, ltb→lt k j t)) (λ j d t. absurd t))
    (λ k e. cases (λ z. T (lt_z (negsuc k) z) → p + m < q + n) q m (λ j d t. omega arith) (λ j d t. omega (arith, ltb→lt j k t)))
    h.lt

pub ⊖-eq : (p n q m : ℕ) → p ⊖ n ≡ q ⊖ m → p + m ≡ q + n
⊖-eq p n q m e = omega (arith, ⊖-le p n q m (rw e (le-⊖ q m q m (omega arith))), ⊖-le q m p n (rw e (le-⊖ q m q m (omega arith))))

-- the operations
pub neg-⊖ : (p n : ℕ) → neg_ℤ (p ⊖ n) ≡ n ⊖ p
neg-⊖ p n = cases (λ z. neg_ℤ z ≡ n ⊖ p) p n f (λ k h. sym (is_pos n p (suc k) h))
  where
    f : (k : ℕ) → p ≡ n + k → neg_ℤ (pos k) ≡ n ⊖ p
    f zero h = sym (is_pos n p 0 (omega arith))
    f (suc k) h = sym (is-negsuc n p k h)

mixed : (a b x y : ℕ) → a + y ≡ x + b → sub_ℕ a b ≡ x ⊖ y
unfolding ◌⊖◌
mixed a b x y e = eq-⊖ a b x y e

pub add-⊖ : (p n q m : ℕ) → (p ⊖ n) +ℤ (q ⊖ m) ≡ (p + q) ⊖ (n + m)
add-⊖ p n q m = cases (λ z. z +ℤ (q ⊖ m) ≡ (p + q) ⊖ (n + m)) p n
    (λ k h. cases (λ z. pos k +ℤ z ≡ (p + q) ⊖ (n + m)) q m
    (λ j e. sym (is_pos (p + q) (n + m) (k + j) (omega arith)))
    (λ j e. mixed k (suc j) (p + q) (n + m) (omega arith)))
    (λ k h. cases (λ z. negsuc k +ℤ z ≡ (p + q) ⊖ (n + m)) q m
    (λ j e. mixed j (suc k) (p + q) (n + m) (omega arith))
    (λ j e. sym (is-negsuc (p + q) (n + m) (suc (k + j)) (omega arith))))

neg_pos : (x : ℕ) → neg_ℤ (pos x) ≡ 0 ⊖ x
neg_pos x = ap neg_ℤ (pos-⊖ x) ∙ neg-⊖ x 0

pub mul-⊖ : (p n q m : ℕ) → (p ⊖ n) *ℤ (q ⊖ m) ≡ (p * q + n * m) ⊖ (p * m + n * q)
mul-⊖ p n q m = cases (λ z. z *ℤ (q ⊖ m) ≡ (p * q + n * m) ⊖ (p * m + n * q)) p n
    (λ k h. rw h (cases (λ z. pos k *ℤ z ≡ ((n + k) * q + n * m) ⊖ ((n + k) * m + n * q)) q m
    (λ j e. rw e (pos-⊖ (k * j) ∙ eq-⊖ _ _ _ _ (omega arith)))
    (λ j e. rw e (neg_pos (k * suc j) ∙ eq-⊖ _ _ _ _ (omega arith)))))
    (λ k h. rw h (cases (λ z. negsuc k *ℤ z ≡ (p * q + (p + suc k) * m) ⊖ (p * m + (p + suc k) * q)) q m
    (λ j e. rw e (neg_pos (suc k * j) ∙ eq-⊖ _ _ _ _ (omega arith)))
    (λ j e. rw e (pos-⊖ (suc k * suc j) ∙ eq-⊖ _ _ _ _ (omega arith)))))

-- sizes
pub abs-⊖ : (p n : ℕ) → nat_abs (p ⊖ n) ≡ (p - n) + (n - p)
abs-⊖ p n = cases (λ z. nat_abs z ≡ (p - n) + (n - p)) p n (λ k h. omega arith) (λ k h. omega arith)

pub mag-⊖ : (p n : ℕ) → mag (p ⊖ n) ≡ (p - n) + (n - suc p)
mag-⊖ p n = cases (λ z. mag z ≡ (p - n) + (n - suc p)) p n (λ k h. omega arith) (λ k h. omega arith)
