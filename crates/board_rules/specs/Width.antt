-- Document 01, "Netlist and board machine": the width of a value over all samples of s bits.
-- Assumes nothing.
use Rattle.std.specs.Prelude.{ℕ, zero, suc, ◌+◌, ◌*◌, ◌-◌, ◌^◌, ◌≤◌, ◌<◌, max, pred, ◌≡◌, true, false, List, [], ◌∷◌, ltb, ℤ, pos, negsuc, neg_ℤ, ◌-ℤ◌, length, get_or, ◌≤ℤ◌}

-- ---- what it is

-- z lies within the width w: it is between −2^(w−1) and 2^(w−1) − 1
pub record Within (w : ℕ) (z : ℤ) : Type 0 where
  pub low : neg_ℤ (pos (2 ^ (w - 1))) ≤ℤ z
  pub high : z ≤ℤ (pos (2 ^ (w - 1)) -ℤ pos 1)

-- n samples of s bits
pub record Samples (s n : ℕ) (xs : List ℤ) : Type 0 where
  pub count : length xs ≡ n
  pub within : (j : ℕ) → j < n → Within s (get_or xs j (pos 0))

-- w holds every value over all samples
abbrev pub Holds : ℕ → ℕ → (List ℤ → ℤ) → ℕ → Type 0
Holds s n value w = (xs : List ℤ) → Samples s n xs → Within w (value xs)

-- w is the width: the smallest w ≥ 1 that does
pub record IsWidth (s n : ℕ) (value : List ℤ → ℤ) (w : ℕ) : Type 0 where
  pub from_one : 1 ≤ w
  pub holds : Holds s n value w
  pub least : (v : ℕ) → 1 ≤ v → Holds s n value v → w ≤ v

-- ---- how it is worked out, from the coefficients of the samples in the value

-- a positive coefficient, else 0; and a negative one negated, else 0
abbrev pub positive_part : ℤ → ℕ
positive_part (pos c) = c
positive_part (negsuc c) = 0

abbrev pub negative_part : ℤ → ℕ
negative_part (pos c) = 0
negative_part (negsuc c) = suc c

-- the sum of the positive coefficients, and that of the negative ones negated
unfoldable pub positives : List ℤ → ℕ
positives [] = 0
positives (c ∷ cs) = positive_part c + positives cs

unfoldable pub negatives : List ℤ → ℕ
negatives [] = 0
negatives (c ∷ cs) = negative_part c + negatives cs

-- the largest value, where the positive coefficients sum to p and the negative ones to −q, and the smallest one negated
abbrev pub highest_of : ℕ → ℕ → ℕ → ℕ
highest_of s p q = (2 ^ (s - 1) - 1) * p + 2 ^ (s - 1) * q

abbrev pub lowest_of : ℕ → ℕ → ℕ → ℕ
lowest_of s p q = 2 ^ (s - 1) * p + (2 ^ (s - 1) - 1) * q

abbrev pub highest : ℕ → List ℤ → ℕ
highest s cs = highest_of s (positives cs) (negatives cs)

abbrev pub lowest : ℕ → List ℤ → ℕ
lowest s cs = lowest_of s (positives cs) (negatives cs)

-- the smallest k, from k on, with m below 2^k, in f steps at the most
unfoldable pub bits_from : ℕ → ℕ → ℕ → ℕ
bits_from zero k m = k
bits_from (suc f) k m = elim (ltb m (2 ^ k)) [ true ↦ k | false ↦ bits_from f (suc k) m ]

-- m is below 2^m
unfoldable pub bits : ℕ → ℕ
unfolding bits_from
bits m = bits_from m 0 m

-- the sign's bit, and those of the end that needs more
abbrev pub width_of : ℕ → ℕ → ℕ → ℕ
width_of s p q = suc (bits (max (highest_of s p q) (pred (lowest_of s p q))))

unfoldable pub width : ℕ → List ℤ → ℕ
unfolding positives negatives bits
width s cs = width_of s (positives cs) (negatives cs)
