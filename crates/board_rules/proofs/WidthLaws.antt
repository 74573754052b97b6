-- Widths: the formula from the sums of positive and of negative coefficients gives the smallest width that holds every value.
-- Assumes nothing.
use Prim.Native.Nat.{ℕ, zero, suc, pred, ◌+◌, ◌*◌, ◌-◌, ◌^◌, ◌≤◌, ◌<◌, max}
use mathlib.Core.Path.{◌≡◌, refl, sym, ap, ◌∙◌}
use mathlib.Core.Logic.{⊎_elim}
use mathlib.Core.List.{List, [], ◌∷◌, map}
use native.Mathlib.Omega.{arith}
use native.Mathlib.Nat.{mul-le-mul_left}
use native.Mathlib.Decide.{dec_lt}
use borrow.Author.Tests.{lt-ltb, le-ltb}
use lib.IntN.{ℤ, pos, negsuc, neg_ℤ, nat_abs}
use lib.ListN.{length, get_or, length-map}
use lib.Pow.{pow_mono, pow_pos}
use lib.Signed.{◌≤ℤ◌}
use Rattle.layout_rules.specs.declared.Operation.{Operation}
use Rattle.layout_rules.specs.declared.Output.{Output}
use Rattle.integers.proofs.Expression.{positive, negative, one_part, at, nat, minus, ◌⊕◌, ◌⊝◌, ◌⊗◌, equal, at_most, equal_parts, at_most_parts, size}
use Rattle.board_rules.specs.Machine.{entry_at, machine, output_value, times, entry_form, output_form}
use Rattle.board_rules.specs.Width.{Within, Samples, Holds, IsWidth, positive_part, negative_part, positives, negatives, highest, lowest, bits_from, bits, width}
use Rattle.board_rules.proofs.FormLaws.{entry_times, output-times, length_entry_form, length-output_form}

-- ---- the number of bits

bits-from_done : (f k m : ℕ) → m < 2 ^ k → bits_from f k m ≡ k
unfolding bits_from
bits-from_done zero k m h = refl
bits-from_done (suc f) k m h = rw (lt-ltb m (2 ^ k) h, bits_from)

bits-from-more : (f k m : ℕ) → 2 ^ k ≤ m → bits_from (suc f) k m ≡ bits_from f (suc k) m
unfolding bits_from
bits-from-more f k m h = rw (le-ltb m (2 ^ k) h, bits_from)

bits-from_enough : (f k m : ℕ) → m < 2 ^ (k + f) → m < 2 ^ bits_from f k m
unfolding bits_from
bits-from_enough zero k m h = let e : k + 0 ≡ k = omega arith in rw e at h
bits-from_enough (suc f) k m h = go (dec_lt m (2 ^ k)) (bits-from_enough f (suc k) m (rw e at h))
  where
    e : k + suc f ≡ suc k + f
    e = omega arith

    go : Dec (m < 2 ^ k) → m < 2 ^ bits_from f (suc k) m → m < 2 ^ bits_from (suc f) k m
    go (yes l) r = rw (bits-from_done (suc f) k m l) l
    go (no l) r = rw (bits-from-more f k m (omega arith)) r

bits-from-least : (f k m j : ℕ) → k ≤ j → m < 2 ^ j → bits_from f k m ≤ j
unfolding bits_from
bits-from-least zero k m j l h = l
bits-from-least (suc f) k m j l h = go (dec_lt m (2 ^ k)) (dec_lt k j) (bits-from-least f (suc k) m j)
  where
    go : Dec (m < 2 ^ k) → Dec (k < j) → (suc k ≤ j → m < 2 ^ j → bits_from f (suc k) m ≤ j) → bits_from (suc f) k m ≤ j
    go (yes d) e r = rw (bits-from_done (suc f) k m d) l
    go (no d) (yes e) r = rw (bits-from-more f k m (omega arith)) (r e h)
    go (no d) (no e) r = absurd (omega (arith, pow_mono {i = j} {j = k} (omega arith)))

self_below : (m : ℕ) → m < 2 ^ m
self_below zero = omega arith
self_below (suc m) = omega (arith, self_below m)

-- m is below 2 to the bits of m, and below no smaller power of 2
pub bits_enough : (m : ℕ) → m < 2 ^ bits m
unfolding bits
bits_enough m = bits-from_enough m 0 m (let e : 0 + m ≡ m = omega arith in rw e (self_below m))

pub bits-least : (m k : ℕ) → m < 2 ^ k → bits m ≤ k
unfolding bits
bits-least m k h = bits-from-least m 0 m k (omega arith) h

-- no number but bits m has both
pub bits-only : (m k : ℕ) → m < 2 ^ k → 2 ^ k ≤ 2 * m + 1 → bits m ≡ k
bits-only m k h l = go (dec_lt (bits m) k)
  where
    go : Dec (bits m < k) → bits m ≡ k
    go (yes d) = absurd (omega (arith, bits_enough m, pow_mono {i = suc (bits m)} {j = k} d))
    go (no d) = omega (arith, bits-least m k h)

-- ---- parts of integers

pub positive_is : (z : ℤ) → positive z ≡ positive_part z
positive_is (pos k) = ⊎_elim (λ e. omega (arith, equal_parts (at (pos k)) (nat k) refl)) (λ e. omega (arith, equal_parts (at (pos k)) (nat k) refl)) (one_part (pos k))
positive_is (negsuc k) =
    ⊎_elim (λ e. e) (λ e. absurd (omega (arith, equal_parts (at (negsuc k)) (minus (nat (suc k))) refl))) (one_part (negsuc k))

pub negative_is : (z : ℤ) → negative z ≡ negative_part z
negative_is (pos k) = omega (arith, equal_parts (at (pos k)) (nat k) refl, positive_is (pos k))
negative_is (negsuc k) = omega (arith, equal_parts (at (negsuc k)) (minus (nat (suc k))) refl, positive_is (negsuc k))

-- a number lies within a width if its parts do
pub record Between (P : ℕ) (z : ℤ) : Type 0 where
  pub above : positive z < P
  pub below : negative z ≤ P

pub within-between : {w : ℕ} {z : ℤ} → Within w z → Between (2 ^ (w - 1)) z
within-between {w} {z} h =
    let P : ℕ = 2 ^ (w - 1) in
    let l : negative z ≤ positive z + P = omega (arith, at_most_parts (minus (nat P)) (at z) h.low) in
    let u : positive z + 1 ≤ P + negative z = omega (arith, at_most_parts (at z) (nat P ⊝ nat 1) h.high) in
    ⊎_elim (λ e. record { above = omega (arith, pow_pos (w - 1)); below = omega arith }) (λ e. record { above = omega arith; below = omega arith }) (one_part z)

pub between-within : (w : ℕ) (z : ℤ) → Between (2 ^ (w - 1)) z → Within w z
between-within w z h =
    let P : ℕ = 2 ^ (w - 1) in
    record { low = at_most (minus (nat P)) (at z) (omega (arith, h.below)); high = at_most (at z) (nat P ⊝ nat 1) (omega (arith, h.above)) }

pub within-size : {w : ℕ} {z : ℤ} → Within w z → nat_abs z ≤ 2 ^ (w - 1)
within-size {w} {z} h = let b = within-between h in ⊎_elim (λ e. omega (arith, size (at z), b.below)) (λ e. omega (arith, size (at z), b.above)) (one_part z)

pub within_wider : {w : ℕ} {z : ℤ} (v : ℕ) → w ≤ v → Within w z → Within v z
within_wider {w} {z} v l h =
    let b = within-between h in
    let m : 2 ^ (w - 1) ≤ 2 ^ (v - 1) = pow_mono (omega arith) in
    between-within v z (record { above = omega (arith, b.above); below = omega (arith, b.below) })

-- ---- the range: every value lies between its ends

-- samples at most g, and at least −P
abbrev Ranged : ℕ → ℕ → List ℤ → Type 0
Ranged g P xs = (j : ℕ) → j < length xs → (positive (get_or xs j (pos 0)) ≤ g) × (negative (get_or xs j (pos 0)) ≤ P)

at_most-highest : (g P : ℕ) (cs xs : List ℤ) → Ranged g P xs → times cs xs ≤ℤ pos (g * positives cs + P * negatives cs)
unfolding times positives negatives
at_most-highest g P [] xs r = at_most (nat 0) (nat (g * 0 + P * 0)) (omega arith)
at_most-highest g P (c ∷ cs) [] r = at_most (nat 0) (nat (g * positives (c ∷ cs) + P * negatives (c ∷ cs))) (omega arith)
at_most-highest g P (c ∷ cs) (x ∷ xs) r =
    let t : ℤ = times cs xs in
    let h = at_most-highest g P cs xs (λ j l. r (suc j) (omega arith)) in
    at_most (at c ⊗ at x ⊕ at t) (nat (g * (positive_part c + positives cs) + P * (negative_part c + negatives cs))) (omega (
      arith,
      at_most_parts (at t) (nat (g * positives cs + P * negatives cs)) h,
      ap (λ k. g * k) (positive_is c),
      ap (λ k. P * k) (negative_is c),
      mul-le-mul_left (positive c) (r 0 (omega arith)).0,
      mul-le-mul_left (negative c) (r 0 (omega arith)).1,
    ))

at_least-lowest : (g P : ℕ) (cs xs : List ℤ) → Ranged g P xs → neg_ℤ (pos (P * positives cs + g * negatives cs)) ≤ℤ times cs xs
unfolding times positives negatives
at_least-lowest g P [] xs r = at_most (minus (nat (P * 0 + g * 0))) (nat 0) (omega arith)
at_least-lowest g P (c ∷ cs) [] r = at_most (minus (nat (P * positives (c ∷ cs) + g * negatives (c ∷ cs)))) (nat 0) (omega arith)
at_least-lowest g P (c ∷ cs) (x ∷ xs) r =
    let t : ℤ = times cs xs in
    let h = at_least-lowest g P cs xs (λ j l. r (suc j) (omega arith)) in
    at_most (minus (nat (P * (positive_part c + positives cs) + g * (negative_part c + negatives cs)))) (at c ⊗ at x ⊕ at t) (omega (
      arith,
      at_most_parts (minus (nat (P * positives cs + g * negatives cs))) (at t) h,
      ap (λ k. P * k) (positive_is c),
      ap (λ k. g * k) (negative_is c),
      mul-le-mul_left (positive c) (r 0 (omega arith)).1,
      mul-le-mul_left (negative c) (r 0 (omega arith)).0,
    ))

-- ---- and both ends are met

-- the sample at which c times it is largest, and the one at which it is smallest
abbrev most : ℕ → ℕ → ℤ → ℤ
most g P (pos c) = pos g
most g P (negsuc c) = neg_ℤ (pos P)

abbrev fewest : ℕ → ℕ → ℤ → ℤ
fewest g P (pos c) = neg_ℤ (pos P)
fewest g P (negsuc c) = pos g

highest_met : (g P : ℕ) (cs : List ℤ) → times cs (map (most g P) cs) ≡ pos (g * positives cs + P * negatives cs)
unfolding times positives negatives
highest_met g P [] = ap pos (omega arith)
highest_met g P (pos c ∷ cs) = let h : ℕ = g * positives cs + P * negatives cs in
    rw (highest_met g P cs) (equal (nat c ⊗ nat g ⊕ nat h) (nat (g * (c + positives cs) + P * (0 + negatives cs))) (omega arith))
highest_met g P (negsuc c ∷ cs) = let h : ℕ = g * positives cs + P * negatives cs in
    rw (highest_met g P cs) (equal (minus (nat (suc c)) ⊗ minus (nat P) ⊕ nat h) (nat (g * (0 + positives cs) + P * (suc c + negatives cs))) (omega arith))

lowest_met : (g P : ℕ) (cs : List ℤ) → times cs (map (fewest g P) cs) ≡ neg_ℤ (pos (P * positives cs + g * negatives cs))
unfolding times positives negatives
lowest_met g P [] = equal (nat 0) (minus (nat (P * 0 + g * 0))) (omega arith)
lowest_met g P (pos c ∷ cs) = let h : ℕ = P * positives cs + g * negatives cs in
    rw (lowest_met g P cs) (equal (nat c ⊗ minus (nat P) ⊕ minus (nat h)) (minus (nat (P * (c + positives cs) + g * (0 + negatives cs)))) (omega arith))
lowest_met g P (negsuc c ∷ cs) = let h : ℕ = P * positives cs + g * negatives cs in
    rw (lowest_met g P cs) (equal (minus (nat (suc c)) ⊗ nat g ⊕ minus (nat h)) (minus (nat (P * (0 + positives cs) + g * (suc c + negatives cs)))) (omega arith))

within_top : (s : ℕ) → Within s (pos (2 ^ (s - 1) - 1))
within_top s = let P : ℕ = 2 ^ (s - 1) in record {
  low = at_most (minus (nat P)) (nat (P - 1)) (omega arith);
  high = at_most (nat (P - 1)) (nat P ⊝ nat 1) (omega (arith, pow_pos (s - 1)));
}

within_bottom : (s : ℕ) → Within s (neg_ℤ (pos (2 ^ (s - 1))))
within_bottom s = let P : ℕ = 2 ^ (s - 1) in record {
  low = at_most (minus (nat P)) (minus (nat P)) (omega arith);
  high = at_most (minus (nat P)) (nat P ⊝ nat 1) (omega (arith, pow_pos (s - 1)));
}

each_within : (s : ℕ) (f : ℤ → ℤ) (cs : List ℤ) → ((c : ℤ) → Within s (f c)) → (j : ℕ) → j < length cs → Within s (get_or (map f cs) j (pos 0))
each_within s f [] h j l = absurd (omega arith)
each_within s f (c ∷ cs) h zero l = h c
each_within s f (c ∷ cs) h (suc j) l = each_within s f cs h j (omega arith)

samples-of : (s : ℕ) (f : ℤ → ℤ) (cs : List ℤ) (n : ℕ) → length cs ≡ n → ((c : ℤ) → Within s (f c)) → Samples s n (map f cs)
samples-of s f cs n e h = record { count = length-map cs f ∙ e; within = λ j l. each_within s f cs h j (omega arith) }

most-within : (s : ℕ) (c : ℤ) → Within s (most (2 ^ (s - 1) - 1) (2 ^ (s - 1)) c)
most-within s (pos c) = within_top s
most-within s (negsuc c) = within_bottom s

fewest_within : (s : ℕ) (c : ℤ) → Within s (fewest (2 ^ (s - 1) - 1) (2 ^ (s - 1)) c)
fewest_within s (pos c) = within_bottom s
fewest_within s (negsuc c) = within_top s

-- ---- the width

ranged : {s n : ℕ} {xs : List ℤ} → Samples s n xs → Ranged (2 ^ (s - 1) - 1) (2 ^ (s - 1)) xs
ranged {s} {n} {xs} h j l = let b = within-between (h.within j (omega (arith, h.count))) in (omega (arith, b.above), b.below)

one_less : (k : ℕ) → suc k - 1 ≡ k
one_less k = omega arith

-- what a width at most W says of both ends of the range, and the other way
pub record Range (s W : ℕ) (cs : List ℤ) : Type 0 where
  pub low : lowest s cs ≤ 2 ^ (W - 1)
  pub high : highest s cs < 2 ^ (W - 1)

module _ (s : ℕ) (cs : List ℤ) where
  pub range-of-width : (W : ℕ) → width s cs ≤ W → Range s W cs
  unfolding width
  range-of-width W h =
      let m : ℕ = max (highest s cs) (pred (lowest s cs)) in
      let p : 2 ^ bits m ≤ 2 ^ (W - 1) = pow_mono (omega arith) in
      let q : m < 2 ^ (W - 1) = omega (arith, bits_enough m) in
      record { low = omega arith; high = omega arith }

  pub width-of-range : (W : ℕ) → 1 ≤ W → Range s W cs → width s cs ≤ W
  unfolding width
  width-of-range W l h =
      let m : ℕ = max (highest s cs) (pred (lowest s cs)) in
      let q : m < 2 ^ (W - 1) = omega (arith, h.low, h.high, pow_pos (W - 1)) in
      omega (arith, bits-least m (W - 1) q)

  pub width-from-one : 1 ≤ width s cs
  unfolding width
  width-from-one = omega arith

  value-within : (W : ℕ) → Range s W cs → (xs : List ℤ) → Ranged (2 ^ (s - 1) - 1) (2 ^ (s - 1)) xs → Within W (times cs xs)
  value-within W h xs r =
      let t : ℤ = times cs xs in
      let Q : ℕ = 2 ^ (W - 1) in
      let hi : ℕ = highest s cs in
      let lo : ℕ = lowest s cs in
      let u = at_most_parts (at t) (nat hi) (at_most-highest (2 ^ (s - 1) - 1) (2 ^ (s - 1)) cs xs r) in
      let d = at_most_parts (minus (nat lo)) (at t) (at_least-lowest (2 ^ (s - 1) - 1) (2 ^ (s - 1)) cs xs r) in
      let a : hi < Q = h.high in
      let b : lo ≤ Q = h.low in
      record { low = at_most (minus (nat Q)) (at t) (omega arith); high = at_most (at t) (nat Q ⊝ nat 1) (omega arith) }

  range-of-holds : (n v : ℕ) → length cs ≡ n → Holds s n (times cs) v → Range s v cs
  range-of-holds n v e h =
      let g : ℕ = 2 ^ (s - 1) - 1 in
      let P : ℕ = 2 ^ (s - 1) in
      let u = h (map (most g P) cs) (samples-of s (most g P) cs n e (most-within s)) in
      let d = h (map (fewest g P) cs) (samples-of s (fewest g P) cs n e (fewest_within s)) in
      let u' : Within v (pos (highest s cs)) = rw (highest_met g P cs) at u in
      let d' : Within v (neg_ℤ (pos (lowest s cs))) = rw (lowest_met g P cs) at d in
      record {
        low = omega (arith, at_most_parts (minus (nat (2 ^ (v - 1)))) (minus (nat (lowest s cs))) d'.low);
        high = omega (arith, at_most_parts (nat (highest s cs)) (nat (2 ^ (v - 1)) ⊝ nat 1) u'.high);
      }

  -- the formula gives the width of row times vector: it holds every value, and no smaller one does
  pub width_is : (n : ℕ) → length cs ≡ n → IsWidth s n (times cs) (width s cs)
  width_is n e = record {
    from_one = width-from-one;
    holds = λ xs h. value-within (width s cs) (range-of-width (width s cs) (omega arith)) xs (ranged h);
    least = λ v l h. width-of-range v l (range-of-holds n v e h);
  }

-- there is one width
pub width_unique : {s n : ℕ} {value : List ℤ → ℤ} {v w : ℕ} → IsWidth s n value v → IsWidth s n value w → v ≡ w
width_unique {s} {n} {value} {v} {w} a b = omega (arith, a.least w b.from_one b.holds, b.least v a.from_one a.holds)

-- values that agree have the same width
pub width_same : {s n w : ℕ} (f g : List ℤ → ℤ) → ((xs : List ℤ) → length xs ≡ n → f xs ≡ g xs) → IsWidth s n f w → IsWidth s n g w
width_same {s} {n} {w} f g e h = record {
  from_one = h.from_one;
  holds = λ xs x. rw (e xs x.count) at (h.holds xs x);
  least = λ v l k. h.least v l (λ xs x. rw (e xs x.count) (k xs x));
}

-- the width of an entry, and of an output, is that of its form
pub entry_width-is : (s n : ℕ) (os : List Operation) (symbol : ℕ) → IsWidth s n (λ xs. entry_at (machine xs os) symbol) (width s (entry_form n os symbol))
entry_width-is s n os symbol =
    width_same (times (entry_form n os symbol)) (λ xs. entry_at (machine xs os) symbol) (λ xs h. sym (entry_times n os symbol xs h))
    (width_is s (entry_form n os symbol) n (length_entry_form n os symbol))

pub output-width-is : (s n : ℕ) (os : List Operation) (o : Output) → IsWidth s n (λ xs. output_value (machine xs os) o) (width s (output_form n os o))
output-width-is s n os o =
    width_same (times (output_form n os o)) (λ xs. output_value (machine xs os) o) (λ xs h. sym (output-times n os o xs h))
    (width_is s (output_form n os o) n (length-output_form n os o))
