-- The powers of two at which a digit is nonzero sum to less than a third of the power two positions above the highest.
-- Assumes nothing.
use mathlib.Core.Path.{◌≡◌, ap}
use mathlib.Core.Logic.{◌⊎◌, inl, inr}
use mathlib.Core.List.{List, [], ◌∷◌}
use Prim.Native.Nat.{ℕ, zero, suc, ◌+◌, ◌*◌, ◌^◌, ◌≤◌}
use native.Mathlib.Omega.{arith}
use native.Mathlib.Nat.{pow-succ'}
use lib.IntN.{ℤ, pos, negsuc}
use lib.ListN.{length}
use lib.Pow.{pow_mono}
use Rattle.digits.specs.Digits.{Apart, Canonic, digits, powers_from}
use Rattle.digits.proofs.Canonic.{digits-length, digits-apart}

powers_lowest : (k : ℕ) (d : ℤ) (ds : List ℤ) → powers_from k (d ∷ ds) ≤ 2 ^ k + powers_from (suc k) ds
unfolding powers_from
powers_lowest k (pos zero) ds = omega arith
powers_lowest k (pos (suc d)) ds = omega arith
powers_lowest k (negsuc d) ds = omega arith

powers_none : (k : ℕ) (d : ℤ) (ds : List ℤ) → d ≡ pos 0 → powers_from k (d ∷ ds) ≡ powers_from (suc k) ds
unfolding powers_from
powers_none k d ds h = ap (λ (lowest : ℤ). powers_from k (lowest ∷ ds)) h

-- digits from position k up to the position below `top`
pub powers_apart : (k top : ℕ) (ds : List ℤ) → k + length ds ≡ top → Apart ds → 3 * powers_from k ds + 2 ^ k ≤ 2 ^ suc top
powers_apart k top [] e a = unfold powers_from in omega (arith, pow_mono {i = k} {j = suc top} (omega arith))
powers_apart k top (d ∷ []) e a =
    unfold powers_from in omega (arith, powers_lowest k d [], pow-succ' 2 k, pow-succ' 2 (suc k), pow_mono {i = suc (suc k)} {j = suc top} (omega arith))
powers_apart k top (d ∷ c ∷ ds) e a = by_case (a 0)
    (powers_apart (suc k) top (c ∷ ds) (omega arith) (λ i. a (suc i)))
    (powers_apart (suc (suc k)) top ds (omega arith) (λ i. a (suc (suc i))))
  where
    by_case : (d ≡ pos 0) ⊎ (c ≡ pos 0) → 3 * powers_from (suc k) (c ∷ ds) + 2 ^ suc k ≤ 2 ^ suc top
        → 3 * powers_from (suc (suc k)) ds + 2 ^ suc (suc k) ≤ 2 ^ suc top → 3 * powers_from k (d ∷ c ∷ ds) + 2 ^ k ≤ 2 ^ suc top
    by_case (inl h) f g = omega (arith, powers_none k d (c ∷ ds) h, pow-succ' 2 k)
    by_case (inr h) f g = omega (arith, powers_lowest k d (c ∷ ds), powers_none (suc k) c ds h, pow-succ' 2 k, pow-succ' 2 (suc k))

-- ---- of canonic digits, and of those worked out, which are apart for every number

pub canonic_powers : (positions : ℕ) (z : ℤ) (ds : List ℤ) → Canonic positions z ds → 3 * powers_from 0 ds + 1 ≤ 2 ^ suc positions
canonic_powers positions z ds c = powers_apart 0 positions ds (omega (arith, c.count)) c.apart

pub digits_powers : (positions : ℕ) (z : ℤ) → 3 * powers_from 0 (digits positions z) + 1 ≤ 2 ^ suc positions
digits_powers positions z = powers_apart 0 positions (digits positions z) (omega (arith, digits-length positions z)) (digits-apart positions z)
