-- Document 01, "at most 8 digits are nonzero": at most every second one is, so at most h over 2h positions.
-- Assumes nothing.
use mathlib.Core.Path.{◌≡◌, ap}
use mathlib.Core.Logic.{◌⊎◌, inl, inr}
use mathlib.Core.List.{List, [], ◌∷◌}
use Prim.Native.Nat.{ℕ, zero, suc, ◌*◌, ◌≤◌}
use native.Mathlib.Omega.{arith}
use lib.IntN.{ℤ, pos, negsuc}
use lib.ListN.{length}
use Rattle.digits.specs.Digits.{Apart, Canonic, digits, nonzero}
use Rattle.digits.proofs.Canonic.{digits-length, digits-apart}

nonzero-lowest : (d : ℤ) (ds : List ℤ) → nonzero (d ∷ ds) ≤ suc (nonzero ds)
unfolding nonzero
nonzero-lowest (pos zero) ds = omega arith
nonzero-lowest (pos (suc d)) ds = omega arith
nonzero-lowest (negsuc d) ds = omega arith

nonzero-none : (d : ℤ) (ds : List ℤ) → d ≡ pos 0 → nonzero (d ∷ ds) ≡ nonzero ds
unfolding nonzero
nonzero-none d ds h = ap (λ (lowest : ℤ). nonzero (lowest ∷ ds)) h

pub nonzero-apart : (ds : List ℤ) → Apart ds → 2 * nonzero ds ≤ suc (length ds)
nonzero-apart [] a = unfold nonzero in omega arith
nonzero-apart (d ∷ []) a = unfold nonzero in omega (arith, nonzero-lowest d [])
nonzero-apart (d ∷ e ∷ ds) a = by_case (a 0) (nonzero-apart (e ∷ ds) (λ i. a (suc i))) (nonzero-apart ds (λ i. a (suc (suc i))))
  where
    by_case : (d ≡ pos 0) ⊎ (e ≡ pos 0) → 2 * nonzero (e ∷ ds) ≤ suc (suc (length ds)) → 2 * nonzero ds ≤ suc (length ds) → 2 * nonzero (d ∷ e ∷ ds) ≤ suc (suc (suc (length ds)))
    by_case (inl h) k l = omega (arith, nonzero-none d (e ∷ ds) h)
    by_case (inr h) k l = omega (arith, nonzero-lowest d (e ∷ ds), nonzero-none e ds h)

-- ---- of canonic digits, and of those worked out, which are apart for every number

pub canonic_nonzero : (positions : ℕ) (z : ℤ) (ds : List ℤ) → Canonic positions z ds → 2 * nonzero ds ≤ suc positions
canonic_nonzero positions z ds c = omega (arith, nonzero-apart ds c.apart, c.count)

pub digits-nonzero : (positions : ℕ) (z : ℤ) → 2 * nonzero (digits positions z) ≤ suc positions
digits-nonzero positions z = omega (arith, nonzero-apart (digits positions z) (digits-apart positions z), digits-length positions z)

pub canonic_nonzero_half : (half : ℕ) (z : ℤ) (ds : List ℤ) → Canonic (2 * half) z ds → nonzero ds ≤ half
canonic_nonzero_half half z ds c = omega (arith, canonic_nonzero (2 * half) z ds c)

pub digits-nonzero_half : (half : ℕ) (z : ℤ) → nonzero (digits (2 * half) z) ≤ half
digits-nonzero_half half z = omega (arith, digits-nonzero (2 * half) z)
