-- The test of m and n passes exactly where they are within the limits of a matrix record, and a bank's are those of a matrix record or
-- both 0; the test of a sample width, exactly where it is one.
-- Assumes nothing.
use Prim.Native.Nat.{ℕ, zero, suc, ◌≤◌}
use mathlib.Core.Path.{◌≡◌, refl}
use mathlib.Core.Bool.{Bool, true, false, ◌||◌, true≢false}
use mathlib.Core.Logic.{◌↔◌, ◌⊎◌, inl, inr, ⊎_elim}
use native.Mathlib.Omega.{arith}
use lib.Dec.{ltb}
use borrow.Author.Tests.{ltb-false, le-ltb}
use Rattle.limits.specs.Limits.{max_rows, max_columns, least_sample_width, most_sample_width}
use Rattle.limits.specs.Size.{SizeLimits, BankSize, outside, size_outside, SampleWidth, sample_width_outside}

either_false : (p q : Bool) → (p || q) ≡ false → (p ≡ false) × (q ≡ false)
either_false true q e = absurd (true≢false e)
either_false false q e = (refl, e)

within : (most x : ℕ) → outside most x ≡ false → (1 ≤ x) × (x ≤ most)
within most x e = let both = either_false (ltb x 1) (ltb most x) e in (ltb-false x 1 both.0, ltb-false most x both.1)

pub size-within : (m n : ℕ) → size_outside m n ≡ false → SizeLimits m n
size-within m n e =
    let both = either_false (outside max_rows m) (outside max_columns n) e in
    let rows = within max_rows m both.0 in
    let columns = within max_columns n both.1 in
    record { rows-least = rows.0; rows-most = rows.1; columns-least = columns.0; columns-most = columns.1 }

pub size-inside : (m n : ℕ) → SizeLimits m n → size_outside m n ≡ false
size-inside m n l =
    simp (le-ltb m 1 l.rows-least, le-ltb max_rows m l.rows-most, le-ltb n 1 l.columns-least, le-ltb max_columns n l.columns-most)

-- ---- a bank's m and n

-- "a bank of no rows and no inputs, also within the limits"
pub bank_size : (m n : ℕ) → BankSize m n ↔ (((m ≡ 0) × (n ≡ 0)) ⊎ SizeLimits m n)
bank_size m n = (there m n, back)
  where
    there : (m n : ℕ) → BankSize m n → ((m ≡ 0) × (n ≡ 0)) ⊎ SizeLimits m n
    there zero n b = inl (refl, b.together.0 refl)
    there (suc m) zero b = absurd (omega (arith, b.together.1 refl))
    there (suc m) (suc n) b =
        inr (record { rows-least = omega arith; rows-most = b.rows-most; columns-least = omega arith; columns-most = b.columns-most })

    back : ((m ≡ 0) × (n ≡ 0)) ⊎ SizeLimits m n → BankSize m n
    back (inl e) = record { rows-most = omega (arith, e.0); columns-most = omega (arith, e.1); together = (λ h. e.1, λ h. e.0) }
    back (inr l) = record {
      rows-most = l.rows-most;
      columns-most = l.columns-most;
      together = (λ h. absurd (omega (arith, l.rows-least, h)), λ h. absurd (omega (arith, l.columns-least, h)));
    }

-- where there are rows, there are inputs
pub rows_have_inputs : (m n : ℕ) → BankSize m n → 1 ≤ m → 1 ≤ n
rows_have_inputs m n b h = ⊎_elim (λ e. absurd (omega (arith, e.0))) (λ l. l.columns-least) ((bank_size m n).0 b)

-- ---- sample widths

pub sample-width-within : (s : ℕ) → sample_width_outside s ≡ false → SampleWidth s
sample-width-within s e =
    let both = either_false (ltb s least_sample_width) (ltb most_sample_width s) e in
    record { least = ltb-false s least_sample_width both.0; most = ltb-false most_sample_width s both.1 }

pub sample-width-inside : (s : ℕ) → SampleWidth s → sample_width_outside s ≡ false
sample-width-inside s w = simp (le-ltb s least_sample_width w.least, le-ltb most_sample_width s w.most)
