-- Document 01, "Digits and terms": the canonic signed digits of a whole number (source document 003), lowest position first,
-- over any number of positions.
-- Assumes nothing.
use Rattle.std.specs.Prelude.{◌≡◌, ◌⊎◌, List, [], ◌∷◌, ℕ, zero, suc, ◌+◌, ◌-◌, ◌%◌, ◌^◌, ℤ, pos, negsuc, ◌+ℤ◌, ◌*ℤ◌, length, get_or}
use Rattle.std.specs.Int.Signed.{shr_z}

-- ---- what they are

-- the digits −1, 0, 1
pub data IsDigit : ℤ → Type 0 where
  minus_one : IsDigit (negsuc 0)
  none : IsDigit (pos 0)
  one : IsDigit (pos 1)

abbrev pub digit_at : List ℤ → ℕ → ℤ
digit_at ds i = get_or ds i (pos 0)

-- no two neighbours are nonzero
abbrev pub Apart : List ℤ → Type 0
Apart ds = (i : ℕ) → (digit_at ds i ≡ pos 0) ⊎ (digit_at ds (suc i) ≡ pos 0)

-- the sum over powers of two, of digits whose lowest stands at position k
unfoldable pub sum_from : ℕ → List ℤ → ℤ
sum_from k [] = pos 0
sum_from k (d ∷ ds) = d *ℤ pos (2 ^ k) +ℤ sum_from (suc k) ds

-- ds are the canonic signed digits of z
pub record Canonic (positions : ℕ) (z : ℤ) (ds : List ℤ) : Type 0 where
  pub count : length ds ≡ positions
  pub digits : (i : ℕ) → IsDigit (digit_at ds i)
  pub apart : Apart ds
  pub sum : sum_from 0 ds ≡ z

-- ---- how they are worked out, from the lowest position on

-- the remainder by 4, from 0 to 3
abbrev pub mod_four : ℤ → ℕ
mod_four (pos a) = a % 4
mod_four (negsuc a) = 3 - a % 4

-- an odd number's digit is the one that leaves a multiple of 4
abbrev pub digit_of : ℕ → ℤ
digit_of zero = pos 0
digit_of (suc zero) = pos 1
digit_of (suc (suc zero)) = pos 0
digit_of (suc (suc (suc r))) = negsuc 0

-- what the digit −1 carries to the next position
abbrev pub carry_of : ℕ → ℤ
carry_of zero = pos 0
carry_of (suc zero) = pos 0
carry_of (suc (suc zero)) = pos 0
carry_of (suc (suc (suc r))) = pos 1

unfoldable pub digit : ℤ → ℤ
digit z = digit_of (mod_four z)

-- what is left above the digit: (z − digit z) / 2
unfoldable pub rest : ℤ → ℤ
rest z = shr_z z 2 +ℤ carry_of (mod_four z)

unfoldable pub digits : ℕ → ℤ → List ℤ
digits zero z = []
digits (suc positions) z = digit z ∷ digits positions (rest z)

-- ---- what is said of them

-- how many digits are nonzero
unfoldable pub nonzero : List ℤ → ℕ
nonzero [] = 0
nonzero (pos zero ∷ ds) = nonzero ds
nonzero (pos (suc d) ∷ ds) = suc (nonzero ds)
nonzero (negsuc d ∷ ds) = suc (nonzero ds)

-- the sum of the powers of two at which a digit is nonzero, of digits whose lowest stands at position k
unfoldable pub powers_from : ℕ → List ℤ → ℕ
powers_from k [] = 0
powers_from k (pos zero ∷ ds) = powers_from (suc k) ds
powers_from k (pos (suc d) ∷ ds) = 2 ^ k + powers_from (suc k) ds
powers_from k (negsuc d ∷ ds) = 2 ^ k + powers_from (suc k) ds

-- the summands of the sum: each nonzero digit times its power of two
unfoldable pub summands_from : ℕ → List ℤ → List ℤ
summands_from k [] = []
summands_from k (pos zero ∷ ds) = summands_from (suc k) ds
summands_from k (pos (suc d) ∷ ds) = (pos (suc d) *ℤ pos (2 ^ k)) ∷ summands_from (suc k) ds
summands_from k (negsuc d ∷ ds) = (negsuc d *ℤ pos (2 ^ k)) ∷ summands_from (suc k) ds
