-- The bits of a number, bit 0 the lowest.
-- Assumes nothing.
use Rattle.std.specs.Prelude.{ℕ, zero, suc, ◌/◌, ◌%◌, ◌^◌, Bool, List, [], ◌∷◌, ◌++◌, eqb}

-- whether bit e is set
unfoldable pub bit_at : ℕ → ℕ → Bool
bit_at mask e = eqb (mask / 2 ^ e % 2) 1

-- the first bits
unfoldable pub bits_of : ℕ → ℕ → List Bool
unfolding bit_at
bits_of mask zero = []
bits_of mask (suc n) = bits_of mask n ++ (bit_at mask n ∷ [])
