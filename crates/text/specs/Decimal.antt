-- Numbers in decimal, as bytes.
-- Assumes nothing.
use Rattle.std.specs.Prelude.{ℕ, zero, suc, ◌+◌, ◌*◌, ◌-◌, ◌/◌, ◌%◌, true, false, List, [], ◌∷◌, ◌++◌, ltb}

-- the byte of a digit: that of 0 is 48
abbrev pub digit_byte : ℕ → ℕ
digit_byte d = 48 + d

-- a number's digits, highest first, at most so many of them
unfoldable pub decimal : ℕ → ℕ → List ℕ
decimal zero n = []
decimal (suc most) n = elim (ltb n 10) [ true ↦ digit_byte n ∷ [] | false ↦ decimal most (n / 10) ++ (digit_byte (n % 10) ∷ []) ]

-- a number n has at most n + 1 digits
unfoldable pub number : ℕ → List ℕ
number n = decimal (suc n) n

-- the number that digits say, highest first, behind those that said a value
unfoldable pub value_behind : ℕ → List ℕ → ℕ
value_behind value [] = value
value_behind value (d ∷ ds) = value_behind (10 * value + (d - digit_byte 0)) ds

-- the number that digits say
abbrev pub decimal_value : List ℕ → ℕ
decimal_value ds = value_behind 0 ds
