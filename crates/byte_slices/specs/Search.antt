-- The search for a byte.
-- Assumes nothing.
use Rattle.std.specs.Prelude.{ℕ, suc, Bool, true, false, List, [], ◌∷◌, take, drop, nat_eq}

-- one further on, or here
unfoldable pub index_after : Bool → ℕ → ℕ
index_after here i = elim here [ true ↦ 0 | false ↦ suc i ]

-- the index of the first byte that is wanted, or the length
unfoldable pub index_of : ℕ → List ℕ → ℕ
index_of wanted [] = 0
index_of wanted (b ∷ bs) = index_after (nat_eq b wanted) (index_of wanted bs)

-- the bytes from start on, and before end
unfoldable pub slice : ℕ → ℕ → List ℕ → List ℕ
slice start end bs = drop start (take end bs)
