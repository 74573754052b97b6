-- Text as bytes, lines one after another, and the line of a refusal.
-- Assumes nothing.
use Rattle.std.specs.Prelude.{ℕ, zero, suc, List, [], ◌∷◌, ◌++◌}
use Prim.Native.Char.{code}
use Prim.Native.String.{String, [] as none, ◌∷◌ as ◌then◌}
use Rattle.text.specs.Decimal.{number}

-- a text's bytes
abbrev pub ascii : String → List ℕ
ascii none = []
ascii (◌then◌ c s) = code c ∷ ascii s

-- a line for each, numbered from the first number on
unfoldable pub lines : {A : Type 0} → (ℕ → A → List ℕ) → ℕ → List A → List ℕ
lines line first [] = []
lines line first (x ∷ xs) = line first x ++ lines line (suc first) xs

-- the lines of the numbers below a count
unfoldable pub lines_of : (ℕ → List ℕ) → ℕ → List ℕ
lines_of line zero = []
lines_of line (suc count) = lines_of line count ++ line count

-- a refusal: its number and its place
abbrev pub refused_line : ℕ → ℕ → List ℕ
refused_line refusal place = ascii "refused " ++ number refusal ++ (ascii " at " ++ number place ++ ascii "\n")

abbrev pub longest_refused_line : ℕ
longest_refused_line = 38
