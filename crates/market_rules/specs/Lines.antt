-- Document 01, "Matrix Market files": a text as lines, the places where they start, and the first of them that pass a test.
-- Assumes nothing.
use Rattle.std.specs.Prelude.{ℕ, suc, Bool, true, false, eqb, length, get_or, take}
use mathlib.Core.List.{List, [], ◌∷◌, flatten}

-- "Lines end with a line feed, the byte 10"
abbrev pub line_feed : ℕ
line_feed = 10

-- a byte put before lines: it begins the first of them
abbrev pub before_lines : ℕ → List (List ℕ) → List (List ℕ)
before_lines b [] = (b ∷ []) ∷ []
before_lines b (first ∷ more) = (b ∷ first) ∷ more

-- the lines of a text, each with the line feed that ends it; the last may lack it
unfoldable pub lines : List ℕ → List (List ℕ)
lines [] = []
lines (b ∷ text) = elim (eqb b line_feed) [ true ↦ (b ∷ []) ∷ lines text | false ↦ before_lines b (lines text) ]

-- line k; no bytes where it is missing
abbrev pub line : List ℕ → ℕ → List ℕ
line text k = get_or (lines text) k []

-- how many lines, from the first of them on, pass a test
unfoldable pub leading_count : (List ℕ → Bool) → List (List ℕ) → ℕ
leading_count test [] = 0
leading_count test (first ∷ more) = elim (test first) [ true ↦ suc (leading_count test more) | false ↦ 0 ]

-- "the start of the line", "or the file's end where a line is missing"
abbrev pub line_place : List ℕ → ℕ → ℕ
line_place text k = length (flatten (take k (lines text)))
