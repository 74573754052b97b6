-- Document 01, "Why a record was declined": tests in their order, each with the number and the place that are returned where it is the
-- first that fails, and the tests of a matrix's bytes. Nothing here computes an answer; the calls are held to such lists. In a list a
-- comment says in document 01's words when a test fails, and the statement what holds where it passes.
-- Assumes nothing.
use Rattle.std.specs.Prelude.{ℕ, zero, suc, ◌≤◌, ◌≡◌, ◌⊎◌, List, [], ◌∷◌, ◌++◌, length}
use Rattle.limits.specs.Size.{SizeLimits}
use Rattle.layout_rules.specs.Bytes.{word}
use Rattle.layout_rules.specs.Matrix.{matrix_kind, rows, columns, matrix_length}

-- a test's number and place, and what holds where it passes
pub record Test : Type 1 where
  pub number : ℕ
  pub place : ℕ
  pub passes : Type 0

abbrev pub tested : ℕ → ℕ → Type 0 → Test
tested number place passes = record { number = number; place = place; passes = passes }

abbrev pub AllPass : List Test → Type 0
AllPass [] = Unit {0}
AllPass (t ∷ ts) = t.passes × AllPass ts

-- the first test that fails has this number and this place
abbrev pub FirstFails : List Test → ℕ → ℕ → Type 0
FirstFails [] number place = ⊥
FirstFails (t ∷ ts) number place =
    ((t.passes → ⊥) × (number ≡ t.number) × (place ≡ t.place)) ⊎ (t.passes × FirstFails ts number place)

-- the tests of the first k records of a kind
unfoldable pub first_tests : (ℕ → List Test) → ℕ → List Test
first_tests tests zero = []
first_tests tests (suc k) = first_tests tests k ++ tests k

-- 1: one to five bytes; 2: length field differs from the number of bytes lent; 3: kind is not 1; 4: m or n outside 1 to 8;
-- 5: length is not 6 + 2 times m times n
abbrev pub matrix_record_tests : List ℕ → List Test
matrix_record_tests bytes =
    tested 1 0 (6 ≤ length bytes)
    ∷ tested 2 0 (word bytes 0 ≡ length bytes)
    ∷ tested 3 0 (word bytes 2 ≡ matrix_kind)
    ∷ tested 4 0 (SizeLimits (rows bytes) (columns bytes))
    ∷ tested 5 0 (length bytes ≡ matrix_length (rows bytes) (columns bytes))
    ∷ []

-- no bytes are within the limits, and nothing of them is tested
abbrev pub matrix_tests : List ℕ → List Test
matrix_tests [] = []
matrix_tests (b ∷ bytes) = matrix_record_tests (b ∷ bytes)
