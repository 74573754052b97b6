-- The line of a clock, output by output.
-- Assumes nothing.
use Prim.Native.Nat.{ℕ, zero, suc, ◌+◌, ◌<◌}
use mathlib.Core.Path.{◌≡◌, refl, ap₂}
use mathlib.Core.List.{List, [], ◌∷◌}
use native.Mathlib.Omega.{arith}
use native.Mathlib.Numerals.{add-one}
use lib.Dec.{ltb}
use lib.IntN.{ℤ, pos}
use lib.ListN.{length, get_or}
use Rattle.clock_text.specs.Lines.{separated}

-- output i, and whether others follow
abbrev pub output_text : List ℤ → ℕ → ℤ → List ℕ
output_text outputs i z = separated z (ltb (suc i) (length outputs))

-- what stands at a place that there is does not hang on what stands elsewhere
pub get_d_there : {A : Type 0} (l : List A) (i : ℕ) (d e : A) → i < length l → get_or l i d ≡ get_or l i e
get_d_there [] i d e h = absurd (omega arith)
get_d_there (x ∷ l) zero d e h = refl
get_d_there (x ∷ l) (suc i) d e h = get_d_there l i d e (omega arith)

pub text-of-output : (outputs : List ℤ) (i : ℕ) (z : ℤ) → z ≡ get_or outputs i (pos 0)
    → separated z (ltb (i + 1) (length outputs)) ≡ output_text outputs i (get_or outputs i (pos 0))
text-of-output outputs i z e = ap₂ (λ (y : ℤ) (k : ℕ). separated y (ltb k (length outputs))) e (add-one i)
