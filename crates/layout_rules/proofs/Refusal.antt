-- Refusals are tested in order: where none is returned, each test failed.
-- Assumes nothing.
use Prim.Native.Nat.{ℕ, ◌<◌}
use mathlib.Core.Path.{◌≡◌, refl}
use mathlib.Core.Bool.{Bool, true, false, cond}
use native.Mathlib.Omega.{arith}

pub passed : (test : Bool) (refusal later : ℕ) → 0 < refusal → cond test refusal later ≡ 0 → (test ≡ false) × (later ≡ 0)
passed true refusal later h e = absurd (omega arith)
passed false refusal later h e = (refl, e)
