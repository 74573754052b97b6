-- An array of which the first items count, with another item in the place of one of them.
-- Assumes nothing.
use Prim.Native.Nat.{ℕ, ◌<◌}
use mathlib.Core.Path.{◌≡◌}
use mathlib.Core.List.{List}
use native.Mathlib.Omega.{arith}
use lib.ListN.{length, take, set, length-take}
use lib.Seq.{take-set-lt}

pub filled_put : {A : Type 0} (l : List A) (n i : ℕ) (a : A) → i < length (take n l) → take n (set l i a) ≡ set (take n l) i a
filled_put l n i a h = take-set-lt n l i a (omega (arith, length-take n l))
