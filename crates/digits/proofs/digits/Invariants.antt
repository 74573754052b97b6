-- `digits::digits` meets its contract. The loop's invariant: the digits so far and those of what is left are the number's digits.
-- Assumes nothing.
use mathlib.Core.Path.{◌≡◌}
use mathlib.Core.List.{◌++◌}
use Prim.Native.Nat.{◌-◌, ◌≤◌}
use lib.ListN.{length, take}
use Rattle.digits.specs.Digits.{digits}
use Rattle.digits.proofs.digits.Given as goal

abbrev pub invariant-loop-i : goal.invariant-loop-i
invariant-loop-i l =
    (l.i ≤ length l.out) × (length l.out ≡ length l.initial.out) × (take l.i l.out ++ digits (length l.out - l.i) (l.left) ≡ digits (length l.out) (l.initial.left))
