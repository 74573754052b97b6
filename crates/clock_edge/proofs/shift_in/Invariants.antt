-- `clock_edge::shift_in` meets its contract. What is left to do is the shift from `at` on, of the value carried. Assumes nothing.
use Prim.Native.Nat.{◌+◌, ◌-◌}
use mathlib.Core.Path.{◌≡◌}
use lib.ListN.{length}
use Rattle.clock_rules.specs.InPlace.{shifted_in}
use Rattle.clock_edge.proofs.shift_in.Given as goal

abbrev pub invariant-loop-at : goal.invariant-loop-at
invariant-loop-at l =
    (length l.store ≡ length l.initial.store) × (shifted_in l.store l.at (l.place + l.count - l.at) l.carried ≡ shifted_in l.initial.store l.place l.count l.value)
