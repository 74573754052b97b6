-- `text::write_number` meets its contract. The loop's invariant: the digits left to work out, then those stored, are the number's.
-- Assumes nothing.
use Prim.Native.Nat.{suc, ◌≤◌}
use mathlib.Core.Path.{◌≡◌}
use mathlib.Core.List.{◌++◌}
use lib.ListN.{length, drop}
use Rattle.text.specs.Decimal.{number}
use Rattle.text.proofs.write_number.Given as goal

abbrev pub invariant-loop-rest : goal.invariant-loop-rest
invariant-loop-rest l =
    (number l.rest ++ drop (suc l.start) l.digits ≡ number l.value) × (length (number l.rest) ≤ suc l.start) × (l.start ≤ 19) × (length l.digits ≡ 20)

abbrev pub decreases-loop-rest : goal.decreases-loop-rest
decreases-loop-rest l = l.rest
