-- `market_lines::read_digits` meets its contract. Assumes nothing.
use Prim.Native.Nat.{◌≤◌}
use Rattle.market_lines.proofs.Scan.{DigitsFrom}
use Rattle.market_lines.proofs.read_digits.Given as goal

abbrev pub invariant-loop-end : goal.invariant-loop-end
invariant-loop-end l = (l.value ≤ 65535) × DigitsFrom l.bytes l.from l.end l.value
