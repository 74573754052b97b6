-- `clock_delays::fill_waiting` meets its contract. The symbols with delays before one are in the table. Assumes nothing.
use Prim.Native.Nat.{◌-◌, ◌≤◌}
use Rattle.clock_rules.specs.Tables.{WaitingHeld}
use Rattle.clock_delays.proofs.fill_waiting.Given as goal

abbrev pub invariant-loop-symbol : goal.invariant-loop-symbol
invariant-loop-symbol l = (l.symbol ≤ l.symbols) × WaitingHeld l.longest l.symbol l.waiting l.entries

abbrev pub decreases-loop-symbol : goal.decreases-loop-symbol
decreases-loop-symbol l = l.symbols - l.symbol
