-- `clock_delays::enter_outputs` meets its contract. After i outputs their delays are entered, behind those of all operands. Assumes nothing.
use mathlib.Core.Path.{◌≡◌}
use Rattle.limits.specs.Limits.{max_symbols}
use Rattle.board_rules.specs.Table.{filled}
use Rattle.clock_rules.specs.Tables.{entered}
use Rattle.clock_delays.proofs.Entered.{delays_to}
use Rattle.clock_delays.proofs.enter_outputs.Given as goal

abbrev pub invariant-loop-i : goal.invariant-loop-i
invariant-loop-i l = l.longest ≡ entered (filled max_symbols 0) (delays_to l.depths.netlist.bytes.now l.i)
