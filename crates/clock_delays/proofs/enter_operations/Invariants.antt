-- `clock_delays::enter_operations` meets its contract. After k operations the delays of their operands are entered. Assumes nothing.
use mathlib.Core.Path.{◌≡◌}
use Rattle.limits.specs.Limits.{max_symbols}
use Rattle.layout_rules.specs.Places.{head_at, first_operations, netlist_in}
use Rattle.board_rules.specs.Table.{filled}
use Rattle.clock_rules.specs.Delays.{operand_delays}
use Rattle.clock_rules.specs.Tables.{entered}
use Rattle.clock_delays.proofs.enter_operations.Given as goal

abbrev pub invariant-loop-k : goal.invariant-loop-k
invariant-loop-k l = let b = l.depths.netlist.bytes.now in l.longest ≡ entered (filled max_symbols 0) (operand_delays (netlist_in b) (head_at b).n (first_operations b l.k))
