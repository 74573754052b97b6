-- `clock_delays::enter_operations` meets its contract. Assumes nothing.
use native.Mathlib.Omega.{arith}
use native.Mathlib.Numerals.{add-one}
use Rattle.layout_rules.specs.Places.{head_at, first_records, first_operations, netlist_in}
use Rattle.clock_rules.specs.Delays.{operand_delays}
use Rattle.clock_rules.specs.Tables.{entered}
use Rattle.clock_delays.proofs.Entered.{n-is, entered-room, operands_below, operation-entered}
use Rattle.clock_delays.proofs.enter_operations.Goals as goal

pub loop-k-init : goal.loop-k-init
unfolding first_records operand_delays entered
loop-k-init c = c.requires

pub enter-requires : goal.enter-requires
enter-requires c = let D = c.args.depths.now in let b = D.netlist.bytes.now in let e = c.operand_delays.ensures in (
  (operands_below D c.loop-k.k (omega arith) c.operand_delays.result.0 c.operand_delays.result.1 e.0 e.1).0,
  entered-room (operand_delays (netlist_in b) (head_at b).n (first_operations b c.loop-k.k)) c.loop-k.longest c.loop-k.invariant,
)

pub enter-requires-in-loop-k : goal.enter-requires-in-loop-k
enter-requires-in-loop-k c = let e = c.operand_delays.ensures in
    ((operands_below c.args.depths.now c.loop-k.k (omega arith) c.operand_delays.result.0 c.operand_delays.result.1 e.0 e.1).1, c.enter.array_long)

pub loop-k-preserved : goal.loop-k-preserved
loop-k-preserved c = let N = c.args.depths.now.netlist in
    rw add-one (operation-entered N.bytes.now N.head.n (n-is N.bytes.now N.read N.head N.head_read) c.loop-k.k c.operand_delays.result.0 c.operand_delays.result.1
    c.operand_delays.ensures.0 c.operand_delays.ensures.1 c.loop-k.longest c.enter.new.longest c.enter-in-loop-k.new.longest
    c.enter.ensures c.enter-in-loop-k.ensures c.loop-k.invariant)
