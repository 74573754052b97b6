-- `NetlistDepths::operand_delays` meets its contract. Assumes nothing.
use mathlib.Core.Path.{refl}
use native.Mathlib.Omega.{arith}
use Rattle.clock_delays.proofs.Entered.{symbols_few, operands_ready}
use Rattle.clock_delays.proofs.depths.NetlistDepths.operand_delays.Goals as goal

pub overflow_add-n : goal.overflow_add-n
overflow_add-n c = omega (arith, symbols_few c.args.self.now)

pub overflow_sub-taken : goal.overflow_sub-taken
overflow_sub-taken c = let R = operands_ready c.args.self.now c.args.k c.requires c.operation-o.result c.operation-o.ensures in
    omega (arith, rw c.n.ensures at c.depth-taken.ensures, R.first-shallower)

pub depth-requires : goal.depth-requires
depth-requires c = let R = operands_ready c.args.self.now c.args.k c.requires c.operation-o.result c.operation-o.ensures in omega (arith, R.first_earlier)

pub overflow_sub-result : goal.overflow_sub-result
overflow_sub-result c = let R = operands_ready c.args.self.now c.args.k c.requires c.operation-o.result c.operation-o.ensures in
    omega (arith, rw c.n.ensures at c.depth-taken.ensures, c.depth.ensures, R.first-shallower)

pub depth-requires-2 : goal.depth-requires-2
depth-requires-2 c = let R = operands_ready c.args.self.now c.args.k c.requires c.operation-o.result c.operation-o.ensures in omega (arith, R.second_earlier)

pub overflow_sub-result-2 : goal.overflow_sub-result-2
overflow_sub-result-2 c = let R = operands_ready c.args.self.now c.args.k c.requires c.operation-o.result c.operation-o.ensures in
    omega (arith, rw c.n.ensures at c.depth-taken.ensures, c.depth-2.ensures, R.second-shallower)

pub returns : goal.returns
returns c = (
  rw (c.depth-taken.ensures, c.n.ensures, c.depth.ensures, c.operation-o.ensures) refl,
  rw (c.depth-taken.ensures, c.n.ensures, c.depth-2.ensures, c.operation-o.ensures) refl,
)
