-- `NetlistDepths::depth` meets its contract. Assumes nothing.
use native.Mathlib.Omega.{arith}
use Rattle.clock_delays.proofs.Entered.{symbols_few, depth_held}
use Rattle.clock_delays.proofs.depths.NetlistDepths.depth.Goals as goal

pub offset_bounds-self-symbol : goal.offset_bounds-self-symbol
offset_bounds-self-symbol c = omega (arith, symbols_few c.args.self.now)

pub bounds-self-symbol : goal.bounds-self-symbol
bounds-self-symbol c = omega (arith, symbols_few c.args.self.now)

pub returns : goal.returns
returns c = depth_held c.args.self.now c.args.symbol c.requires
