-- `clock_delays::enter` meets its contract. Assumes nothing.
use mathlib.Core.Path.{ap}
use lib.ListN.{set}
use Rattle.clock_rules.specs.Tables.{entered}
use Rattle.clock_delays.proofs.enter.Goals as goal

pub returns : goal.returns
unfolding entered
returns c = ap (set c.args.longest.now c.args.delay.symbol) c.max.ensures
