-- The marked clocks hold, by computation.
-- Assumes nothing.
use mathlib.Core.Path.{refl}
use Rattle.board_rules.specs.Machine.{depth}
use Rattle.clock_rules.specs.Delays.{symbol_depth, netlist_depth, longest_delay, delays_below}
use Rattle.clock_rules.specs.Clocked.{cleared, outputs_from, store_from}
use Rattle.clock_rules.specs.Marked.{MarkedClocks}

pub marked : MarkedClocks
unfolding depth symbol_depth netlist_depth longest_delay delays_below cleared outputs_from store_from
marked = record {
  three_registers = refl;
  three_outputs = refl;
  three_store = refl;
  none-clocked = refl;
  small-registers = refl;
  small-outputs = refl;
  small-store = refl;
  compiled-registers = refl;
  compiled-outputs = refl;
  compiled-store = refl;
}
