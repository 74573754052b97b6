-- `clock_delays::fill_places` meets its contract. The places of the symbols before one are in the table. Assumes nothing.
use mathlib.Core.Path.{◌≡◌}
use Rattle.layout_rules.specs.Places.{netlist_in}
use Rattle.clock_rules.specs.Delays.{delay_place}
use Rattle.clock_delays.proofs.Placed.{PlacesTo}
use Rattle.clock_delays.proofs.fill_places.Given as goal

abbrev pub invariant-loop-symbol : goal.invariant-loop-symbol
invariant-loop-symbol l = let net = netlist_in l.netlist.bytes.now in (l.at ≡ delay_place net l.symbol) × PlacesTo net l.symbol l.places
