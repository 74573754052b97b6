-- `clock_delays::fill_places` meets its contract. Assumes nothing.
use native.Mathlib.Omega.{arith}
use native.Mathlib.Numerals.{add-one}
use Rattle.layout_rules.specs.Places.{netlist_in}
use Rattle.clock_delays.proofs.Entered.{symbols-in}
use Rattle.clock_delays.proofs.Placed.{places_started, places_next, start_place, next-place, next-small, places-all}
use Rattle.clock_delays.proofs.fill_places.Goals as goal

pub overflow_add-symbols : goal.overflow_add-symbols
overflow_add-symbols c = let N = c.args.netlist.now in omega (arith, symbols-in N.bytes.now N.read N.head N.head_read)

pub loop-symbol-init : goal.loop-symbol-init
loop-symbol-init c = let N = c.args.netlist.now in (
  start_place N.bytes.now N.read N.head N.head_read c.operations-operations.result c.operations-operations.ensures,
  places_started (netlist_in N.bytes.now) c.args.places.now c.requires.1,
)

pub offset_bounds-places-symbol : goal.offset_bounds-places-symbol
offset_bounds-places-symbol c = let N = c.args.netlist.now in omega (arith, symbols-in N.bytes.now N.read N.head N.head_read)

pub bounds-places-symbol : goal.bounds-places-symbol
bounds-places-symbol c = let N = c.args.netlist.now in omega (arith, symbols-in N.bytes.now N.read N.head N.head_read)

pub offset_bounds-longest-symbol : goal.offset_bounds-longest-symbol
offset_bounds-longest-symbol c = let N = c.args.netlist.now in omega (arith, symbols-in N.bytes.now N.read N.head N.head_read)

pub bounds-longest-symbol : goal.bounds-longest-symbol
bounds-longest-symbol c = let N = c.args.netlist.now in omega (arith, symbols-in N.bytes.now N.read N.head N.head_read)

pub overflow_add-at : goal.overflow_add-at
overflow_add-at c = let N = c.args.netlist.now in
    omega (arith, next-small N.bytes.now N.read N.head N.head_read c.args.longest.now c.requires.0 c.loop-symbol.symbol c.loop-symbol.at (omega arith) c.loop-symbol.invariant.0)

pub loop-symbol-preserved : goal.loop-symbol-preserved
loop-symbol-preserved c = let N = c.args.netlist.now in let l = c.loop-symbol in
    rw add-one (
      next-place N.bytes.now N.read N.head N.head_read c.args.longest.now c.requires.0 l.symbol l.at (omega arith) l.invariant.0,
      places_next (netlist_in N.bytes.now) l.symbol l.at l.invariant.0 l.places l.invariant.1 (omega (arith, symbols-in N.bytes.now N.read N.head N.head_read)),
    )

pub returns : goal.returns
returns c = let N = c.args.netlist.now in
    places-all N.bytes.now N.read N.head N.head_read c.loop-symbol.symbol c.loop-symbol.at c.loop-symbol.places (omega arith) c.loop-symbol.invariant.0 c.loop-symbol.invariant.1
