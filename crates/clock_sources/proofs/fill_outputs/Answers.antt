-- `clock_sources::fill_outputs` meets its contract. Assumes nothing.
use native.Mathlib.Omega.{arith}
use native.Mathlib.Numerals.{add-one}
use Rattle.clock_delays.proofs.Entered.{rows_few}
use Rattle.clock_sources.proofs.SourceLaws.{outputs_next, outputs-all, output-of}
use Rattle.clock_sources.proofs.fill_outputs.Goals as goal

pub loop-i-init : goal.loop-i-init
loop-i-init c = record { room = c.requires.1; output = λ j h. absurd (omega arith) }

pub offset_bounds-places-delay : goal.offset_bounds-places-delay
offset_bounds-places-delay c =
    let K = output-of c.args.depths.now c.args.places.now c.requires.0 c.loop-i.i (omega arith) c.output_delay-delay.result c.output_delay-delay.ensures in omega (arith, K.below)

pub bounds-places-delay : goal.bounds-places-delay
bounds-places-delay c = (output-of c.args.depths.now c.args.places.now c.requires.0 c.loop-i.i (omega arith) c.output_delay-delay.result c.output_delay-delay.ensures).below

pub source_of-requires : goal.source_of-requires
source_of-requires c =
    let K = output-of c.args.depths.now c.args.places.now c.requires.0 c.loop-i.i (omega arith) c.output_delay-delay.result c.output_delay-delay.ensures in
    (omega (arith, K.narrow), K.within)

pub offset_bounds-sources-i : goal.offset_bounds-sources-i
offset_bounds-sources-i c = omega (arith, rows_few c.args.depths.now)

pub bounds-sources-i : goal.bounds-sources-i
bounds-sources-i c = omega (arith, rows_few c.args.depths.now)

pub loop-i-preserved : goal.loop-i-preserved
loop-i-preserved c = let N = c.args.depths.now.netlist in
    rw add-one (outputs_next N.bytes.now N.read N.head N.head_read c.args.places.now c.requires.0 c.loop-i.i (omega arith) c.output_delay-delay.result c.output_delay-delay.ensures
    c.source_of.result (rw c.n-n.ensures at c.source_of.ensures) c.loop-i.sources c.loop-i.invariant)

pub returns : goal.returns
returns c = let N = c.args.depths.now.netlist in
    outputs-all N.bytes.now N.read N.head N.head_read c.args.places.now c.requires.0 c.loop-i.i (omega arith) c.loop-i.sources c.loop-i.invariant
