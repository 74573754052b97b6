-- `clock_sources::fill_operands` meets its contract. Assumes nothing.
use native.Mathlib.Omega.{arith}
use native.Mathlib.Numerals.{add-one}
use Rattle.clock_delays.proofs.Entered.{operations_few}
use Rattle.clock_sources.proofs.SourceLaws.{operands_next, operands-all, first-of, second-of}
use Rattle.clock_sources.proofs.fill_operands.Goals as goal

pub loop-k-init : goal.loop-k-init
loop-k-init c = record { room = c.requires.1; held = λ j h. absurd (omega arith) }

pub offset_bounds-places-first : goal.offset_bounds-places-first
offset_bounds-places-first c =
    let K = first-of c.args.depths.now c.args.places.now c.requires.0 c.loop-k.k (omega arith) c.operand_delays.result.0 c.operand_delays.ensures.0 in omega (arith, K.below)

pub bounds-places-first : goal.bounds-places-first
bounds-places-first c = (first-of c.args.depths.now c.args.places.now c.requires.0 c.loop-k.k (omega arith) c.operand_delays.result.0 c.operand_delays.ensures.0).below

pub source_of-requires : goal.source_of-requires
source_of-requires c =
    let K = first-of c.args.depths.now c.args.places.now c.requires.0 c.loop-k.k (omega arith) c.operand_delays.result.0 c.operand_delays.ensures.0 in
    (omega (arith, K.narrow), K.within)

pub offset_bounds-places-second : goal.offset_bounds-places-second
offset_bounds-places-second c =
    let K = second-of c.args.depths.now c.args.places.now c.requires.0 c.loop-k.k (omega arith) c.operand_delays.result.1 c.operand_delays.ensures.1 in omega (arith, K.below)

pub bounds-places-second : goal.bounds-places-second
bounds-places-second c = (second-of c.args.depths.now c.args.places.now c.requires.0 c.loop-k.k (omega arith) c.operand_delays.result.1 c.operand_delays.ensures.1).below

pub source_of-requires-in-loop-k : goal.source_of-requires-in-loop-k
source_of-requires-in-loop-k c =
    let K = second-of c.args.depths.now c.args.places.now c.requires.0 c.loop-k.k (omega arith) c.operand_delays.result.1 c.operand_delays.ensures.1 in
    (omega (arith, K.narrow), K.within)

pub offset_bounds-operands-k : goal.offset_bounds-operands-k
offset_bounds-operands-k c = omega (arith, operations_few c.args.depths.now)

pub bounds-operands-k : goal.bounds-operands-k
bounds-operands-k c = omega (arith, operations_few c.args.depths.now)

pub loop-k-preserved : goal.loop-k-preserved
loop-k-preserved c = let N = c.args.depths.now.netlist in let d = c.operand_delays in
    rw add-one (operands_next N.bytes.now N.read N.head N.head_read c.args.places.now c.requires.0 c.loop-k.k (omega arith) d.result.0 d.result.1 d.ensures.0 d.ensures.1
    c.source_of.result c.source_of-in-loop-k.result (rw c.n-n.ensures at c.source_of.ensures) (rw c.n-n.ensures at c.source_of-in-loop-k.ensures) c.loop-k.operands c.loop-k.invariant)

pub returns : goal.returns
returns c = let N = c.args.depths.now.netlist in
    operands-all N.bytes.now N.read N.head N.head_read c.args.places.now c.requires.0 c.loop-k.k (omega arith) c.loop-k.operands c.loop-k.invariant
