-- `verilog::write_assignments` meets its contract. Assumes nothing.
use Rattle.std.proofs.Common.{arith, length-take, length-drop}
use Rattle.text.proofs.Wrote.{wrote_as, wrote_more}
use Rattle.verilog.proofs.Parts.{bounds, assignments_parts}
use Rattle.verilog.proofs.write_assignments.Goals as goal

pub write_wires-assigned-requires : goal.write_wires-assigned-requires
write_wires-assigned-requires c =
    let net = c.args.netlist.now in
    let few = bounds net.bytes.now net.head net.head_read net.read in
    omega (arith, few.0, few.1, few.2)

pub write_wire_assignments-requires : goal.write_wire_assignments-requires
write_wire_assignments-requires c =
    let net = c.args.netlist.now in
    let few = bounds net.bytes.now net.head net.head_read net.read in
    simp (length-take, length-drop) (omega (arith, few.0, few.1, few.2))

pub write_output_assignments-requires : goal.write_output_assignments-requires
write_output_assignments-requires c =
    let net = c.args.netlist.now in
    let few = bounds net.bytes.now net.head net.head_read net.read in
    simp (length-take, length-drop) (omega (arith, few.0, few.1, few.2))

pub returns-clause-wrote : goal.returns-clause-wrote
returns-clause-wrote c =
    let net = c.args.netlist.now in
    wrote_as (assignments_parts net.bytes.now net.head net.head_read)
    (wrote_more (wrote_more c.write_wires-assigned.ensures.wrote c.write_wire_assignments.ensures.wrote) c.write_output_assignments.ensures.wrote)

pub returns-clause-upper_bound : goal.returns-clause-upper_bound
returns-clause-upper_bound c =
    let net = c.args.netlist.now in
    let few = bounds net.bytes.now net.head net.head_read net.read in
    omega (arith, few.0, few.1, few.2, c.write_wires-assigned.ensures.upper_bound, c.write_wire_assignments.ensures.upper_bound, c.write_output_assignments.ensures.upper_bound)
