-- `verilog::write_ports` meets its contract. Assumes nothing.
use Rattle.std.proofs.Common.{arith, length-take, length-drop}
use Rattle.text.specs.Text.{ascii}
use Rattle.text.proofs.Wrote.{wrote_as, wrote_copy, wrote_more}
use Rattle.verilog.proofs.Parts.{bounds, ports_parts}
use Rattle.verilog.proofs.write_ports.Goals as goal

pub write_inputs-requires : goal.write_inputs-requires
write_inputs-requires c =
    let net = c.args.netlist.now in
    let few = bounds net.bytes.now net.head net.head_read net.read in
    simp (length-take, length-drop) (omega (arith, few.0, few.1, few.2))

pub write_outputs-requires : goal.write_outputs-requires
write_outputs-requires c =
    let net = c.args.netlist.now in
    let few = bounds net.bytes.now net.head net.head_read net.read in
    simp (length-take, length-drop) (omega (arith, few.0, few.1, few.2))

pub copy-requires : goal.copy-requires
copy-requires c =
    let net = c.args.netlist.now in
    let few = bounds net.bytes.now net.head net.head_read net.read in
    simp (length-take, length-drop) (omega (arith, few.0, few.1, few.2))

pub returns-clause-wrote : goal.returns-clause-wrote
returns-clause-wrote c =
    let net = c.args.netlist.now in
    wrote_as (ports_parts net.bytes.now net.head net.head_read)
    (wrote_more (wrote_more (wrote_more c.write_first-inputs.ensures.wrote c.write_inputs.ensures.wrote) c.write_outputs.ensures.wrote)
    (wrote_copy _ (ascii ");\n") _ _ c.copy.ensures.count c.copy.ensures.copied))

pub returns-clause-upper_bound : goal.returns-clause-upper_bound
returns-clause-upper_bound c =
    let net = c.args.netlist.now in
    let few = bounds net.bytes.now net.head net.head_read net.read in
    omega (arith, few.0, few.1, few.2, c.write_first-inputs.ensures.upper_bound, c.write_inputs.ensures.upper_bound, c.write_outputs.ensures.upper_bound, c.copy.ensures.count)
