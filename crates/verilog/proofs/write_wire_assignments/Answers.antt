-- `verilog::write_wire_assignments` meets its contract. Assumes nothing.
use Rattle.std.proofs.Common.{rules, arith}
use borrow.Author.Rules.{in_lives}
use Rattle.text.proofs.Wrote.{wrote_as}
use Rattle.verilog_rules.specs.Text.{wire_assignment}
use Rattle.verilog.proofs.Parts.{bounds, wires_listed}
use Rattle.verilog.proofs.write_wire_assignments.Goals as goal

pub write_lines-requires : goal.write_lines-requires
write_lines-requires c κs within =
    let net = c.args.netlist.now in
    let few = bounds net.bytes.now net.head net.head_read net.read in
    (simp (in_lives, within.0, within.1.0, within.1.1.0) (search rules), (omega arith, (λ k part h room. search (rules, few.0, few.2), λ k before written after h w. search rules)))

pub returns-clause-wrote : goal.returns-clause-wrote
returns-clause-wrote c =
    let net = c.args.netlist.now in
    wrote_as (wires_listed net.bytes.now net.head net.head_read (wire_assignment net.head.n) net.head.n)
    (c.write_lines.ensures.wrote _ (λ k before after written h w. search rules))
