-- `verilog::write_module` meets its contract. Assumes nothing.
use Rattle.layout_rules.specs.Places.{netlist_in}
use Rattle.text.specs.Text.{ascii}
use Rattle.text.proofs.Wrote.{wrote_as, wrote_copy, wrote_more}
use Rattle.verilog_rules.specs.Module.{module_of}
use Rattle.verilog.proofs.Parts.{module_parts}
use Rattle.verilog.proofs.write_module.Goals as goal

pub returns : goal.returns
returns c =
    wrote_as (module_parts (module_of (netlist_in c.args.netlist.now.bytes.now)))
    (wrote_more (wrote_more c.write_ports-wires.ensures.wrote c.write_assignments.ensures.wrote) (wrote_copy _ (ascii "endmodule\n") _ _ c.copy.ensures.count c.copy.ensures.copied))
