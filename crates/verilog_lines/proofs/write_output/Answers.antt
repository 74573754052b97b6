-- `verilog_lines::write_output` meets its contract. Assumes nothing.
use Rattle.text.proofs.Wrote.{wrote_as, wrote_more}
use Rattle.verilog_rules.specs.Module.{output_of}
use Rattle.verilog_lines.proofs.Parts.{output_parts}
use Rattle.verilog_lines.proofs.write_output.Goals as goal

pub returns-clause-wrote : goal.returns-clause-wrote
returns-clause-wrote c =
    wrote_as (output_parts c.args.ports c.args.inputs c.args.row _ (output_of c.args.output) c.top_bit-top.ensures) (wrote_more c.write_pair-at.ensures.wrote c.write_port_end.ensures.wrote)
