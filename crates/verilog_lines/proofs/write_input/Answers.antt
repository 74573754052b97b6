-- `verilog_lines::write_input` meets its contract. Assumes nothing.
use Rattle.text.proofs.Wrote.{wrote_as, wrote_more}
use Rattle.verilog_lines.proofs.Parts.{input_parts}
use Rattle.verilog_lines.proofs.write_input.Goals as goal

pub returns-clause-wrote : goal.returns-clause-wrote
returns-clause-wrote c =
    wrote_as (input_parts c.args.ports c.args.column c.args.width _ c.top_bit-top.ensures) (wrote_more c.write_pair-at.ensures.wrote c.write_port_end.ensures.wrote)
